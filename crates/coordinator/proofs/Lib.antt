-- `Tables`: what the functions that are lent a table say is what the definitions say of the state. `Going`: gathering the steps that may go.
-- `Unconfirmed`: gathering the slots with a step that is not confirmed. `Reach`: what is read beyond the last database or slot.
-- `Step`: what ask and confirm have read by the time that they are not refused. `Tested`: a call that tests the state first.
-- `Answered`: a call that a row refuses, and one that none does. `Opening`, `Ending`: what open and close read, and leave. `Closings`: closing job after job.
pub mod Tables
pub mod Unconfirmed
pub mod Closings
pub mod Ending
pub mod Going
pub mod Reach
pub mod Opening
pub mod Step
pub mod Tested
pub mod Answered
