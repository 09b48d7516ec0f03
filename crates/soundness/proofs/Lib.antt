-- `Seen`: a state is sound where what can be seen of it is. `Slots`, `Listing`: a view changed at one slot, and the opening order.
-- `Fresh`, `Marks`, `Release`, `Remove`, `Enter`, `Open`: the fresh start is sound, and each small change of a sound state leaves a sound state.
-- `GivenOut`: the ticket given out. `Free`: what a free slot shows. `Accepted`: what a call finds that is not refused. `Arms`: which arm each call takes.
-- `Calls`: every call on a sound state leaves a sound state. `Refused`: a refused call changes nothing. `Holds`: a release holds the others. `Room`: a close makes room. `Every`: the same of every state, damaged ones too.
pub mod Seen
pub mod Slots
pub mod Listing
pub mod Fresh
pub mod Marks
pub mod Release
pub mod Remove
pub mod GivenOut
pub mod Free
pub mod Enter
pub mod Open
pub mod Accepted
pub mod Arms
pub mod Calls
pub mod Refused
pub mod Holds
pub mod Room
pub mod Every
