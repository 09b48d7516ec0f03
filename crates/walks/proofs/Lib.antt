-- `Promise`: all that is promised of the opening search. `Opening`: the same of an opening's search, ready to be cited. `Slips`, `Instances`: walks and searches of small graphs.
-- Walks: `Walk`, `Named`, `Engine`. The nested form: `Marking`, `Next`, `Visit`, `Nested`. The machine: `First`, `Choice`, `Trail`, `Invariant`, `Machine`. Both: `Same`.
pub mod Walk
pub mod Named
pub mod Engine
pub mod Marking
pub mod Next
pub mod Visit
pub mod Nested
pub mod First
pub mod Choice
pub mod Trail
pub mod Invariant
pub mod Machine
pub mod Same
pub mod Promise
pub mod Opening
pub mod Slips
pub mod Instances
