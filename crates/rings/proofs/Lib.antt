-- `Orders`: chains, and orders of numbers. `Paths`: a closed path has a greatest member. `Rings`: no ring of jobs. `Cycles`: no cycle.
-- `Progress`: nothing stands still, and the promise whole. `Later`: the rule on walks stays.
-- `Opening`, `Marking`, `Releasing`, `Closing`: each small change keeps the rules. `Calls`: so does each call. `Example`: a history of which all of it is true.
pub mod Orders
pub mod Paths
pub mod Rings
pub mod Cycles
pub mod Progress
pub mod Later
pub mod Opening
pub mod Marking
pub mod Releasing
pub mod Closing
pub mod Calls
pub mod Example
