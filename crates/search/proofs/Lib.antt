-- `Ahead`: what is ahead of the slots at first. `Trying`: the slots to try. `Onward`, `Moves`: from part to part, and by one move.
-- `Slots`, `Databases`: the loops of the two visits. `Answer`: the whole. `Promise`: what is answered, in the words of walks.
pub mod Ahead
pub mod Trying
pub mod Onward
pub mod Moves
pub mod Slots
pub mod Databases
pub mod Answer
pub mod Promise
