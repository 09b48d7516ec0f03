-- `Tests`: what is true or false. `Rules`: what a step keeps, the loop keeps. `Turns`: a loop's invariant turn by turn. `Sums`: bounds and changes of sums.
-- `Tables`: lists by their elements. `Pigeonhole`: no more different numbers than there is room. `Chains`: what a chain of iterators answers. `Chunks`: a list in pieces.
pub mod Tests
pub mod Rules
pub mod Turns
pub mod Sums
pub mod Pigeonhole
pub mod Tables
pub mod Chains
pub mod Chunks
