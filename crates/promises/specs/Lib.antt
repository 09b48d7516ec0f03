-- `Told`: what the calls and their answers tell. `Moment`: histories. `Promise`: what holds after every history.
pub mod Told
pub mod Moment
pub mod Promise
pub mod Tied
pub mod Invariant
pub mod Tables
pub mod Everywhere
pub mod Promises
pub mod Determined
pub mod Sheet
