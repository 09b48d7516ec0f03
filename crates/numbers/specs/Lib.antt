-- `Limits`: how many jobs and databases there are. `Ticket`: numbers given out, and the search for one that is not held. `First`: the same rule as a statement, with no search in it.
pub mod Limits
pub mod Ticket
pub mod First
