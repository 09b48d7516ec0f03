-- `Relation`: rings and chains of a relation, and orders. `History`: what has happened, with jobs before one another.
-- `Columns`: a fresh start, and a history with one column changed. `Change`: what each small change makes of a history.
-- `Past`: what every history keeps. `Promise`: no ring of jobs, nothing that stands still.
-- `Profile`: what a profile keeps beside the history, and its rules. `Arranged`: what it has to show of a moment, for the promise.
-- `Lawful`: what it has to show of each change, so that every call keeps that. `Run`: the calls, one after another from a fresh start.
pub mod Relation
pub mod History
pub mod Columns
pub mod Change
pub mod Past
pub mod Promise
pub mod Arranged
pub mod Profile
pub mod Lawful
pub mod Run
