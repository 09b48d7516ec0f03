-- A state as bytes: `State`. An answer as bytes: `Row`. What records answer, and the state they leave: `Records`. What each function answers and writes: `Outcome`.
pub mod State
pub mod Row
pub mod Records
pub mod Outcome
