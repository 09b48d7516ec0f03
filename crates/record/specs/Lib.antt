-- Which call a record is: `Record`, and as the code reads it: `Request`. What it answers: `Answer`; given whether the state is sound: `Tested`. The tickets in its row: `Row`.
pub mod Record
pub mod Request
pub mod Answer
pub mod Row
pub mod Tested
