-- A state as bytes, there and back: `Coding`. An answer as bytes: `Written`. A record's row: `Answering`. Many records: `Playing`.
-- What each function answers, by its lengths: `Cases`. A refused call leaves every byte: `Leaves`.
pub mod Coding
pub mod Written
pub mod Answering
pub mod Playing
pub mod Cases
pub mod Leaves
