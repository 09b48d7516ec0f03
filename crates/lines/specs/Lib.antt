-- An answer as numbers: `Said`. What a record answers: `Answered`. A line of four decimal numbers: `Line`. The lines of many records, and the state they leave: `Lines`.
-- What playing them into a buffer leaves: `Playing`. Records that come in pieces: `Pieces`.
pub mod Said
pub mod Answered
pub mod Line
pub mod Lines
pub mod Playing
pub mod Pieces
