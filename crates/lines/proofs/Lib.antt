pub mod Decimal
pub mod Line
pub mod Told
pub mod Pieces
pub mod Going
pub mod Playing
