-- The limits: `Limits`. Who is open, and who holds a ticket: `Tables`. Whether the tables are sound: `Test`; what its code asks for on the way: `Parts`.
pub mod Limits
pub mod Tables
pub mod Test
pub mod Parts
