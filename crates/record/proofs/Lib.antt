-- The tickets that a close tells: `Tickets`. What each call answers as a record: `Playing`. A record leaves a state as sound as it was: `Stays`. Records as chunks of bytes: `Chunks`.
pub mod Tickets
pub mod Playing
pub mod Stays
pub mod Chunks
