-- The number of each refusal: `Number`. The rows of the refusals of each call: `Refusal`. What the code gives back: `Outcome`.
pub mod Number
pub mod Refusal
pub mod Outcome
