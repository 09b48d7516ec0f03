-- The state: `Limits`, `Fresh`, `Views`, `Shape`. Which states are sound: `Sound`, and its test, `Test`. What the code reads of a state: `Tables`. The refusals: `Holder`, `Refusal`.
-- The calls: `Change`, `Release`, `Open` (with `Bound`, how many moves it can take), `Ask`, `Confirm`, `Close`; what they answer in document 01's numbers: `Answer`, `Call`.
pub mod Limits
pub mod Fresh
pub mod Views
pub mod Shape
pub mod Sound
pub mod Holder
pub mod Test
pub mod Tables
pub mod Refusal
pub mod Change
pub mod Release
pub mod Bound
pub mod Open
pub mod Ask
pub mod Confirm
pub mod Close
pub mod Answer
pub mod Call
