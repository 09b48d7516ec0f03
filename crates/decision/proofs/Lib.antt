-- `Tickets`, `Order`, `Steps`: what each part of the test for soundness decides. `Decides`: the test is true exactly where document 01's clauses hold.
pub mod Tickets
pub mod Order
pub mod Steps
pub mod Decides
