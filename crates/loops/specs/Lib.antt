-- `Loop`: loops and tests of a program as functions. `Sum`: sums, and how many pairs pass a test. `Table`: a list by its elements.
pub mod Loop
pub mod Sum
pub mod Table
