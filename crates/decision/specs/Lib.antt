-- `Clause`: what each part of the test for soundness decides, in views.
pub mod Clause
