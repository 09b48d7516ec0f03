-- `SoundView`: soundness, told of what can be seen. `Changed`: what a small change of a sound state leaves.
-- `GivenOut`: the rule for tickets. `Accepted`: what a call finds that is not refused. `Kept`: what every call keeps. `Refused`: the refusal of a call.
pub mod SoundView
pub mod Changed
pub mod GivenOut
pub mod Accepted
pub mod Kept
pub mod Refused
