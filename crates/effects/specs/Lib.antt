-- `View`: what can be seen of a state. `Effect`: what the small changes of the tables change of it.
pub mod View
pub mod Effect
