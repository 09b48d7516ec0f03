-- What every call keeps, and of which calls. Assumes nothing: these are definitions.
use Rattle.std.specs.Prelude.{◌^◌, ◌<◌}
use Rattle.coordinator.specs.declared.Coordinator.{Coordinator}
use Rattle.coordinator.specs.Shape.{Shape}
use Rattle.coordinator.specs.Sound.{Sound}
use Rattle.coordinator.specs.Call.{Call, open_job, ask_step, confirm_step, close_job}

-- a state that its type allows, and that is sound
abbrev pub Kept : Coordinator → Type 0
Kept s = Shape s × Sound s

-- a mask has 16 bits; any ticket and any database may be named
abbrev pub MaskFits : Call → Type 0
MaskFits (open_job mask) = mask < 2 ^ 16
MaskFits (ask_step t k) = Unit {0}
MaskFits (confirm_step t k) = Unit {0}
MaskFits (close_job t) = Unit {0}
