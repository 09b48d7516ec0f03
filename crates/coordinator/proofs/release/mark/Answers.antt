use Rattle.mask.proofs.Words.{or_shl}
use Rattle.coordinator.specs.Change.{mark}
use Rattle.coordinator.proofs.release.mark.Goals as goal

pub returns : goal.returns
unfolding mark
returns c = rw (or_shl 32 _ _ c.args.step.in_range.0)
