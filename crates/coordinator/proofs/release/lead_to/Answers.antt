use Rattle.mask.proofs.Words.{one_shl}
use Rattle.mask.proofs.Walking.{left_turn, left_done}
use Rattle.coordinator.specs.Limits.{jobs}
use Rattle.coordinator.specs.Change.{lead, lead_to}
use Rattle.coordinator.proofs.release.lead_to.Goals as goal

pub loop-b-preserved : goal.loop-b-preserved
loop-b-preserved c =
    left_turn _ jobs _ _ _ _ _ c.in-Some.ensures.steps.0 c.loop-b.invariant _ _ c.in-Some.ensures.steps.1 (rw (one_shl 32 _ c.args.step.in_range.0))

pub returns : goal.returns
unfolding lead_to lead
returns c = left_done _ jobs _ _ _ _ c.in-None.ensures.steps.0 c.loop-b.invariant
