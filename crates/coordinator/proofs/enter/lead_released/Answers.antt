use Rattle.mask.proofs.Walking.{left_turn, left_done}
use Rattle.coordinator.specs.Limits.{databases}
use Rattle.coordinator.proofs.enter.lead_released.Goals as goal

pub loop-k-preserved : goal.loop-k-preserved
loop-k-preserved c =
    left_turn _ databases _ _ _ _ _ c.in-Some.ensures.steps.0 c.loop-k.invariant _ _ c.in-Some.ensures.steps.1 c.lead.ensures

pub returns : goal.returns
returns c = left_done _ databases _ _ _ _ c.in-None.ensures.steps.0 c.loop-k.invariant
