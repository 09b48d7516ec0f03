use Rattle.mask.proofs.Walking.{left_turn}
use Rattle.mask.proofs.Words.{or_shl}
use Rattle.search.specs.Limits.{jobs}
use Rattle.search.proofs.put_ahead.Goals as goal

pub loop-v-preserved : goal.loop-v-preserved
loop-v-preserved c =
    left_turn _ jobs _ _ _ _ _ c.in-Some.ensures.steps.0 c.loop-v.invariant _ _ c.in-Some.ensures.steps.1
    (rw (or_shl 16 _ _ c.requires))
