use Rattle.std.proofs.Common.{◌∙◌}
use Rattle.mask.proofs.Gather.{answer_shl, gather_among}
use Rattle.mask.proofs.Walking.{left_start, left_turn, left_done}
use Rattle.coordinator.specs.Limits.{jobs}
use Rattle.coordinator.specs.Tables.{may_close_now_in}
use Rattle.coordinator.proofs.may_close.may_close_now.Goals as goal

pub loop-j-init : goal.loop-j-init
loop-j-init c = rw (c.into_iter-j-iterator.ensures.into_iter_gives, c.members-j-items.ensures) (left_start _ _ _ _)

pub loop-j-preserved : goal.loop-j-preserved
loop-j-preserved c =
    left_turn _ jobs _ _ _ _ _ c.in-Some.ensures.steps.0 c.loop-j.invariant _ _ c.in-Some.ensures.steps.1 (rw (← c.may_close.ensures, answer_shl 32 _ _ _ c.from.ensures c.in-Some.ensures.steps.0.within))

pub returns : goal.returns
unfolding may_close_now_in
returns c = left_done _ jobs _ _ _ _ c.in-None.ensures.steps.0 c.loop-j.invariant ∙ gather_among jobs _ _
