use Rattle.std.proofs.Common.{◌∙◌, ap, arith}
use Rattle.mask.proofs.Words.{one_shl}
use Rattle.coordinator.specs.Change.{removed}
use Rattle.coordinator.proofs.Closings.{going_start, going_room, going_turn, going_done}
use Rattle.coordinator.proofs.Coordinator.close_from.Goals as goal

pub loop-left-init : goal.loop-left-init
loop-left-init c = going_start _ _ _ c.args.job.in_range (one_shl 32 _ c.args.job.in_range)

pub bounds-tickets-count : goal.bounds-tickets-count
bounds-tickets-count c = going_room c.loop-left.invariant c.loop-left-test.true

pub loop-left-smaller : goal.loop-left-smaller
loop-left-smaller c = omega (arith, going_room c.loop-left.invariant c.loop-left-test.true)

pub loop-left-preserved : goal.loop-left-preserved
loop-left-preserved c = going_turn c.loop-left.invariant c.loop-left-test.true _ _ _ (c.remove.ensures ∙ ap (removed c.loop-left.self) c.lowest_of-slot.ensures) (rw c.lowest_of-slot.ensures) c.may_close_now-left.ensures

pub returns : goal.returns
returns c = going_done c.loop-left.invariant c.loop-left-test.false
