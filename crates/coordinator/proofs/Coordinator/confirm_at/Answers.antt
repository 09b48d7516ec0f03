use Rattle.std.proofs.Common.{◌≡◌, sym, eq-eqb}
use borrow.Author.Tests.{ne_eqb}
use Rattle.coordinator.specs.Views.{ticket}
use Rattle.coordinator.specs.Change.{mark_confirmed, mark_released, with_dependencies}
use Rattle.coordinator.specs.Release.{may_go_at, first_of, release}
use Rattle.coordinator.specs.Confirm.{confirmed_at, released_one}
use Rattle.coordinator.proofs.Coordinator.confirm_at.Goals as goal

pub returns-then-free-eq0 : goal.returns-then-free-eq0
unfolding confirmed_at mark_confirmed
returns-then-free-eq0 c =
    let s = c.args.self.now in
    let k = c.args.step.database.0 in
    let e : may_go_at (mark_confirmed s c.args.step.slot.0 k) k ≡ c.going_beside-free.result = rw (← c.mark.ensures) (sym c.going_beside-free.ensures) in
    rw (confirmed_at, e, eq-eqb c.going_beside-free.result 0 c.if-free-eq0.true, c.mark.ensures)

pub returns : goal.returns
unfolding confirmed_at mark_confirmed released_one first_of ticket release mark_released with_dependencies
returns c =
    let s = c.args.self.now in
    let k = c.args.step.database.0 in
    let e : may_go_at (mark_confirmed s c.args.step.slot.0 k) k ≡ c.going_beside-free.result = rw (← c.mark.ensures) (sym c.going_beside-free.ensures) in
    rw (confirmed_at, e, ne_eqb c.going_beside-free.result 0 c.if-free-eq0.false, e, ← c.lowest_of-slot.ensures, c.release.ensures, c.mark.ensures)
