use Rattle.std.proofs.Common.{◌∙◌, sym, ap}
use Rattle.std.proofs.lemmas.Result.{err_from_is_err_and}
use Rattle.refusals.proofs.Rows.{not_refused, refused}
use Rattle.coordinator.specs.Close.{after_closing}
use Rattle.coordinator.proofs.Step.{read}
use Rattle.coordinator.proofs.Ending.{close_rows, close_fits, held_is, closed_is}
use Rattle.coordinator.proofs.Answered.{close_refused}
use Rattle.coordinator.proofs.Coordinator.close_tested.Goals as goal

pub returns-in_err-of_close : goal.returns-in_err-of_close
returns-in_err-of_close c =
    let r = read c.args.self.now c.args.ticket.0 _ _ c.holders_of-found.ensures c.lowest_of-slot.ensures in
    let p = err_from_is_err_and c.from_residual.result c.from_residual.ensures.1 in
    rw (p.1, p.2) (close_refused _ _ _ _ (sym (close_rows r _ _ _ c.all_confirmed-finished.ensures c.holds-waits.ensures) ∙ refused _ _ c.in_err-of_close.ensures))

pub invariant_of-job : goal.invariant_of-job
invariant_of-job c =
    let r = read c.args.self.now c.args.ticket.0 _ _ c.holders_of-found.ensures c.lowest_of-slot.ensures in
    record { in_range = close_fits r _ _ _ (not_refused _ _ c.in_ok-of_close.ensures) }

pub returns-then-may_close : goal.returns-then-may_close
returns-then-may_close c =
    let s = c.args.self.now in
    let r = read s c.args.ticket.0 _ _ c.holders_of-found.ensures c.lowest_of-slot.ensures in
    let taken = sym (close_rows r _ _ _ c.all_confirmed-finished.ensures c.holds-waits.ensures) ∙ not_refused _ _ c.in_ok-of_close.ensures in
    ap after_closing c.close_from.ensures ∙ closed_is _ s _ _ taken r.slot (sym c.may_close.ensures ∙ c.if-may_close.true)

pub returns : goal.returns
returns c =
    let s = c.args.self.now in
    let r = read s c.args.ticket.0 _ _ c.holders_of-found.ensures c.lowest_of-slot.ensures in
    let passed = not_refused _ _ c.in_ok-of_close.ensures in
    let taken = sym (close_rows r _ _ _ c.all_confirmed-finished.ensures c.holds-waits.ensures) ∙ passed in
    held_is _ s _ _ taken r.slot (sym c.may_close.ensures ∙ c.if-may_close.false) (close_fits r _ _ _ passed) _ c.with_member-self.ensures
