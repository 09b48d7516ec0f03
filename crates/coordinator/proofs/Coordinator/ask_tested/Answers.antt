use Rattle.std.proofs.Common.{◌∙◌, sym}
use Rattle.std.proofs.lemmas.Result.{err_from_is_err_and}
use Rattle.refusals.proofs.Rows.{as_step, not_refused, refused}
use Rattle.coordinator.proofs.Step.{read, ask_rows, step_fits}
use Rattle.coordinator.proofs.Answered.{ask_refused, ask_taken}
use Rattle.coordinator.proofs.Coordinator.ask_tested.Goals as goal

pub returns-in_err-of_step : goal.returns-in_err-of_step
returns-in_err-of_step c =
    let r = read c.args.self.now c.args.ticket.0 _ _ c.holders_of-found.ensures c.lowest_of-slot.ensures in
    let p = err_from_is_err_and c.from_residual.result c.from_residual.ensures.1 in
    rw (p.1, p.2) (ask_refused _ _ _ _ _ (sym (ask_rows r _ _ _ _ c.holds_at-names.ensures c.holds_at-before.ensures) ∙ refused _ _ (as_step _ _ _ _ _ _ _ c.in_err-of_step.ensures)))

pub invariant_of-ask_for : goal.invariant_of-ask_for
invariant_of-ask_for c =
    let r = read c.args.self.now c.args.ticket.0 _ _ c.holders_of-found.ensures c.lowest_of-slot.ensures in
    record { in_range = step_fits r _ _ _ _ _ (not_refused _ _ (as_step _ _ _ _ _ _ _ c.in_ok-of_step.ensures)) }

pub returns : goal.returns
returns c =
    let r = read c.args.self.now c.args.ticket.0 _ _ c.holders_of-found.ensures c.lowest_of-slot.ensures in
    c.ask_for.ensures ∙ rw r.slot (ask_taken _ _ _ _ (sym (ask_rows r _ _ _ _ c.holds_at-names.ensures c.holds_at-before.ensures) ∙ not_refused _ _ (as_step _ _ _ _ _ _ _ c.in_ok-of_step.ensures)))
