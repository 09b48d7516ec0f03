use Rattle.std.proofs.Common.{◌≡◌, ◌∙◌, sym, ℕ, List, Bool, not, ◌||◌}
use Rattle.std.proofs.lemmas.Result.{err_from_is_err_and}
use Rattle.mask.specs.Member.{holds}
use Rattle.refusals.proofs.Rows.{as_step, not_refused, refused}
use Rattle.coordinator.specs.Tables.{set_at}
use Rattle.coordinator.proofs.Step.{read, confirm_rows, step_fits}
use Rattle.coordinator.proofs.Answered.{confirm_refused, confirm_taken}
use Rattle.coordinator.proofs.Coordinator.confirm_tested.Goals as goal

-- the last row, of the sets that were read
settled : (released confirmed : List ℕ) (k j gone done : ℕ) (applies : Bool) → gone ≡ set_at released k → done ≡ set_at confirmed k
    → applies ≡ not (holds gone j) || holds done j → applies ≡ not (holds (set_at released k) j) || holds (set_at confirmed k) j
settled released confirmed k j gone done applies g d e = e ∙ rw (g, d)

pub returns-in_err-of_step : goal.returns-in_err-of_step
returns-in_err-of_step c =
    let r = read c.args.self.now c.args.ticket.0 _ _ c.holders_of-found.ensures c.lowest_of-slot.ensures in
    let q = settled _ _ _ _ _ _ _ c.at-gone.ensures c.at.ensures c.is_settled-settled.ensures in
    let p = err_from_is_err_and c.from_residual.result c.from_residual.ensures.1 in
    rw (p.1, p.2) (confirm_refused _ _ _ _ _ (sym (confirm_rows r _ _ _ _ c.holds_at-names.ensures q) ∙ refused _ _ (as_step _ _ _ _ _ _ _ c.in_err-of_step.ensures)))

pub invariant_of-confirm_at : goal.invariant_of-confirm_at
invariant_of-confirm_at c =
    let r = read c.args.self.now c.args.ticket.0 _ _ c.holders_of-found.ensures c.lowest_of-slot.ensures in
    record { in_range = step_fits r _ _ _ _ _ (not_refused _ _ (as_step _ _ _ _ _ _ _ c.in_ok-of_step.ensures)) }

pub returns : goal.returns
returns c =
    let r = read c.args.self.now c.args.ticket.0 _ _ c.holders_of-found.ensures c.lowest_of-slot.ensures in
    let q = settled _ _ _ _ _ _ _ c.at-gone.ensures c.at.ensures c.is_settled-settled.ensures in
    c.confirm_at.ensures ∙ rw r.slot (confirm_taken _ _ _ _ (sym (confirm_rows r _ _ _ _ c.holds_at-names.ensures q) ∙ not_refused _ _ (as_step _ _ _ _ _ _ _ c.in_ok-of_step.ensures)))
