use Rattle.std.proofs.Common.{◌∙◌, sym}
use Rattle.std.proofs.lemmas.Result.{err_from_is_err_and}
use Rattle.refusals.proofs.Rows.{not_refused, refused}
use Rattle.refusals.proofs.Passed.{open_passed}
use Rattle.coordinator.proofs.Tables.{open_slots_are}
use Rattle.coordinator.proofs.Opening.{open_rows}
use Rattle.coordinator.proofs.Answered.{open_refused, open_taken}
use Rattle.coordinator.proofs.Coordinator.open_tested.Goals as goal

pub returns-in_err-of_open : goal.returns-in_err-of_open
returns-in_err-of_open c =
    let o = open_slots_are c.args.self.now _ c.open_slots-slots.ensures in
    let p = err_from_is_err_and c.from_residual.result c.from_residual.ensures.1 in
    rw (p.1, p.2) (open_refused _ _ _ _ (sym (open_rows _ _ _ _ o) ∙ refused _ _ c.in_err-of_open.ensures))

pub accept-requires : goal.accept-requires
accept-requires c = (c.open_slots-slots.ensures, open_passed _ _ _ (not_refused _ _ c.in_ok-of_open.ensures))

pub returns : goal.returns
returns c =
    let o = open_slots_are c.args.self.now _ c.open_slots-slots.ensures in
    c.accept.ensures ∙ open_taken _ _ _ (sym (open_rows _ _ _ _ o) ∙ not_refused _ _ c.in_ok-of_open.ensures)
