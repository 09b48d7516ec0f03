-- What it tells that no row applies: what the rows ask for is there. Assumes nothing.
use mathlib.Core.Path.{◌≡◌}
use mathlib.Core.Bool.{Bool}
use Rattle.std.specs.Prelude.{None}
use Prim.Native.Nat.{ℕ, ◌<◌}
use borrow.Author.Tests.{eqb-false, ltb-true, not-false}
use Rattle.tables.specs.Limits.{jobs, databases}
use Rattle.refusals.specs.declared.refusal.Refusal.{Refusal}
use Rattle.refusals.specs.Refusal.{slot_refusal, step_refusal, job_refusal}
use Rattle.refusals.proofs.Rows.{passed}

-- an opening: there is a slot
pub open_passed : (b : Bool) (mask n : ℕ) → slot_refusal b mask n ≡ None → ¬ (n ≡ jobs)
unfolding slot_refusal
open_passed b mask n e = eqb-false n jobs (passed _ _ (passed _ _ (passed _ _ e).1).1).0

-- ask and confirm: there is such a database, and some job holds the ticket
pub step_passed : (b : Bool) (f k : ℕ) (names applies : Bool) (own : Refusal) → step_refusal b f k names applies own ≡ None → (k < databases) × ¬ (f ≡ 0)
unfolding step_refusal
step_passed b f k names applies own e =
    let c = passed _ _ (passed _ _ e).1 in
    (ltb-true k databases (not-false _ (passed _ _ c.1).0), eqb-false f 0 c.0)

-- a close: some job holds the ticket
pub close_passed : (b : Bool) (f : ℕ) (is_confirmed is_held : Bool) → job_refusal b f is_confirmed is_held ≡ None → ¬ (f ≡ 0)
unfolding job_refusal
close_passed b f is_confirmed is_held e = eqb-false f 0 (passed _ _ (passed _ _ e).1).0
