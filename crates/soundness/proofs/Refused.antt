-- A refused call answers the number of the first row that applies, and zeros, and changes nothing. Assumes nothing.
use Prim.Native.Nat.{ℕ, zero, suc, ◌<◌}
use native.Mathlib.Nat.{not-suc-le-zero}
use native.Mathlib.Omega.{arith}
use mathlib.Core.Bool.{Bool, true, false}
use mathlib.Core.List.{List, [], ◌∷◌}
use Rattle.std.specs.Prelude.{Option, None, Some}
use mathlib.Core.Path.{◌≡◌, refl, sym, ◌∙◌}
use lib.ListN.{length}
use Rattle.refusals.specs.declared.refusal.Refusal.{Refusal}
use Rattle.refusals.specs.Number.{number}
use Rattle.refusals.proofs.Rows.{passed}
use Rattle.coordinator.specs.declared.Coordinator.{Coordinator}
use Rattle.coordinator.specs.Refusal.{Row, first_row, slot_refusal, step_refusal, job_refusal, open_refusal, ask_refusal, confirm_refusal, close_refusal}
use Rattle.coordinator.specs.Answer.{refused}
use Rattle.coordinator.specs.Call.{Call, open_job, ask_step, confirm_step, close_job, Played, play}
use Rattle.soundness.specs.Refused.{refusal_of, rows_of, row, FirstApplies}
use Rattle.soundness.proofs.Arms.{open_refused, ask_refused, confirm_refused, close_refused}

-- the first row that applies

first_below : (r : Row) (rows : List Row) (q : Refusal) → r.applies ≡ false → FirstApplies rows q → FirstApplies (r ∷ rows) q
first_below r rows q e f = record {
  place = suc f.place;
  inside = omega (arith, f.inside);
  refusal = f.refusal;
  applies = f.applies;
  above = upto;
}
  where
    upto : (i : ℕ) → i < suc f.place → (row (r ∷ rows) i).applies ≡ false
    upto zero l = e
    upto (suc i) l = f.above i (omega arith)

pub first_applies : (rows : List Row) (q : Refusal) → first_row rows ≡ Some q → FirstApplies rows q
unfolding first_row
first_applies [] q e = absurd (cc)
first_applies (r ∷ rows) q e = by r.applies refl e (first_applies rows q)
  where
    by : (b : Bool) → r.applies ≡ b → ◌≡◌ {A = Option Refusal} (elim b [ true ↦ Some r.refusal | false ↦ first_row rows ]) (Some q)
        → (first_row rows ≡ Some q → FirstApplies rows q) → FirstApplies (r ∷ rows) q
    by true p f below = record { place = 0; inside = omega arith; refusal = cc; applies = p; above = λ i l. absurd (not-suc-le-zero l) }
    by false p f below = first_below r rows q p (below f)

pub none_applies : (rows : List Row) → first_row rows ≡ None → (i : ℕ) → i < length rows → (row rows i).applies ≡ false
none_applies [] e i l = absurd (not-suc-le-zero l)
none_applies (r ∷ rows) e zero l = (passed r rows e).0
none_applies (r ∷ rows) e (suc i) l = none_applies rows (passed r rows e).1 i (omega arith)

-- the refusal of a call is that of the first of its rows

rows_are : (s : Coordinator) (c : Call) → refusal_of s c ≡ first_row (rows_of s c)
unfolding refusal_of rows_of open_refusal ask_refusal confirm_refusal close_refusal slot_refusal step_refusal job_refusal
rows_are s (open_job mask) = refl
rows_are s (ask_step t k) = refl
rows_are s (confirm_step t k) = refl
rows_are s (close_job t) = refl

pub refusal_first : (s : Coordinator) (c : Call) (r : Refusal) → refusal_of s c ≡ Some r → FirstApplies (rows_of s c) r
refusal_first s c r e = first_applies (rows_of s c) r (sym (rows_are s c) ∙ e)

pub refusal_none : (s : Coordinator) (c : Call) → refusal_of s c ≡ None → (i : ℕ) → i < length (rows_of s c) → (row (rows_of s c) i).applies ≡ false
refusal_none s c e = none_applies (rows_of s c) (sym (rows_are s c) ∙ e)

-- a refused call

pub refused_play : (s : Coordinator) (c : Call) (r : Refusal) → refusal_of s c ≡ Some r → ◌≡◌ {A = Played} (play s c) (record { values = refused (number r); state = s })
unfolding refusal_of play
refused_play s (open_job mask) r e = rw (open_refused s mask r e)
refused_play s (ask_step t k) r e = rw (ask_refused s t k r e)
refused_play s (confirm_step t k) r e = rw (confirm_refused s t k r e)
refused_play s (close_job t) r e = rw (close_refused s t r e)
