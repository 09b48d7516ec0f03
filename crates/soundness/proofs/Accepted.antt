-- A call that is not refused has passed every row of its table. Assumes nothing.
use Prim.Native.Nat.{ℕ}
use native.Mathlib.Omega.{arith}
use mathlib.Core.Bool.{Bool, true, false, not, ◌||◌}
use Rattle.std.specs.Prelude.{None}
use mathlib.Core.Path.{◌≡◌, refl}
use borrow.Author.Tests.{eqb-false, ltb-true, not-false}
use lib.Dec.{eqb, ltb}
use Rattle.loops.proofs.Tests.{both, or_false}
use Rattle.loops.proofs.Turns.{every_at}
use Rattle.refusals.proofs.Rows.{passed}
use Rattle.coordinator.specs.declared.Coordinator.{Coordinator}
use Rattle.coordinator.specs.Limits.{jobs, databases}
use Rattle.coordinator.specs.Shape.{Shape}
use Rattle.coordinator.specs.Views.{in_mask, names, released, confirmed, open_count}
use Rattle.coordinator.specs.Holder.{holders, holder}
use Rattle.coordinator.specs.Test.{sound}
use Rattle.coordinator.specs.Refusal.{all_confirmed, open_refusal, ask_refusal, confirm_refusal, close_refusal, job_refusal, slot_refusal, step_refusal}
use Rattle.effects.proofs.Bounds.{names_range, count_le}
use Rattle.effects.proofs.Holder.{holder_is}
use Rattle.soundness.specs.Accepted.{OpenAccepted, HolderOf, AskAccepted, ConfirmAccepted, CloseAccepted}

-- a test whose denial is followed by a yes
then_true : (a b : Bool) → not a || b ≡ true → a ≡ true → b ≡ true
then_true true b e p = e
then_true false b e p = both p refl

module _ (s : Coordinator) where
  holder_found : (t : ℕ) → eqb (holders s t) 0 ≡ false → HolderOf s t
  holder_found t e =
      let (l, o, q) = holder_is s t (eqb-false (holders s t) 0 e) in
      record { slot = l; is_open = o; holds = q }

  pub ask_accepted : (t k : ℕ) → ask_refusal s t k ≡ None → AskAccepted s t k
  unfolding ask_refusal names step_refusal
  ask_accepted t k e =
      let (unsound, e1) = passed _ _ e in
      let (no_job, e2) = passed _ _ e1 in
      let (no_database, e3) = passed _ _ e2 in
      let (not_named, e4) = passed _ _ e3 in
      let asked_before = (passed _ _ e4).0 in
      record {
        tested = not-false (sound s) unsound;
        holder_of = holder_found t no_job;
        database = ltb-true k databases (not-false (ltb k databases) no_database);
        named = not-false (in_mask s (holder s t) k) not_named;
        unasked = asked_before;
      }

  pub confirm_accepted : (t k : ℕ) → confirm_refusal s t k ≡ None → ConfirmAccepted s t k
  unfolding confirm_refusal names step_refusal
  confirm_accepted t k e =
      let (unsound, e1) = passed _ _ e in
      let (no_job, e2) = passed _ _ e1 in
      let (no_database, e3) = passed _ _ e2 in
      let (not_named, e4) = passed _ _ e3 in
      let settled = (passed _ _ e4).0 in
      let (unreleased, unconfirmed) = or_false (not (released s (holder s t) k)) (confirmed s (holder s t) k) settled in
      record {
        tested = not-false (sound s) unsound;
        holder_of = holder_found t no_job;
        database = ltb-true k databases (not-false (ltb k databases) no_database);
        named = not-false (in_mask s (holder s t) k) not_named;
        is_released = not-false (released s (holder s t) k) unreleased;
        unconfirmed = unconfirmed;
      }

module _ (s : Coordinator) (h : Shape s) where
  pub open_accepted : (mask : ℕ) → open_refusal s mask ≡ None → OpenAccepted s mask
  unfolding open_refusal slot_refusal
  open_accepted mask e =
      let (unsound, e1) = passed _ _ e in
      let (names_none, e2) = passed _ _ e1 in
      let full = (passed _ _ e2).0 in
      record {
        tested = not-false (sound s) unsound;
        some = eqb-false mask 0 names_none;
        room = omega (arith, eqb-false (open_count s) jobs full, count_le s h);
      }

  pub confirmed_all : (j : ℕ) → all_confirmed s j ≡ true → (k : ℕ) → names s j k ≡ true → confirmed s j k ≡ true
  unfolding all_confirmed
  confirmed_all j e k n = then_true (names s j k) (confirmed s j k) (every_at databases _ e k (names_range s h j k n).1) n

  pub close_accepted : (t : ℕ) → close_refusal s t ≡ None → CloseAccepted s t
  unfolding close_refusal job_refusal
  close_accepted t e =
      let (unsound, e1) = passed _ _ e in
      let (no_job, e2) = passed _ _ e1 in
      let (unfinished, e3) = passed _ _ e2 in
      let close_held = (passed _ _ e3).0 in
      record {
        tested = not-false (sound s) unsound;
        holder_of = holder_found s t no_job;
        all_confirmed = confirmed_all (holder s t) (not-false (all_confirmed s (holder s t)) unfinished);
        unheld = close_held;
      }
