-- A close that closed makes room: an opening then finds a slot. Assumes nothing.
use Prim.Native.Nat.{ℕ, zero, suc, ◌<◌}
use native.Mathlib.Omega.{arith}
use mathlib.Core.Bool.{Bool, true, false}
use mathlib.Core.List.{List}
use Rattle.std.specs.Prelude.{Option, None, Some, Ok}
use mathlib.Core.Path.{◌≡◌, refl, sym, ap, subst, ◌∙◌}
use borrow.Author.Tests.{eqb-true, eqb-false}
use lib.Dec.{eqb}
use Rattle.refusals.specs.declared.refusal.Refusal.{Refusal}
use Rattle.refusals.specs.declared.refusal.Refusal.TheVariants.{Full}
use Rattle.coordinator.specs.declared.Coordinator.{Coordinator}
use Rattle.coordinator.specs.Limits.{jobs}
use Rattle.coordinator.specs.Shape.{Shape}
use Rattle.coordinator.specs.Sound.{Sound}
use Rattle.coordinator.specs.Views.{is_open, open_count}
use Rattle.coordinator.specs.Holder.{holder}
use Rattle.coordinator.specs.Refusal.{Row, open_refusal, close_refusal, slot_refusal, slot_rows}
use Rattle.coordinator.specs.Test.{sound}
use Rattle.coordinator.specs.Change.{removed}
use Rattle.coordinator.specs.Release.{may_close, may_close_now, first_of}
use Rattle.coordinator.specs.Close.{Closing, close_one, close_held, closing, closed_at, after_close}
use Rattle.coordinator.specs.declared.answers.After.{After}
use Rattle.coordinator.specs.declared.answers.Closed.{Closed}
use Rattle.effects.proofs.Bounds.{count_le}
use Rattle.soundness.specs.Kept.{Kept}
use Rattle.soundness.specs.Refused.{row}
use Rattle.soundness.proofs.Arms.{close_refused, close_taken, close_goes, close_waits, cascade_none, cascade_one}
use Rattle.soundness.proofs.Accepted.{close_accepted}
use Rattle.soundness.proofs.Refused.{first_applies}
use Rattle.soundness.proofs.Remove.{removed_sound}
use Rattle.soundness.proofs.Calls.{one_closed, first_open}

-- a removal leaves a free slot
removed_room : (s : Coordinator) → Kept s → (j : ℕ) → is_open s j ≡ true → open_count (removed s j) < jobs
removed_room s (h, S) j o =
    let (i, l, q) = S.ordered.each j o in
    omega (arith, (removed_sound s h S j o).shows.count, count_le s h)

one_room : (c : Closing) → Kept c.state → (j : ℕ) → is_open c.state j ≡ true → open_count (close_one c j).state < jobs
unfolding close_one
one_room c K j o = removed_room c.state K j o

cascade_room : (left : ℕ) (c : Closing) → Kept c.state → open_count c.state < jobs → open_count (close_held left c).state < jobs
unfolding close_held
cascade_room zero c K room = room
cascade_room (suc left) c K room = by (eqb (may_close_now c.state) 0) refl (cascade_room left)
  where
    by : (b : Bool) → eqb (may_close_now c.state) 0 ≡ b → ((d : Closing) → Kept d.state → open_count d.state < jobs → open_count (close_held left d).state < jobs)
        → open_count (close_held (suc left) c).state < jobs
    by true e on = subst (λ (d : Closing). open_count d.state < jobs) (sym (cascade_none left c e)) room
    by false e on =
        let o = first_open c.state K.1 (eqb-false (may_close_now c.state) 0 e) in
        let j : ℕ = first_of c.state (may_close_now c.state) in
        subst (λ (d : Closing). open_count d.state < jobs) (sym (cascade_one left c e)) (on (close_one c j) (one_closed c K j o) (one_room c K j o))

closed_room : (s : Coordinator) → Kept s → (j : ℕ) → is_open s j ≡ true → may_close s j ≡ true → open_count (closed_at s j).state < jobs
unfolding closing
closed_room s K j o e =
    subst (λ (a : After (Option Closed)). open_count a.state < jobs) (sym (close_goes s j e)) (cascade_room jobs _ (one_closed _ K j o) (one_room _ K j o))

pub close_room : (s : Coordinator) → Shape s → Sound s → (t : ℕ) → close_refusal s t ≡ None → may_close s (holder s t) ≡ true → open_count (after_close s t).state < jobs
close_room s h S t e m =
    subst (λ (a : After (Option Closed)). open_count a.state < jobs) (sym (close_taken s t e)) (closed_room s (h, S) (holder s t) (close_accepted s h t e).holder_of.is_open m)

-- an answer that jobs were closed tells that the close was not refused and not held
pub closed_went : (s : Coordinator) (t : ℕ) (c : Closed) → (after_close s t).answer ≡ Ok (Some c) → (close_refusal s t ≡ None) × (may_close s (holder s t) ≡ true)
closed_went s t c e = by (close_refusal s t) refl
  where
    answered : {x : After (Option Closed)} → after_close s t ≡ x → x.answer ≡ Ok (Some c)
    answered p = sym (ap (λ (a : After (Option Closed)). a.answer) p) ∙ e

    went : close_refusal s t ≡ None → (b : Bool) → may_close s (holder s t) ≡ b → (close_refusal s t ≡ None) × (may_close s (holder s t) ≡ true)
    went p true q = (p, q)
    went p false q = let held = answered (close_taken s t p ∙ close_waits s (holder s t) q) in absurd (cc)

    by : (o : Option Refusal) → close_refusal s t ≡ o → (close_refusal s t ≡ None) × (may_close s (holder s t) ≡ true)
    by None p = went p (may_close s (holder s t)) refl
    by (Some r) p = let told = answered (close_refused s t r p) in absurd (cc)

-- the refusal for want of room tells that every slot is taken
full : (s : Coordinator) (mask : ℕ) → open_refusal s mask ≡ Some Full → open_count s ≡ jobs
unfolding open_refusal slot_refusal
full s mask e = let f = first_applies _ Full e in by f.place f.inside f.refusal f.applies
  where
    table : List Row
    table = slot_rows (sound s) mask (open_count s)

    by : (i : ℕ) → i < 3 → (row table i).refusal ≡ Full → (row table i).applies ≡ true → open_count s ≡ jobs
    by zero l q a = absurd (cc)
    by (suc zero) l q a = absurd (cc)
    by (suc (suc zero)) l q a = eqb-true (open_count s) jobs a
    by (suc (suc (suc i))) l q a = absurd (omega arith)

pub room_after_close : (s : Coordinator) → Shape s → Sound s → (t mask : ℕ) (c : Closed) → (after_close s t).answer ≡ Ok (Some c)
    → ¬ (open_refusal (after_close s t).state mask ≡ Some Full)
room_after_close s h S t mask c e f =
    let (p, m) = closed_went s t c e in
    omega (arith, close_room s h S t p m, full (after_close s t).state mask f)
