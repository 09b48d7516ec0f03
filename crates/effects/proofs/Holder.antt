-- Whose ticket it is, where a slot stands in the opening order, and which slot is free, in views. Assumes nothing.
use Prim.Native.Nat.{ℕ, ◌^◌, ◌<◌, ◌≤◌}
use native.Mathlib.Omega.{arith}
use mathlib.Core.Bool.{true, false, ◌&&◌}
use mathlib.Core.Path.{◌≡◌, sym, ◌∙◌}
use borrow.Author.Tests.{eq-eqb, eqb-true}
use lib.Dec.{eqb}
use Rattle.loops.proofs.Tests.{and_left, and_right, and_both}
use Rattle.mask.specs.Member.{holds}
use Rattle.mask.proofs.Gather.{holds_gather, gathered_lt}
use Rattle.mask.proofs.Holds.{holds_pos}
use Rattle.mask.proofs.Lowest.{trailing_lowest, lowest_of, lowest_holds, lowest_first, free_holds}
use Rattle.mask.proofs.Size.{size_free}
use Rattle.tables.proofs.Owning.{holds_holders, holders_lt}
use Rattle.coordinator.specs.declared.Coordinator.{Coordinator}
use Rattle.coordinator.specs.Limits.{jobs}
use Rattle.coordinator.specs.Shape.{Shape}
use Rattle.coordinator.specs.Sound.{Sound}
use Rattle.coordinator.specs.Views.{open_slots, is_open, open_count, ticket, opened}
use Rattle.coordinator.specs.Holder.{holders, holder}
use Rattle.coordinator.specs.Change.{place}
use Rattle.coordinator.specs.Open.{free_slot}
use Rattle.effects.proofs.Bounds.{slots_small, open_range}

module _ (s : Coordinator) where
  -- the slot of the job that holds ticket t

  holders_are : (t j : ℕ) → j < jobs → holds (holders s t) j ≡ eqb (ticket s j) t && is_open s j
  unfolding holders is_open ticket
  holders_are t j l = holds_holders s.tickets (open_slots s) t j l

  holders_small : (t : ℕ) → holders s t < 2 ^ jobs
  unfolding holders
  holders_small t = holders_lt s.tickets (open_slots s) t

  pub holder_is : (t : ℕ) → ¬ (holders s t ≡ 0) → (holder s t < jobs) × (is_open s (holder s t) ≡ true) × (ticket s (holder s t) ≡ t)
  unfolding holder
  holder_is t ne =
      let l = trailing_lowest jobs (holders s t) (omega arith) (holders_small t) in
      let p = sym (holders_are t (holder s t) l.within) ∙ lowest_holds l in
      (l.within, and_right (eqb (ticket s (holder s t)) t) _ p, eqb-true _ _ (and_left (eqb (ticket s (holder s t)) t) _ p))

  -- the first place of slot j in the opening order

  pub place_is : (i j : ℕ) → i < jobs → opened s i ≡ j → (place s j ≤ i) × (opened s (place s j) ≡ j)
  unfolding place
  place_is i j l e =
      let at = holds_gather (λ i. eqb (opened s i) j) jobs in
      let f = lowest_of jobs _ i (gathered_lt (λ i. eqb (opened s i) j) jobs) (at i l ∙ eq-eqb (opened s i) j e) in
      (lowest_first f i (at i l ∙ eq-eqb (opened s i) j e), eqb-true (opened s (place s j)) j (sym (at (place s j) f.within) ∙ lowest_holds f))

module _ (s : Coordinator) (h : Shape s) where
  -- an open job is found by its ticket

  pub holders_some : (t j : ℕ) → is_open s j ≡ true → ticket s j ≡ t → ¬ (holders s t ≡ 0)
  holders_some t j o e z =
      omega (arith, holds_pos (holders s t) j (holders_are s t j (open_range s h j o) ∙ and_both (eq-eqb (ticket s j) t e) o))

  pub holder_of : Sound s → (t j : ℕ) → is_open s j ≡ true → ticket s j ≡ t → holder s t ≡ j
  holder_of sound t j o e =
      let (l, p, q) = holder_is s t (holders_some t j o e) in
      sound.tickets_differ (holder s t) j p o (q ∙ sym e)

  -- a free slot

  pub free_slot_lem : open_count s < jobs → (free_slot s < jobs) × (is_open s (free_slot s) ≡ false)
  unfolding free_slot open_count is_open
  free_slot_lem l =
      let f = size_free jobs (open_slots s) (slots_small s h) l in
      (f.within, free_holds f)
