-- A job entered: what was sound is sound. Assumes nothing.
use Prim.Native.Nat.{ℕ, ◌^◌, ◌<◌}
use native.Mathlib.Omega.{arith}
use mathlib.Core.Bool.{true, false, ◌&&◌}
use mathlib.Core.Logic.{◌⊎◌, inl, inr}
use mathlib.Core.Path.{◌≡◌, ap, sym, ◌∙◌}
use borrow.Author.Tests.{eqb-true, eqb-false, eq-eqb}
use lib.Dec.{eqb}
use Rattle.loops.proofs.Tests.{both, and_left, and_right, or_cases, or_right, or_false}
use Rattle.mask.specs.Member.{holds}
use Rattle.mask.proofs.Lowest.{some_member}
use Rattle.numbers.specs.Ticket.{after}
use Rattle.coordinator.specs.declared.Coordinator.{Coordinator}
use Rattle.coordinator.specs.Limits.{jobs, databases}
use Rattle.coordinator.specs.Shape.{Shape}
use Rattle.coordinator.specs.Sound.{Sound}
use Rattle.coordinator.specs.Views.{is_open, open_count}
use Rattle.coordinator.specs.Open.{ticket_for, entered}
use Rattle.effects.specs.View.{View, view}
use Rattle.effects.specs.Effect.{entered_at}
use Rattle.effects.proofs.Enter.{shape_entered, job_entered}
use Rattle.soundness.specs.SoundView.{Joined, Empty, SoundView, NamesOpen}
use Rattle.soundness.specs.Changed.{Changed}
use Rattle.soundness.proofs.Seen.{seen_sound, names_open, changed}
use Rattle.soundness.proofs.Slots.{number_here, number_there}
use Rattle.soundness.proofs.Listing.{entered_listing}
use Rattle.soundness.proofs.GivenOut.{ticket_unheld}

module _ (v : View) (S : SoundView v) (N : NamesOpen v) (n mask t next : ℕ) (free : v.is_open n ≡ false) where
  abbrev w : View
  w = entered_at v n mask t next

  -- an open slot is the new one, or another that was open
  then_open : (a : ℕ) → w.is_open a ≡ true → (a ≡ n) ⊎ ((v.is_open a ≡ true) × ¬ (a ≡ n))
  then_open a e = by (or_cases (eqb a n) (v.is_open a) e)
    where
      by : (eqb a n ≡ true) ⊎ (v.is_open a ≡ true) → (a ≡ n) ⊎ ((v.is_open a ≡ true) × ¬ (a ≡ n))
      by (inl p) = inl (eqb-true a n p)
      by (inr p) = inr (p, λ q. both p (ap v.is_open q ∙ free))

  ticket_new : (a : ℕ) → a ≡ n → w.ticket a ≡ t
  ticket_new a e = number_here t (v.ticket a) a n e

  ticket_old : (a : ℕ) → ¬ (a ≡ n) → w.ticket a ≡ v.ticket a
  ticket_old a d = number_there t (v.ticket a) a n d

  entered_tickets : ((i : ℕ) → v.is_open i ≡ true → ¬ (v.ticket i ≡ t)) → (a b : ℕ) → (a ≡ n) ⊎ ((v.is_open a ≡ true) × ¬ (a ≡ n))
      → (b ≡ n) ⊎ ((v.is_open b ≡ true) × ¬ (b ≡ n)) → w.ticket a ≡ w.ticket b → a ≡ b
  entered_tickets unheld a b (inl p) (inl q) e = p ∙ sym q
  entered_tickets unheld a b (inl p) (inr (o, d)) e = absurd (unheld b o (sym (ticket_old b d) ∙ sym e ∙ ticket_new a p))
  entered_tickets unheld a b (inr (o, d)) (inl q) e = absurd (unheld a o (sym (ticket_old a d) ∙ e ∙ ticket_new b q))
  entered_tickets unheld a b (inr (o, d)) (inr (p, c)) e = S.tickets_differ a b o p (sym (ticket_old a d) ∙ e ∙ ticket_old b c)

  entered_masks : (k : ℕ) × (k < databases) × (holds mask k ≡ true) → (a : ℕ) → (a ≡ n) ⊎ ((v.is_open a ≡ true) × ¬ (a ≡ n))
      → (k : ℕ) × (k < databases) × (w.in_mask a k ≡ true)
  entered_masks (k, l, q) a (inl p) = (k, l, rw (eq-eqb a n p, q))
  entered_masks some a (inr (o, d)) = let (k, l, q) = S.masks_nonzero a o in (k, l, or_right (eqb a n && holds mask k) (v.in_mask a k) q)

  named_still : (a k : ℕ) → v.names a k ≡ true → w.names a k ≡ true
  named_still a k e = or_right (eqb a n && holds mask k) (v.names a k) e

  open_still : (a : ℕ) → v.is_open a ≡ true → w.is_open a ≡ true
  open_still a e = or_right (eqb a n) (v.is_open a) e

  -- the new job's own dependencies, and those there were
  entered_joins : (k a b : ℕ) → b < jobs → (eqb b n && holds mask k && v.released a k ≡ true) ⊎ (v.dep k a b ≡ true) → Joined w.is_open w.names k a b
  entered_joins k a b l (inl e) =
      let here = and_left (eqb b n && holds mask k) (v.released a k) e in
      let r = and_right (eqb b n && holds mask k) (v.released a k) e in
      let is : eqb b n ≡ true = and_left (eqb b n) (holds mask k) here in
      let named = S.asked_named a k (S.released_asked a k r) in
      record {
        differ = λ q. both r (ap (λ (x : ℕ). v.released x k) (q ∙ eqb-true b n is) ∙ (S.free_zeros n free).not_released k);
        from_open = open_still a (N a k named);
        to_open = rw is;
        from_names = named_still a k named;
        to_names = rw here;
      }
  entered_joins k a b l (inr e) =
      let j = S.joins k a b l e in
      record {
        differ = j.differ;
        from_open = open_still a j.from_open;
        to_open = open_still b j.to_open;
        from_names = named_still a k j.from_names;
        to_names = named_still b k j.to_names;
      }

  entered_under : (k a b : ℕ) → v.released a k ≡ true → v.confirmed a k ≡ false → ¬ (b ≡ a) → v.released b k ≡ false
      → (eqb b n && holds mask k ≡ true) ⊎ (v.names b k ≡ true) → w.dep k a b ≡ true
  entered_under k a b r c d f (inl e) = rw (e, r)
  entered_under k a b r c d f (inr e) = or_right (eqb b n && holds mask k && v.released a k) (v.dep k a b) (S.under_way k a b r c d (N b k e) e f)

  entered_held : (a k : ℕ) → v.held a ≡ true → (eqb a n && holds mask k ≡ true) ⊎ (v.names a k ≡ true) → v.confirmed a k ≡ true
  entered_held a k e (inl q) = both e (ap v.held (eqb-true a n (and_left (eqb a n) (holds mask k) q)) ∙ (S.free_zeros n free).not_held)
  entered_held a k e (inr q) = S.held_confirmed a k e q

  entered_empty : (a : ℕ) → w.is_open a ≡ false → Empty w.ticket w.held w.asked w.released w.confirmed a
  entered_empty a e =
      let (d, o) = or_false (eqb a n) (v.is_open a) e in
      let z = S.free_zeros a o in
      record {
        no_ticket = ticket_old a (eqb-false a n d) ∙ z.no_ticket;
        not_held = z.not_held;
        not_asked = z.not_asked;
        not_released = z.not_released;
        not_confirmed = z.not_confirmed;
      }

  entered_view : (k : ℕ) × (k < databases) × (holds mask k ≡ true) → ((i : ℕ) → v.is_open i ≡ true → ¬ (v.ticket i ≡ t)) → SoundView w
  entered_view some unheld = record {
    tickets_differ = λ a b p q e. entered_tickets unheld a b (then_open a p) (then_open b q) e;
    masks_nonzero = λ a e. entered_masks some a (then_open a e);
    confirmed_released = S.confirmed_released;
    released_asked = S.released_asked;
    asked_named = λ a k e. named_still a k (S.asked_named a k e);
    ordered = entered_listing v.is_open v.count v.opened S.ordered n free;
    joins = λ k a b l e. entered_joins k a b l (or_cases (eqb b n && holds mask k && v.released a k) (v.dep k a b) e);
    under_way = λ k a b r c d o m f. entered_under k a b r c d f (or_cases (eqb b n && holds mask k) (v.names b k) m);
    held_confirmed = λ a k e m. entered_held a k e (or_cases (eqb a n && holds mask k) (v.names a k) m);
    free_zeros = entered_empty;
  }

pub entered_sound : (s : Coordinator) → Shape s → Sound s → (n mask : ℕ) → n < jobs → is_open s n ≡ false → open_count s < jobs → mask < 2 ^ 16 → ¬ (mask ≡ 0)
    → Changed (entered s n mask) (entered_at (view s) n mask (ticket_for s) (after (ticket_for s)))
entered_sound s h S n mask slot free room small some =
    let pos : 0 < mask = omega arith in
    changed (entered s n mask) (shape_entered s h n mask slot pos small) _ (job_entered s h n mask slot pos small free room)
    (entered_view (view s) (seen_sound s S) (names_open s h) n mask (ticket_for s) (after (ticket_for s)) free (some_member databases mask small some) (ticket_unheld s h S))
