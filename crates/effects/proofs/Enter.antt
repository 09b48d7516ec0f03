-- A job takes a free slot, last in the opening order, and whoever is released at a database it names goes before it there. Assumes nothing.
use Prim.Native.Nat.{ℕ, suc, ◌^◌, ◌<◌}
use native.Mathlib.Nat.{mod-lt}
use native.Mathlib.Omega.{arith}
use mathlib.Core.Bool.{Bool, true, false, ◌&&◌, ◌||◌, and-true, and-false}
use mathlib.Core.List.{List}
use mathlib.Core.Logic.{◌⊎◌, inl, inr}
use mathlib.Core.Path.{◌≡◌, refl, ap, sym, ◌∙◌}
use lib.Dec.{eqb, lit<}
use Rattle.loops.proofs.Tests.{and_left, or_cases, or_right, same_test}
use Rattle.mask.specs.Member.{holds, including, size}
use Rattle.mask.specs.Members.{over_members}
use Rattle.mask.proofs.Change.{including_lt}
use Rattle.mask.proofs.Equal.{equal_members}
use Rattle.mask.proofs.Holds.{holds_below, holds_including}
use Rattle.mask.proofs.Lowest.{some_member}
use Rattle.mask.proofs.Size.{size_including}
use Rattle.numbers.specs.Ticket.{after}
use Rattle.numbers.proofs.First.{ticket_small}
use Rattle.coordinator.specs.declared.Coordinator.{Coordinator}
use Rattle.coordinator.specs.Limits.{jobs, databases}
use Rattle.coordinator.specs.Shape.{Sized, Shape}
use Rattle.coordinator.specs.Views.{entry, in_mask, names, asked, released, confirmed, open_slots, is_open, open_count, held, ticket, opened, into, dep}
use Rattle.coordinator.specs.Change.{mark, with_dependencies, lead, taken}
use Rattle.coordinator.specs.Open.{held_tickets, ticket_for, entered}
use Rattle.effects.specs.View.{view, Alike}
use Rattle.effects.specs.Effect.{entered_at}
use Rattle.effects.proofs.Bounds.{entry_beyond, open_iff}
use Rattle.effects.proofs.Sized.{sized_set, stored}
use Rattle.effects.proofs.Stores.{stores_at, stores_off, stores_sized}
use Rattle.effects.proofs.Rows.{led_into_lem, led_into_sized}

-- slot n joins the set at each database of the mask

module _ (l : List ℕ) (h : Sized databases jobs l) (n mask : ℕ) where
  abbrev joined_by : List ℕ
  joined_by = over_members databases mask (λ k r. mark r k n) l

  joined_sized : n < jobs → Sized databases jobs joined_by
  unfolding over_members mark
  joined_sized slot = stores_sized (λ k. k) (λ k x. including x n) (holds mask) databases l h (λ k x q. including_lt jobs x n q slot)

  joined_holds : mask < 2 ^ databases → (a u : ℕ) → holds (entry joined_by u) a ≡ eqb a n && holds mask u || holds (entry l u) a
  unfolding over_members mark
  joined_holds small a u = by (holds mask u) refl
    where
      by : (b : Bool) → holds mask u ≡ b → holds (entry joined_by u) a ≡ eqb a n && b || holds (entry l u) a
      by true e =
          let k : u < databases = holds_below databases mask u small e in
          rw (and-true (eqb a n))
          (ap (λ (x : ℕ). holds x a) (stores_at (λ k. k) (λ k x. including x n) (holds mask) (λ i k p. p) databases u l k (omega (arith, h.size)) e) ∙ holds_including (entry l u) n a)
      by false e = rw (and-false (eqb a n)) (ap (λ (x : ℕ). holds x a) (stores_off (λ k. k) (λ k x. including x n) (holds mask) (λ i k p. p) databases u l e))

module _ (s : Coordinator) (h : Shape s) (n mask : ℕ) (slot : n < jobs) (some : 0 < mask) (small : mask < 2 ^ databases) where
  abbrev t : Coordinator
  t = entered s n mask

  ticket_for_small : ticket_for s < 2 ^ 16
  unfolding ticket_for
  ticket_for_small = ticket_small (held_tickets s) s.maker.next h.candidate

  pub shape_entered : Shape (entered s n mask)
  unfolding entered taken with_dependencies lead over_members
  shape_entered = record {
    tickets = sized_set h.tickets n (ticket_for s) ticket_for_small;
    held = h.held;
    order = sized_set h.order (open_count s) n (omega arith);
    named = joined_sized s.named h.named n mask slot;
    asked = h.asked;
    released = h.released;
    confirmed = h.confirmed;
    dependencies = led_into_sized s.dependencies h.dependencies (entry s.released) (holds mask) n slot h.released.fits;
    candidate = mod-lt _ (lit< tt);
  }

  names_entered : (a u : ℕ) → names t a u ≡ eqb a n && holds mask u || names s a u
  unfolding entered taken with_dependencies names in_mask
  names_entered a u = joined_holds s.named h.named n mask small a u

  open_entered : (a : ℕ) → is_open t a ≡ eqb a n || is_open s a
  open_entered a = same_test (is_open t a) (eqb a n || is_open s a) (λ e. to ((open_iff t shape_entered a).0 e)) (λ e. from (or_cases (eqb a n) (is_open s a) e))
    where
      to : (k : ℕ) × (k < databases) × (names t a k ≡ true) → eqb a n || is_open s a ≡ true
      to (k, l, q) = by (or_cases (eqb a n && holds mask k) (names s a k) (sym (names_entered a k) ∙ q))
        where
          by : (eqb a n && holds mask k ≡ true) ⊎ (names s a k ≡ true) → eqb a n || is_open s a ≡ true
          by (inl e) = rw (and_left (eqb a n) (holds mask k) e)
          by (inr e) = or_right (eqb a n) (is_open s a) ((open_iff s h a).1 (k, l, e))

      from : (eqb a n ≡ true) ⊎ (is_open s a ≡ true) → is_open t a ≡ true
      from (inl e) =
          let (k, l, q) = some_member databases mask small (omega arith) in
          (open_iff t shape_entered a).1 (k, l, names_entered a k ∙ rw (e, q))
      from (inr e) =
          let (k, l, q) = (open_iff s h a).0 e in
          (open_iff t shape_entered a).1 (k, l, names_entered a k ∙ or_right (eqb a n && holds mask k) (names s a k) q)

  count_entered : is_open s n ≡ false → open_count t ≡ suc (open_count s)
  unfolding open_count is_open
  count_entered free =
      let same : open_slots t ≡ including (open_slots s) n = equal_members (open_slots t) (including (open_slots s) n) (λ j. open_entered j ∙ sym (holds_including (open_slots s) n j)) in
      ap (size jobs) same ∙ omega (arith, size_including jobs (open_slots s) n slot free)

  pub job_entered : is_open s n ≡ false → open_count s < jobs → Alike (view (entered s n mask)) (entered_at (view s) n mask (ticket_for s) (after (ticket_for s)))
  unfolding entered taken with_dependencies lead over_members in_mask names asked released confirmed held ticket opened into dep
  job_entered free room = record {
    in_mask = joined_holds s.named h.named n mask small;
    names = joined_holds s.named h.named n mask small;
    asked = λ a u. refl;
    released = λ a u. refl;
    confirmed = λ a u. refl;
    is_open = open_entered;
    held = λ a. refl;
    ticket = stored s.tickets n (ticket_for s) (omega (arith, h.tickets.size));
    count = count_entered free;
    opened = stored s.order (open_count s) n (omega (arith, h.order.size));
    dep = led_into_lem s.dependencies h.dependencies (entry s.released) (holds mask) n slot (entry_beyond h.released);
    candidate = refl;
  }
