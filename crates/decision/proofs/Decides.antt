-- The test for soundness is true exactly where document 01's clauses hold. Assumes nothing.
use Prim.Native.Nat.{ℕ, ◌<◌}
use mathlib.Core.Bool.{Bool, true, false, ◌&&◌}
use mathlib.Core.Logic.{◌↔◌}
use mathlib.Core.Path.{◌≡◌, refl, sym, ◌∙◌}
use Rattle.loops.specs.Loop.{every}
use Rattle.loops.proofs.Tests.{both, and_left, and_right, and_both, untrue}
use Rattle.loops.proofs.Turns.{every_at, every_of}
use Rattle.mask.specs.Member.{within}
use Rattle.mask.proofs.Equal.{within_iff}
use Rattle.tables.specs.Test.{ticket_sound, place_sound, sound_in}
use Rattle.coordinator.specs.declared.Coordinator.{Coordinator}
use Rattle.coordinator.specs.Limits.{jobs, databases}
use Rattle.coordinator.specs.Shape.{Shape}
use Rattle.coordinator.specs.Sound.{Ordered, Joins, Zeros, Sound}
use Rattle.coordinator.specs.Test.{sound}
use Rattle.coordinator.specs.Views.{in_mask, names, asked, released, confirmed, open_slots, is_open, held, dep}
use Rattle.effects.proofs.Bounds.{asked_range, released_range, confirmed_range, names_range, dep_range, slots_small, open_iff, open_names}
use Rattle.decision.specs.Clause.{Tickets, Marks, Row}
use Rattle.decision.proofs.Tickets.{tickets_iff}
use Rattle.decision.proofs.Order.{order_iff}
use Rattle.decision.proofs.Steps.{sound_at, database_iff}

-- the four parts of the test, in views
record Parts (s : Coordinator) : Type 0 where
  held_open : (j : ℕ) → held s j ≡ true → is_open s j ≡ true
  tickets : Tickets s
  order : Ordered s
  marks : (k : ℕ) → k < databases → Marks s k
  rows : (k : ℕ) → k < databases → (b : ℕ) → b < jobs → Row s k b

module _ (s : Coordinator) (h : Shape s) where
  -- the test and its parts

  held_within : (within jobs s.held (open_slots s) ≡ true) ↔ ((j : ℕ) → held s j ≡ true → is_open s j ≡ true)
  unfolding held is_open
  held_within = within_iff jobs s.held (open_slots s) h.held (slots_small s h)

  sound_is : sound s
      ≡ (within jobs s.held (open_slots s) && every jobs (ticket_sound s.tickets (open_slots s)) && every jobs (place_sound s.order (open_slots s)) && every databases (sound_at s))
  unfolding sound sound_in open_slots
  sound_is = refl

  parts_of : sound s ≡ true → Parts s
  parts_of e =
      let all = sym sound_is ∙ e in
      let third = and_left (within jobs s.held (open_slots s) && every jobs (ticket_sound s.tickets (open_slots s)) && every jobs (place_sound s.order (open_slots s))) _ all in
      let second = and_left (within jobs s.held (open_slots s) && every jobs (ticket_sound s.tickets (open_slots s))) _ third in
      let at : (k : ℕ) → k < databases → sound_at s k ≡ true = every_at databases _ (and_right (within jobs s.held (open_slots s) && every jobs (ticket_sound s.tickets (open_slots s)) && every jobs (place_sound s.order (open_slots s))) _ all) in
      record {
        held_open = held_within.0 (and_left (within jobs s.held (open_slots s)) _ second);
        tickets = (tickets_iff s h).0 (and_right (within jobs s.held (open_slots s)) _ second);
        order = (order_iff s h).0 (and_right (within jobs s.held (open_slots s) && every jobs (ticket_sound s.tickets (open_slots s))) _ third);
        marks = λ k l. ((database_iff s h k).0 (at k l)).0;
        rows = λ k l. ((database_iff s h k).0 (at k l)).1;
      }

  of_parts : Parts s → sound s ≡ true
  of_parts p =
      sound_is
      ∙ and_both (and_both (and_both (held_within.1 p.held_open) ((tickets_iff s h).1 p.tickets)) ((order_iff s h).1 p.order))
      (every_of databases _ (λ k l. (database_iff s h k).1 (p.marks k l, p.rows k l)))

  -- the parts and the clauses

  names_mask : (j k : ℕ) → names s j k ≡ true → in_mask s j k ≡ true
  unfolding names
  names_mask j k e = e

  zeros : Parts s → (j : ℕ) → is_open s j ≡ false → Zeros s j
  zeros p j o =
      let unasked : (k : ℕ) → asked s j k ≡ true → ⊥ = λ k e. both (open_names s h j k ((p.marks k (asked_range s h j k e).1).asked_named j e)) o in
      let unreleased : (k : ℕ) → released s j k ≡ true → ⊥ = λ k e. unasked k ((p.marks k (released_range s h j k e).1).released_asked j e) in
      record {
        no_ticket = p.tickets.none j o;
        not_held = untrue (held s j) (λ e. both (p.held_open j e) o);
        not_asked = λ k. untrue (asked s j k) (unasked k);
        not_released = λ k. untrue (released s j k) (unreleased k);
        not_confirmed = λ k. untrue (confirmed s j k) (λ e. unreleased k ((p.marks k (confirmed_range s h j k e).1).confirmed_released j e));
      }

  joins : Parts s → (k a b : ℕ) → b < jobs → dep s k a b ≡ true → Joins s k a b
  joins p k a b l e =
      let (q, ne, r) = (p.rows k (dep_range s h k a b l e).1 b l).may a e in
      record { differ = ne; from_open = open_names s h a k r; to_open = open_names s h b k q; from_names = r; to_names = q }

  clauses : Parts s → Sound s
  clauses p = record {
    tickets_differ = p.tickets.differ;
    masks_nonzero = λ j o. let (k, l, e) = (open_iff s h j).0 o in (k, l, names_mask j k e);
    confirmed_released = λ j k e. (p.marks k (confirmed_range s h j k e).1).confirmed_released j e;
    released_asked = λ j k e. (p.marks k (released_range s h j k e).1).released_asked j e;
    asked_named = λ j k e. (p.marks k (asked_range s h j k e).1).asked_named j e;
    ordered = p.order;
    joins = joins p;
    under_way = λ k a b r c ne o n w. let (l, m) = names_range s h b k n in (p.rows k m b l).has_to a n w r c;
    held_confirmed = λ j k e n. (p.marks k (names_range s h j k n).1).held_confirmed j e n;
    free_zeros = zeros p;
  }

  -- a held slot is open: a free one holds zeros
  held_open_of : Sound s → (j : ℕ) → held s j ≡ true → (b : Bool) → is_open s j ≡ b → b ≡ true
  held_open_of c j e true o = refl
  held_open_of c j e false o = both e (c.free_zeros j o).not_held

  parts : Sound s → Parts s
  parts c = record {
    held_open = λ j e. held_open_of c j e (is_open s j) refl;
    tickets = record { differ = c.tickets_differ; none = λ j o. (c.free_zeros j o).no_ticket };
    order = c.ordered;
    marks = λ k l. record {
      asked_named = λ j e. c.asked_named j k e;
      released_asked = λ j e. c.released_asked j k e;
      confirmed_released = λ j e. c.confirmed_released j k e;
      held_confirmed = λ j e n. c.held_confirmed j k e n;
    };
    rows = λ k l b m. record {
      may = λ a e. let j = c.joins k a b m e in (j.to_names, j.differ, j.from_names);
      has_to = λ a n w r f. c.under_way k a b r f (λ e. both (rw (← e) at r) w) (open_names s h b k n) n w;
    };
  }

  pub sound_iff : (sound s ≡ true) ↔ Sound s
  sound_iff = (λ e. clauses (parts_of e), λ c. of_parts (parts c))
