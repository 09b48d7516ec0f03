-- The test of the tickets decides that those of open jobs differ and that a free slot has none. Assumes nothing.
use Prim.Native.Nat.{ℕ, ◌^◌, ◌<◌}
use native.Mathlib.Omega.{arith}
use native.Mathlib.Decide.{dec_lt}
use mathlib.Core.Bool.{Bool, true, false}
use mathlib.Core.Logic.{◌↔◌}
use mathlib.Core.Path.{◌≡◌, refl, sym, ◌∙◌}
use borrow.Author.Tests.{eq-eqb, eqb-true}
use lib.Dec.{eqb}
use Rattle.loops.specs.Loop.{every}
use Rattle.loops.proofs.Turns.{every_at, every_of}
use Rattle.tables.specs.Tables.{holders_in}
use Rattle.tables.specs.Test.{ticket_sound}
use Rattle.tables.proofs.Owning.{only_iff}
use Rattle.coordinator.specs.declared.Coordinator.{Coordinator}
use Rattle.coordinator.specs.Limits.{jobs}
use Rattle.coordinator.specs.Shape.{Shape}
use Rattle.coordinator.specs.Views.{entry, open_slots, is_open, ticket}
use Rattle.effects.proofs.Bounds.{entry_beyond, slots_small, open_range}
use Rattle.decision.specs.Clause.{Tickets}

module _ (s : Coordinator) where
  at_open : (j : ℕ) → is_open s j ≡ true → ticket_sound s.tickets (open_slots s) j ≡ eqb (holders_in s.tickets (open_slots s) (entry s.tickets j)) (2 ^ j)
  unfolding ticket_sound is_open
  at_open j e = rw (ticket_sound, e)

  at_free : (j : ℕ) → is_open s j ≡ false → ticket_sound s.tickets (open_slots s) j ≡ eqb (ticket s j) 0
  unfolding ticket_sound is_open ticket
  at_free j e = rw (ticket_sound, e)

module _ (s : Coordinator) (h : Shape s) where
  -- only j holds the ticket of j
  only_one : (j : ℕ) → is_open s j ≡ true
      → (holders_in s.tickets (open_slots s) (entry s.tickets j) ≡ 2 ^ j) ↔ ((a : ℕ) → is_open s a ≡ true → ticket s a ≡ ticket s j → a ≡ j)
  unfolding is_open ticket
  only_one j o = only_iff s.tickets (open_slots s) (slots_small s h) j o

  beyond_none : (j : ℕ) → ¬ (j < jobs) → ticket s j ≡ 0
  unfolding ticket
  beyond_none j g = entry_beyond h.tickets j (omega arith)

  to : every jobs (ticket_sound s.tickets (open_slots s)) ≡ true → Tickets s
  to e = record {
    differ = λ a b p q t.
        let l = open_range s h b q in
        (only_one b q).0 (eqb-true (holders_in s.tickets (open_slots s) (entry s.tickets b)) (2 ^ b) (sym (at_open s b q) ∙ every_at jobs _ e b l)) a p t;
    none = λ j o. elim (dec_lt j jobs) [
      | yes l ↦ eqb-true (ticket s j) 0 (sym (at_free s j o) ∙ every_at jobs _ e j l)
      | no g ↦ beyond_none j g
    ];
  }

  from : Tickets s → every jobs (ticket_sound s.tickets (open_slots s)) ≡ true
  from t = every_of jobs _ (λ j l. by j l (is_open s j) refl)
    where
      by : (j : ℕ) → j < jobs → (b : Bool) → is_open s j ≡ b → ticket_sound s.tickets (open_slots s) j ≡ true
      by j l true o = at_open s j o ∙ eq-eqb (holders_in s.tickets (open_slots s) (entry s.tickets j)) (2 ^ j) ((only_one j o).1 (λ a p q. t.differ a j p o q))
      by j l false o = at_free s j o ∙ eq-eqb (ticket s j) 0 (t.none j o)

  pub tickets_iff : (every jobs (ticket_sound s.tickets (open_slots s)) ≡ true) ↔ Tickets s
  tickets_iff = (to, from)
