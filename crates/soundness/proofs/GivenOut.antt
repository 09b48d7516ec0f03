-- The ticket given out: the first number, from the candidate upwards, that no open job holds. Assumes nothing.
use Prim.Native.Nat.{ℕ, ◌<◌}
use native.Mathlib.Omega.{arith}
use mathlib.Core.Bool.{true}
use mathlib.Core.Path.{◌≡◌, ap, sym, ◌∙◌}
use lib.ListN.{length, get_or}
use Rattle.loops.proofs.Tables.{length_table, table_at}
use Rattle.numbers.specs.First.{IsHeld, upward}
use Rattle.numbers.proofs.First.{ticket_first}
use Rattle.coordinator.specs.declared.Coordinator.{Coordinator}
use Rattle.coordinator.specs.Shape.{Shape}
use Rattle.coordinator.specs.Sound.{Sound}
use Rattle.coordinator.specs.Views.{is_open, open_count, ticket, opened}
use Rattle.coordinator.specs.Open.{held_tickets, ticket_for}
use Rattle.effects.proofs.Bounds.{count_le}
use Rattle.soundness.specs.GivenOut.{Holds, GivenOut}

module _ (s : Coordinator) (h : Shape s) (S : Sound s) where
  held_length : length (held_tickets s) ≡ open_count s
  unfolding held_tickets
  held_length = length_table (open_count s) (λ i. ticket s (opened s i))

  held_at : (i : ℕ) → i < open_count s → get_or (held_tickets s) i 0 ≡ ticket s (opened s i)
  unfolding held_tickets
  held_at i l = table_at (open_count s) (λ i. ticket s (opened s i)) i 0 l

  -- the listed tickets are those of the open jobs
  listed : (t : ℕ) → Holds s t → IsHeld (held_tickets s) t
  listed t (j, o, e) =
      let (i, l, q) = S.ordered.each j o in
      (i, omega (arith, held_length), held_at i l ∙ ap (ticket s) q ∙ e)

  holding : (t : ℕ) → IsHeld (held_tickets s) t → Holds s t
  holding t (i, l, e) =
      let m : i < open_count s = omega (arith, held_length) in
      (opened s i, S.ordered.only i m, sym (held_at i m) ∙ e)

  pub ticket_given : GivenOut s (ticket_for s)
  unfolding ticket_for
  ticket_given =
      let f = ticket_first (held_tickets s) s.maker.next (omega (arith, held_length, count_le s h)) h.candidate in
      record {
        steps = f.steps;
        is = f.is;
        free = λ x. f.free (listed (ticket_for s) x);
        passed = λ i l. holding (upward s.maker.next i) (f.passed i l);
      }

  pub ticket_unheld : (i : ℕ) → is_open s i ≡ true → ¬ (ticket s i ≡ ticket_for s)
  ticket_unheld i o e = ticket_given.free (i, o, e)
