-- What each function answers, by its lengths. Assumes nothing.
use Prim.Native.Nat.{ℕ, ◌*◌, ◌/◌, ◌%◌}
use mathlib.Core.Path.{◌≡◌, sym, ap, ◌∙◌}
use mathlib.Core.Bool.{true}
use mathlib.Core.List.{List, []}
use Rattle.std.specs.Prelude.{Option}
use borrow.Author.Tests.{eq-eqb, ne_eqb}
use lib.ListN.{length}
use Rattle.coordinator.specs.declared.Coordinator.{Coordinator}
use Rattle.coordinator.specs.Fresh.{fresh}
use Rattle.coordinator.specs.Bound.{most_moves}
use Rattle.coordinator.specs.Call.{Call}
use Rattle.layout.proofs.Put.{put_all}
use Rattle.record.specs.Answer.{answer}
use Rattle.boundary.specs.State.{state_size, encoded, decoded}
use Rattle.boundary.specs.Row.{row_size, row}
use Rattle.boundary.specs.Records.{Answers, state_after, rows}
use Rattle.boundary.proofs.Written.{length_row}
use Rattle.boundary.specs.Outcome.{Outcome, Written, outcome, played_all, records_played, played_one, called, started, moves_at_most}

abbrev refused : List ℕ → List ℕ → Outcome
refused state answers = record { code = 10; state = state; answers = answers }

-- what was decoded, played and encoded
taken : (f : Coordinator → Written) (state answers : List ℕ) (s t : Coordinator) (state₁ answers₁ : List ℕ) → s ≡ decoded state → t ≡ (f s).state → answers₁ ≡ (f s).answers → state₁ ≡ encoded t →
    ◌≡◌ {A = Outcome} (record { code = 0; state = state₁; answers = answers₁ }) (outcome true f state answers)
unfolding outcome
taken f state answers s t state₁ answers₁ es et ea e = rw (e, et, ea, es)

module _ (state answers : List ℕ) where
  module _ (records : List ℕ) where
    pub records_wrong_state : ¬ (length state ≡ state_size) → refused state answers ≡ records_played state records answers
    unfolding records_played outcome
    records_wrong_state h = rw (ne_eqb (length state) state_size h)

    pub records_wrong : length state ≡ state_size → ¬ (length records % 4 ≡ 0) → refused state answers ≡ records_played state records answers
    unfolding records_played outcome
    records_wrong l h = rw (eq-eqb (length state) state_size l, ne_eqb (length records % 4) 0 h)

    pub answers_wrong : length state ≡ state_size → length records % 4 ≡ 0 → ¬ (length answers ≡ row_size * (length records / 4)) → refused state answers ≡ records_played state records answers
    unfolding records_played outcome
    answers_wrong l w h = rw (eq-eqb (length state) state_size l, eq-eqb (length records % 4) 0 w, ne_eqb (length answers) (row_size * (length records / 4)) h)

    pub records_right : length state ≡ state_size → length records % 4 ≡ 0 → length answers ≡ row_size * (length records / 4) → (s t : Coordinator) (state₁ answers₁ : List ℕ) → s ≡ decoded state →
        (answers₁ ≡ rows s records (length records / 4)) × (t ≡ state_after s records (length records / 4)) → state₁ ≡ encoded t →
        ◌≡◌ {A = Outcome} (record { code = 0; state = state₁; answers = answers₁ }) (records_played state records answers)
    unfolding records_played
    records_right l w h s t state₁ answers₁ es p e =
        rw (eq-eqb (length state) state_size l, eq-eqb (length records % 4) 0 w, eq-eqb (length answers) (row_size * (length records / 4)) h)
        (taken (played_all records) state answers s t state₁ answers₁ es p.1 p.0 e)

  module _ (c : Option Call) where
    pub call_wrong_state : ¬ (length state ≡ state_size) → refused state answers ≡ called c state answers
    unfolding called outcome
    call_wrong_state h = rw (ne_eqb (length state) state_size h)

    pub call_wrong_answer : length state ≡ state_size → ¬ (length answers ≡ row_size) → refused state answers ≡ called c state answers
    unfolding called outcome
    call_wrong_answer l h = rw (eq-eqb (length state) state_size l, ne_eqb (length answers) row_size h)

    -- the call is played, and its row is all that the answer holds
    pub call_right : length state ≡ state_size → length answers ≡ row_size → (s t : Coordinator) (state₁ answers₁ : List ℕ) → s ≡ decoded state →
        Answers s c answers 0 answers₁ t → state₁ ≡ encoded t → ◌≡◌ {A = Outcome} (record { code = 0; state = state₁; answers = answers₁ }) (called c state answers)
    unfolding called
    call_right l h s t state₁ answers₁ es p e =
        rw (eq-eqb (length state) state_size l, eq-eqb (length answers) row_size h)
        (taken (played_one c) state answers s t state₁ answers₁ es p.state (p.written ∙ put_all answers (row (answer s c).values) (length_row (answer s c).values ∙ sym h)) e)

module _ (first : ℕ) (state : List ℕ) where
  pub start_wrong : ¬ (length state ≡ state_size) → refused state [] ≡ started first state
  unfolding started outcome
  start_wrong h = rw (ne_eqb (length state) state_size h)

  pub start_right : length state ≡ state_size → (t : Coordinator) (state₁ : List ℕ) → t ≡ fresh first → state₁ ≡ encoded t →
      ◌≡◌ {A = Outcome} (record { code = 0; state = state₁; answers = [] }) (started first state)
  unfolding started outcome
  start_right l t state₁ et e = rw (eq-eqb (length state) state_size l, e, et)

pub moves_wrong : (state : List ℕ) → ¬ (length state ≡ state_size) → 4294967295 ≡ moves_at_most state
unfolding moves_at_most
moves_wrong state h = rw (moves_at_most, ne_eqb (length state) state_size h)

pub moves_right : (state : List ℕ) (s : Coordinator) (r : ℕ) → length state ≡ state_size → s ≡ decoded state → r ≡ most_moves s → r ≡ moves_at_most state
unfolding moves_at_most
moves_right state s r l es e = e ∙ ap most_moves es ∙ rw (moves_at_most, eq-eqb (length state) state_size l)
