-- What each function of the library answers, and leaves in its slices. Assumes nothing: these are definitions.
use Rattle.std.specs.Prelude.{ℕ, ◌*◌, ◌/◌, ◌%◌, ◌-◌, ◌^◌, Bool, true, false, ◌&&◌, List, [], eqb, length, Option}
use Rattle.coordinator.specs.declared.Coordinator.{Coordinator}
use Rattle.coordinator.specs.Fresh.{fresh}
use Rattle.coordinator.specs.Bound.{most_moves}
use Rattle.coordinator.specs.Call.{Call}
use Rattle.boundary.specs.State.{state_size, encoded, decoded}
use Rattle.boundary.specs.Row.{row_size, row}
use Rattle.record.specs.Answer.{answer}
use Rattle.boundary.specs.Records.{state_after, rows}

-- the number answered, and the slices as they are left
pub record Outcome : Type 0 where
  pub code : ℕ
  pub state : List ℕ
  pub answers : List ℕ

-- what is written where the lengths are right
pub record Written : Type 0 where
  pub state : Coordinator
  pub answers : List ℕ

-- wrong lengths are refused by 10, and nothing is written
unfoldable pub outcome : Bool → (Coordinator → Written) → List ℕ → List ℕ → Outcome
outcome true f state answers = record { code = 0; state = encoded (f (decoded state)).state; answers = (f (decoded state)).answers }
outcome false f state answers = record { code = 10; state = state; answers = answers }

abbrev pub played_all : List ℕ → Coordinator → Written
played_all records s = record { state = state_after s records (length records / 4); answers = rows s records (length records / 4) }

-- whole records, and a row for each
unfoldable pub records_played : List ℕ → List ℕ → List ℕ → Outcome
records_played state records answers =
    outcome (eqb (length state) state_size && eqb (length records % 4) 0 && eqb (length answers) (row_size * (length records / 4))) (played_all records) state answers

abbrev pub played_one : Option Call → Coordinator → Written
played_one c s = record { state = (answer s c).state; answers = row (answer s c).values }

-- one call, and its row
unfoldable pub called : Option Call → List ℕ → List ℕ → Outcome
called c state answers = outcome (eqb (length state) state_size && eqb (length answers) row_size) (played_one c) state answers

-- a fresh start, whatever stood there
unfoldable pub started : ℕ → List ℕ → Outcome
started first state = outcome (eqb (length state) state_size) (λ s. record { state = fresh first; answers = [] }) state []

-- how many moves the next opening takes at most; of a wrong length no bound is known
unfoldable pub moves_at_most : List ℕ → ℕ
moves_at_most state = elim (eqb (length state) state_size) [ true ↦ most_moves (decoded state) | false ↦ 2 ^ 32 - 1 ]
