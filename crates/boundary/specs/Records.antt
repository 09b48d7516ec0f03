-- What records answer, one after another, and the state they leave. Assumes nothing: these are definitions.
use Rattle.std.specs.Prelude.{ℕ, zero, suc, ◌+◌, ◌*◌, List, ◌≡◌, get_or, Option}
use Rattle.coordinator.specs.declared.Coordinator.{Coordinator}
use Rattle.coordinator.specs.Call.{Call}
use Rattle.layout.specs.Put.{put}
use Rattle.layout.specs.Bytes.{number_at, pieces}
use Rattle.record.specs.Record.{call_of}
use Rattle.record.specs.Answer.{answer}
use Rattle.boundary.specs.Row.{row}

-- its row stands from index at on, nothing else is changed, and r is the state left
pub record Answers (s : Coordinator) (c : Option Call) (o : List ℕ) (at : ℕ) (left : List ℕ) (r : Coordinator) : Type 0 where
  pub written : left ≡ put o at (row (answer s c).values)
  pub state : r ≡ (answer s c).state

-- record i: kind, database, and two bytes of mask or ticket
abbrev pub record_at : List ℕ → ℕ → Option Call
record_at records i = call_of (get_or records (4 * i) 0) (get_or records (4 * i + 1) 0) (number_at 2 records (4 * i + 2))

-- the state after i records, each given the state that the last one left, whatever it answered
unfoldable pub state_after : Coordinator → List ℕ → ℕ → Coordinator
state_after s records zero = s
state_after s records (suc i) = (answer (state_after s records i) (record_at records i)).state

unfoldable pub row_at : Coordinator → List ℕ → ℕ → List ℕ
row_at s records i = row (answer (state_after s records i) (record_at records i)).values

-- the rows of the first n
unfoldable pub rows : Coordinator → List ℕ → ℕ → List ℕ
rows s records n = pieces n (row_at s records)
