-- The lines of many records, and the state they leave. Assumes nothing: these are definitions.
use Rattle.std.specs.Prelude.{ℕ, ◌+◌, ◌/◌, List, [], ◌∷◌, ◌++◌, length}
use Rattle.coordinator.specs.declared.Coordinator.{Coordinator}
use Rattle.record.specs.Record.{call_of, two_bytes}
use Rattle.lines.specs.Answered.{Answered, answered}
use Rattle.lines.specs.Line.{line}

-- what the record of four bytes a, b, c, d answers
abbrev pub answer : Coordinator → ℕ → ℕ → ℕ → ℕ → Answered
answer s a b c d = answered s (call_of a b (two_bytes c d))

abbrev pub line_of : ℕ → Answered → List ℕ
line_of index r = line index r.refusal r.first r.second

-- one to three bytes left at the end are refused by 12
abbrev pub left_over : ℕ → List ℕ
left_over index = line index 12 0 0

-- a line for each record, from index and state on; each record is given the state that the last one left, whatever it answered
unfoldable pub lines_of : ℕ → Coordinator → List ℕ → List ℕ
lines_of index s [] = []
lines_of index s (a ∷ []) = left_over index
lines_of index s (a ∷ b ∷ []) = left_over index
lines_of index s (a ∷ b ∷ c ∷ []) = left_over index
lines_of index s (a ∷ b ∷ c ∷ d ∷ rest) = line_of index (answer s a b c d) ++ lines_of (index + 1) (answer s a b c d).state rest

-- the state after the records
unfoldable pub state_after : Coordinator → List ℕ → Coordinator
state_after s [] = s
state_after s (a ∷ []) = s
state_after s (a ∷ b ∷ []) = s
state_after s (a ∷ b ∷ c ∷ []) = s
state_after s (a ∷ b ∷ c ∷ d ∷ rest) = state_after (answer s a b c d).state rest

-- how many lines these are: bytes left over have one
abbrev pub lines_in : List ℕ → ℕ
lines_in bytes = (length bytes + 3) / 4
