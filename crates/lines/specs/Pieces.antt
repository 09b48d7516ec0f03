-- Records that come in pieces. Assumes nothing: these are definitions.
use Rattle.std.specs.Prelude.{ℕ, ◌+◌, ◌%◌, ◌≡◌, List, [], ◌∷◌, ◌++◌, length}
use Rattle.coordinator.specs.declared.Coordinator.{Coordinator}
use Rattle.lines.specs.Lines.{lines_of, state_after, lines_in}

unfoldable pub joined : List (List ℕ) → List ℕ
joined [] = []
joined (p ∷ ps) = p ++ joined ps

-- every piece but the last holds whole records
abbrev pub Whole : List (List ℕ) → Type 0
Whole [] = Unit {0}
Whole (p ∷ []) = Unit {0}
Whole (p ∷ q ∷ ps) = (length p % 4 ≡ 0) × Whole (q ∷ ps)

-- each piece is played from the index and the state that the last one left
unfoldable pub lines_of_pieces : ℕ → Coordinator → List (List ℕ) → List ℕ
lines_of_pieces index s [] = []
lines_of_pieces index s (p ∷ ps) = lines_of index s p ++ lines_of_pieces (index + lines_in p) (state_after s p) ps

unfoldable pub state_after_pieces : Coordinator → List (List ℕ) → Coordinator
state_after_pieces s [] = s
state_after_pieces s (p ∷ ps) = state_after_pieces (state_after s p) ps
