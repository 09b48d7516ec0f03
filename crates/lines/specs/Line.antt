-- A line of four decimal numbers. Assumes nothing: these are definitions.
use Rattle.std.specs.Prelude.{ℕ, zero, suc, ◌+◌, ◌/◌, ◌%◌, true, false, List, [], ◌∷◌, ◌++◌, ltb}

-- n in decimal, in at most k digits
unfoldable pub decimal_in : ℕ → ℕ → List ℕ
decimal_in zero n = []
decimal_in (suc k) n = elim (ltb n 10) [ true ↦ (48 + n) ∷ [] | false ↦ decimal_in k (n / 10) ++ ((48 + n % 10) ∷ []) ]

-- a number in decimal, whole since every number here is below 10 ^ 20, and the byte after it
unfoldable pub word : ℕ → ℕ → List ℕ
word n end = decimal_in 20 n ++ (end ∷ [])

-- the record's index, its refusal number or 0, first and second, with single spaces
unfoldable pub line : ℕ → ℕ → ℕ → ℕ → List ℕ
line index refusal first second = word index 32 ++ (word refusal 32 ++ (word first 32 ++ word second 10))

-- the bytes that a line takes at most: 20 digits, 3, 10 and 10, each with the byte after it
abbrev pub longest : ℕ
longest = 47
