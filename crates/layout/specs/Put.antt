-- A text put into a buffer. Assumes nothing: this is a definition.
use Rattle.std.specs.Prelude.{ℕ, ◌+◌, ◌≤◌, ◌≡◌, List, ◌++◌, length, take, drop}

-- o with the bytes of t from index at on
unfoldable pub put : List ℕ → ℕ → List ℕ → List ℕ
put o at t = take at o ++ (t ++ drop (at + length t) o)

-- n counts bytes at the start of o, in the two facts that `&o[..n]` asks
abbrev pub Counts : ℕ → List ℕ → Type 0
Counts n o = (n ≤ length o) × (n ≡ length (take n o))
