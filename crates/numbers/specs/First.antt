-- The rule for tickets as a statement: the first number, from the candidate upwards, that no open job holds. Assumes nothing.
use Rattle.std.specs.Prelude.{◌≡◌, ℕ, ◌+◌, ◌%◌, ◌^◌, ◌<◌, List, length, slice_index}

-- t stands somewhere in the list
abbrev pub IsHeld : List ℕ → ℕ → Type 0
IsHeld held t = (i : ℕ) × (i < length held) × (slice_index held i ≡ t)

-- the number so many steps above `from`: after 65,535 the next is 0
abbrev pub upward : ℕ → ℕ → ℕ
upward from steps = (from + steps) % 2 ^ 16

pub record FirstFree (held : List ℕ) (from t : ℕ) : Type 0 where
  pub steps : ℕ
  pub is : t ≡ upward from steps
  pub free : ¬ IsHeld held t
  pub passed : (j : ℕ) → j < steps → IsHeld held (upward from j)
