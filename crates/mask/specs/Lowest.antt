-- What it is to be the lowest. Assumes nothing: these are definitions.
use Rattle.std.specs.Prelude.{◌≡◌, ℕ, ◌<◌}
use Rattle.mask.specs.Member.{digit}

-- w is the lowest member of m, and below n
pub record Lowest (n m w : ℕ) : Type 0 where
  pub within : w < n
  pub on : digit m w ≡ 1
  pub below : (j : ℕ) → j < w → digit m j ≡ 0

-- w is the lowest number below n that is not in m
pub record Free (n m w : ℕ) : Type 0 where
  pub within : w < n
  pub off : digit m w ≡ 0
  pub below : (j : ℕ) → j < w → digit m j ≡ 1
