-- Sets of pairs (job, database), with jobs below J and databases below D.
-- Assumes nothing.
use Rattle.std.specs.Prelude.{ℕ, ◌<◌, Bool, false, ◌&&◌, ◌||◌, ◌≡◌, eqb}
use Rattle.loops.specs.Sum.{pairs}

-- A representation: the test, the insertion, the empty set and their laws. `Good` is what every set made by them has, such as a list's length.
pub record Marks (J D : ℕ) : Type 1 where
  pub M : Type 0
  pub has : M → ℕ → ℕ → Bool
  pub put : M → ℕ → ℕ → M
  pub none : M
  pub Good : M → Type 0
  pub good_none : Good none
  pub good_put : (m : M) (w u : ℕ) → Good m → Good (put m w u)
  pub has_none : (a b : ℕ) → has none a b ≡ false
  pub has_put : (m : M) (w u a b : ℕ) → Good m → w < J → u < D → has (put m w u) a b ≡ eqb a w && eqb b u || has m a b

-- how many pairs a set has
abbrev pub count : {J D : ℕ} (K : Marks J D) → K.M → ℕ
count {J} {D} K m = pairs J D (K.has m)
