-- The members of a set walked from low to high; a set gathered from its digits, or from sets. Assumes nothing: these are definitions.
use Rattle.std.specs.Prelude.{◌≡◌, ℕ, ◌*◌, ◌^◌, bit_or, Option, MatchOption}
use Rattle.mask.specs.Member.{holds, excluding}
use Rattle.mask.specs.Lowest.{Lowest}
use Rattle.loops.specs.Loop.{over, guard}

-- `for k in 0..n { if k is in m { s = f(k, s) } }`
unfoldable pub over_members : {S : Type 0} → ℕ → ℕ → (ℕ → S → S) → S → S
over_members n m f s = over n (λ k. guard (holds m k) (f k)) s

-- the set whose digit j is d j: `for j in 0..n { m = m | d(j) << j }`
unfoldable pub gather : ℕ → (ℕ → ℕ) → ℕ
gather n d = over n (λ j m. bit_or m (d j * 2 ^ j)) 0

-- the union of f 0 to f (n - 1): `for k in 0..n { m = m | f(k) }`
unfoldable pub union_of : ℕ → (ℕ → ℕ) → ℕ
union_of n f = over n (λ k m. bit_or m (f k)) 0

-- a turn of a walk, with m left before it and r after it: it gives the lowest member and takes it out, or nothing where none is left
abbrev pub Takes : ℕ → ℕ → Option ℕ → ℕ → Type 0
Takes n m k r = MatchOption k ((m ≡ 0) × (r ≡ 0)) (λ j. Lowest n m j × (r ≡ excluding m j))
