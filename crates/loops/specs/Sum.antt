-- Sums. Assumes nothing.
use Rattle.std.specs.Prelude.{ℕ, zero, suc, ◌+◌, Bool, true, false}

-- g 0 + .. + g (k - 1)
unfoldable pub sum : ℕ → (ℕ → ℕ) → ℕ
sum zero g = 0
sum (suc k) g = sum k g + g k

-- 1 where a test passes
abbrev pub tally : Bool → ℕ
tally true = 1
tally false = 0

-- how many pairs pass a test
abbrev pub pairs : ℕ → ℕ → (ℕ → ℕ → Bool) → ℕ
pairs J D p = sum J (λ w. sum D (λ u. tally (p w u)))
