-- A set of numbers in one number: k is a member where binary digit k is 1, so {0, 2} is 5. A set of numbers below n is a number below 2 ^ n.
-- Assumes nothing: these are definitions.
use Rattle.std.specs.Prelude.{ℕ, ◌+◌, ◌-◌, ◌*◌, ◌/◌, ◌%◌, ◌^◌, Bool, ◌==◌, bit_and, nat_lt}
use Rattle.std.specs.Int.Count.{ones_in, count_trailing_zeros}
use Rattle.loops.specs.Loop.{guard}

-- digit k of m, and whether k is a member
abbrev pub digit : ℕ → ℕ → ℕ
digit m k = m / 2 ^ k % 2

abbrev pub holds : ℕ → ℕ → Bool
holds m k = digit m k == 1

-- m with k, and without k
unfoldable pub including : ℕ → ℕ → ℕ
including m k = m + (1 - digit m k) * 2 ^ k

unfoldable pub excluding : ℕ → ℕ → ℕ
excluding m k = m - digit m k * 2 ^ k

-- m with k where k is below n: a set of n digits has no place for another
unfoldable pub joined : ℕ → ℕ → ℕ → ℕ
joined n m k = guard (nat_lt k n) (λ s. including s k) m

-- the members of a below n that are not in b, and whether there are none: a lies within b
abbrev pub less : ℕ → ℕ → ℕ → ℕ
less n a b = bit_and a (2 ^ n - 1 - b)

abbrev pub within : ℕ → ℕ → ℕ → Bool
within n a b = less n a b == 0

-- The lowest member below n, or n; and how many there are below n. Both count digits as the machine does:
-- `proofs/Lowest` and `proofs/Size` say of them that they are the lowest and the sum over the members.
abbrev pub lowest : ℕ → ℕ → ℕ
lowest n m = count_trailing_zeros n m

abbrev pub size : ℕ → ℕ → ℕ
size n m = ones_in n m
