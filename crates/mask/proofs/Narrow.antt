-- A set of n digits changed in a word of w digits, and read back at n: what the operations of `Words` say of it. Assumes nothing.
use Rattle.std.proofs.Common.{◌≡◌, ℕ, ◌-◌, ◌*◌, ◌%◌, ◌^◌, ◌<◌, ◌≤◌, ◌⊎◌, ◌∙◌, sym, ap, inl, inr, lt_of_lt_of_le, lt_of_le_of_lt, eq-zero-or-pos, mod-eq_of_lt, arith, pow_mono}
use lib.Pow.{pow-lt}
use lib.Bits.{bit_and, bit_or, or_lt, and_le_l, and_zero_l, and_comm}
use Rattle.mask.specs.Member.{excluding, joined, less, lowest}
use Rattle.mask.proofs.Words.{and_not, one_shl, and_not_shl, rest_is}
use Rattle.mask.proofs.Change.{or_pow, joined_below}
use Rattle.mask.proofs.Lowest.{trailing_lowest}

-- what lies within a set of n digits is read back as it is
narrow_and : (n a b : ℕ) → a < 2 ^ n → bit_and a b % 2 ^ n ≡ bit_and a b
narrow_and n a b h = mod-eq_of_lt (lt_of_le_of_lt (and_le_l a b) h)

wide : (n w m : ℕ) → n ≤ w → m < 2 ^ n → m < 2 ^ w
wide n w m l h = lt_of_lt_of_le h (pow_mono l)

pub narrow_joined : (n w m k : ℕ) → n ≤ w → m < 2 ^ n → k < n → bit_or m (1 * 2 ^ k % 2 ^ w) % 2 ^ n ≡ joined n m k
narrow_joined n w m k l h b =
    rw (one_shl w k (omega (arith, l, b))) (mod-eq_of_lt (or_lt n m (2 ^ k) h (pow-lt b))) ∙ or_pow m k ∙ sym (joined_below n m k b)

pub narrow_excluding : (n w m k : ℕ) → n ≤ w → m < 2 ^ n → k < n → bit_and m (2 ^ w - 1 - 1 * 2 ^ k % 2 ^ w) % 2 ^ n ≡ excluding m k
narrow_excluding n w m k l h b = narrow_and n m _ h ∙ and_not_shl w m k (wide n w m l h) (omega (arith, l, b))

pub narrow_less : (n w a b : ℕ) → n ≤ w → a < 2 ^ n → b < 2 ^ n → bit_and a (2 ^ w - 1 - b) % 2 ^ n ≡ less n a b
narrow_less n w a b l ha hb = narrow_and n a _ ha ∙ and_not w a b (wide n w a l ha) (wide n w b l hb) ∙ sym (and_not n a b ha hb)

-- x is m - 1, but for an empty set, where it may be anything
pub narrow_rest : (n m x : ℕ) → m < 2 ^ n → (0 < m → x ≡ m - 1) → bit_and m x % 2 ^ n ≡ excluding m (lowest n m)
unfolding excluding
narrow_rest n m x h e = narrow_and n m x h ∙ by (eq-zero-or-pos m)
  where
    by : (m ≡ 0) ⊎ (0 < m) → bit_and m x ≡ excluding m (lowest n m)
    by (inl z) = rw (z, and_zero_l x) (omega arith)
    by (inr p) = and_comm m x ∙ ap (λ (y : ℕ). bit_and y m) (e p) ∙ rest_is n m (lowest n m) p (trailing_lowest n m p h)
