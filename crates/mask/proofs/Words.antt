-- The operations as the code has them: at w digits `1 << k` is 1 * 2 ^ k % 2 ^ w and `!x` is 2 ^ w - 1 - x. Assumes nothing.
use Rattle.std.proofs.Common.{◌≡◌, ℕ, zero, suc, ◌-◌, ◌*◌, ◌/◌, ◌%◌, ◌^◌, ◌<◌, Bool, true, false, sym, refl, ap, ◌∙◌, mod-eq_of_lt, zero-lt-suc, one-mul, pow-suc, zero-mul, arith, pow_pos}
use lib.Pow.{pow-lt}
use lib.Bits.{bit_and, bit_or, and_step, and_self, and_comm}
use Rattle.mask.specs.Member.{digit, holds, including, excluding}
use Rattle.mask.specs.Lowest.{Lowest}
use Rattle.std.proofs.lemmas.Nat.{and-not}
use Rattle.std.proofs.lemmas.Nat.Bits.{and_pow, bit_at-suc, bit_at_lowest}
use Rattle.mask.proofs.Change.{or_pow, sub_pow}
use Rattle.mask.proofs.Holds.{digit_on, digit_off}

-- a & !b, at n digits
pub and_not : (n a b : ℕ) → a < 2 ^ n → b < 2 ^ n → bit_and a (2 ^ n - 1 - b) ≡ a - bit_and a b
and_not n a b ha hb = omega (arith, and-not n b a hb ha, and_comm a b, and_comm a (2 ^ n - 1 - b))

pub one_shl : (w k : ℕ) → k < w → 1 * 2 ^ k % 2 ^ w ≡ 2 ^ k
one_shl w k l = ap (λ (x : ℕ). x % 2 ^ w) (one-mul (2 ^ k)) ∙ mod-eq_of_lt (pow-lt l)

pub or_shl : (w m k : ℕ) → k < w → bit_or m (1 * 2 ^ k % 2 ^ w) ≡ including m k
or_shl w m k l = rw (one_shl w k l) (or_pow m k)

-- the test `m & 1 << k != 0`
and_shl : (w m k : ℕ) → k < w → bit_and m (1 * 2 ^ k % 2 ^ w) ≡ digit m k * 2 ^ k
and_shl w m k l = rw (one_shl w k l) (and_pow m k)

pub meets_shl : (w m k : ℕ) → k < w → ¬ (bit_and m (1 * 2 ^ k % 2 ^ w) ≡ 0) → holds m k ≡ true
meets_shl w m k l ne = by (holds m k) refl
  where
    by : (b : Bool) → holds m k ≡ b → b ≡ true
    by true e = refl
    by false e = absurd (ne (and_shl w m k l ∙ rw (digit_off m k e) (zero-mul (2 ^ k))))

pub misses_shl : (w m k : ℕ) → k < w → bit_and m (1 * 2 ^ k % 2 ^ w) ≡ 0 → holds m k ≡ false
misses_shl w m k l z = by (holds m k) refl
  where
    by : (b : Bool) → holds m k ≡ b → b ≡ false
    by true e = let one : 1 * 2 ^ k ≡ 0 = rw (digit_on m k e) at (sym (and_shl w m k l) ∙ z) in absurd (omega (arith, pow_pos k))
    by false e = refl

pub and_not_shl : (w m k : ℕ) → m < 2 ^ w → k < w → bit_and m (2 ^ w - 1 - 1 * 2 ^ k % 2 ^ w) ≡ excluding m k
and_not_shl w m k h l = rw (one_shl w k l) (and_not w m (2 ^ k) h (pow-lt l) ∙ sub_pow m k)

-- the set without its lowest member

clear_is : (m w : ℕ) → digit m w ≡ 1 → excluding m w ≡ m - 2 ^ w
unfolding excluding
clear_is m w e = rw e (omega arith)

rest_of : (w m : ℕ) → 0 < m → digit m w ≡ 1 → ((j : ℕ) → j < w → digit m j ≡ 0) → bit_and (m - 1) m ≡ m - 2 ^ w
rest_of zero m p on below =
    let d : m % 2 ≡ 1 = sym (bit_at_lowest m) ∙ on in
    let e : (m - 1) / 2 ≡ m / 2 = omega arith in
    let h : bit_and ((m - 1) / 2) (m / 2) ≡ m / 2 = ap (λ (x : ℕ). bit_and x (m / 2)) e ∙ and_self (m / 2) in
    omega (arith, and_step (m - 1) m)
rest_of (suc w) m p on below =
    let d : m % 2 ≡ 0 = sym (bit_at_lowest m) ∙ below 0 (zero-lt-suc w) in
    let q : 2 ^ suc w ≡ 2 ^ w * 2 = pow-suc 2 w in
    let e : (m - 1) / 2 ≡ m / 2 - 1 = omega arith in
    let h : bit_and ((m - 1) / 2) (m / 2) ≡ bit_and (m / 2 - 1) (m / 2) = ap (λ (x : ℕ). bit_and x (m / 2)) e in
    omega (arith, and_step (m - 1) m, rest_of w (m / 2) (omega arith) (sym (bit_at-suc m w) ∙ on) (λ j l. sym (bit_at-suc m j) ∙ below (suc j) (omega arith)))

pub rest_is : (n m w : ℕ) → 0 < m → Lowest n m w → bit_and (m - 1) m ≡ excluding m w
rest_is n m w p l = rest_of w m p l.on l.below ∙ sym (clear_is m w l.on)
