-- What a set's digits are once a member is put in or taken out, and the bounds that stay. Assumes nothing.
use Rattle.std.proofs.Common.{◌≡◌, ℕ, zero, suc, ◌+◌, ◌-◌, ◌*◌, ◌/◌, ◌^◌, ◌<◌, ◌≤◌, ltb, sym, refl, ap, ◌∙◌, le_trans, le_of_eq, lt_of_le_of_lt, mul-le-mul_right, one-mul, div-mul-le_self, pow-suc, arith, pow_pos, le-ltb, lt-ltb}
use native.Mathlib.Nat.{div-eq-sub-div, max-zero}
use lib.Pow.{pow-lt}
use lib.Bits.{bit_and, bit_or, or_add_and, or_lt, and_le_l}
use Rattle.loops.proofs.Rules.{guard_yes, guard_no}
use Rattle.mask.specs.Member.{digit, including, excluding, joined, less}
use Rattle.std.proofs.lemmas.Nat.Bits.{and_pow, bit_at-lt, bit_at-suc, bit_at_lowest, bit_at-pow_other, bit_at-pow_same, bit_at_above, bit_at_or}

-- digit j of !m at n digits
pub digit_not : (n m j : ℕ) → m < 2 ^ n → j < n → digit (2 ^ n - 1 - m) j ≡ 1 - digit m j
digit_not zero m j h l = absurd (omega arith)
digit_not (suc n) m zero h l =
    let p : 2 ^ suc n ≡ 2 ^ n * 2 = pow-suc 2 n in
    bit_at_lowest (2 ^ suc n - 1 - m) ∙ omega (arith, bit_at_lowest m, pow_pos n)
digit_not (suc n) m (suc j) h l =
    let p : 2 ^ suc n ≡ 2 ^ n * 2 = pow-suc 2 n in
    let half : (2 ^ suc n - 1 - m) / 2 ≡ 2 ^ n - 1 - m / 2 = omega (arith, pow_pos n) in
    bit_at-suc (2 ^ suc n - 1 - m) j ∙ ap (λ (x : ℕ). digit x j) half ∙ digit_not n (m / 2) j (omega arith) (omega arith) ∙ ap (λ (x : ℕ). 1 - x) (sym (bit_at-suc m j))

pub or_pow : (m k : ℕ) → bit_or m (2 ^ k) ≡ including m k
unfolding including
or_pow m k = go (digit m k) (bit_at-lt m k) (and_pow m k)
  where
    go : (b : ℕ) → b < 2 → bit_and m (2 ^ k) ≡ b * 2 ^ k → bit_or m (2 ^ k) ≡ m + (1 - b) * 2 ^ k
    go zero h e = omega (arith, or_add_and m (2 ^ k))
    go (suc zero) h e = omega (arith, or_add_and m (2 ^ k))
    go (suc (suc b)) h e = absurd (omega arith)

pub sub_pow : (m k : ℕ) → m - bit_and m (2 ^ k) ≡ excluding m k
unfolding excluding
sub_pow m k = ap (λ (x : ℕ). m - x) (and_pow m k)

pub including_same : (m k : ℕ) → digit (including m k) k ≡ 1
including_same m k = rw (← or_pow, bit_at_or, bit_at-pow_same) (omega (arith, bit_at-lt m k))

pub including_other : (m k j : ℕ) → (j ≡ k → ⊥) → digit (including m k) j ≡ digit m j
including_other m k j ne = rw (← or_pow, bit_at_or, bit_at-pow_other k j ne) (max-zero (digit m j))

pub including_lt : (n m k : ℕ) → m < 2 ^ n → k < n → including m k < 2 ^ n
including_lt n m k h l = rw (← or_pow) (or_lt n m (2 ^ k) h (pow-lt l))

pub excluding_le : (m k : ℕ) → excluding m k ≤ m
unfolding excluding
excluding_le m k = omega arith

-- a member weighs no more than its set
pub member_le : (m k : ℕ) → digit m k ≡ 1 → 2 ^ k ≤ m
member_le m k e = le_trans (le_of_eq (sym (one-mul (2 ^ k)))) (le_trans (mul-le-mul_right (2 ^ k) (omega arith)) (div-mul-le_self m (2 ^ k)))

pub excluding_same : (m k : ℕ) → digit (excluding m k) k ≡ 0
unfolding excluding
excluding_same m k = go (digit m k) (bit_at-lt m k) refl
  where
    go : (b : ℕ) → b < 2 → digit m k ≡ b → digit (m - b * 2 ^ k) k ≡ 0
    go zero h e = ap (λ (x : ℕ). digit x k) (omega arith) ∙ e
    go (suc zero) h e =
        let over : 2 ^ k ≤ m = member_le m k e in
        let q : m / 2 ^ k ≡ (m - 2 ^ k) / 2 ^ k + 1 = div-eq-sub-div (pow_pos k) over in
        ap (λ (x : ℕ). digit (m - x) k) (one-mul (2 ^ k)) ∙ omega arith
    go (suc (suc b)) h e = absurd (omega arith)

pub excluding_other : (m k j : ℕ) → (j ≡ k → ⊥) → digit (excluding m k) j ≡ digit m j
unfolding excluding including
excluding_other m k j ne = go (digit m k) (bit_at-lt m k) refl
  where
    go : (b : ℕ) → b < 2 → digit m k ≡ b → digit (m - b * 2 ^ k) j ≡ digit m j
    go zero h e = ap (λ (x : ℕ). digit x j) (omega arith)
    go (suc zero) h e =
        let c : digit (m - digit m k * 2 ^ k) k ≡ 0 = excluding_same m k in
        let over : 2 ^ k ≤ m = member_le m k e in
        let back : including (m - 1 * 2 ^ k) k ≡ m = ap (λ (x : ℕ). m - 1 * 2 ^ k + (1 - x) * 2 ^ k) (ap (λ (x : ℕ). digit (m - x * 2 ^ k) k) (sym e) ∙ c) ∙ omega arith in
        sym (including_other (m - 1 * 2 ^ k) k j ne) ∙ ap (λ (x : ℕ). digit x j) back
    go (suc (suc b)) h e = absurd (omega arith)

pub excluding_lt : (n m k : ℕ) → m < 2 ^ n → excluding m k < 2 ^ n
excluding_lt n m k h = lt_of_le_of_lt (excluding_le m k) h

pub less_lt : (n a b : ℕ) → a < 2 ^ n → less n a b < 2 ^ n
less_lt n a b h = lt_of_le_of_lt (and_le_l a (2 ^ n - 1 - b)) h

-- beyond the width there is nothing to take out, and nothing is put in

pub excluding_beyond : (n m k : ℕ) → m < 2 ^ n → n ≤ k → m ≡ excluding m k
unfolding excluding
excluding_beyond n m k h l = rw (bit_at_above m n k h l) (omega arith)

pub joined_below : (n m k : ℕ) → k < n → joined n m k ≡ including m k
unfolding joined
joined_below n m k l = guard_yes (ltb k n) (λ s. including s k) m (lt-ltb k n l)

pub joined_beyond : (n m k : ℕ) → n ≤ k → m ≡ joined n m k
unfolding joined
joined_beyond n m k l = sym (guard_no (ltb k n) (λ s. including s k) m (le-ltb k n l))
