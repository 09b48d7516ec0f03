-- What a set holds after a change: each operation on sets is the operation on tests, at every index. Assumes nothing.
use Rattle.std.proofs.Common.{◌≡◌, ℕ, zero, suc, ◌-◌, ◌^◌, ◌<◌, ◌≤◌, min, max, Bool, true, false, not, ◌&&◌, ◌||◌, eqb, ltb, sym, refl, ap, ◌∙◌, lt_of_lt_of_le, arith, pow_pos, ltb-false, ltb-true, eq-eqb, ne_eqb, eqb-true}
use native.Mathlib.Decide.{dec_lt}
use borrow.Author.Tests.{eqb-false}
use lib.Bits.{bit_and, bit_or}
use Rattle.loops.specs.Sum.{tally}
use Rattle.loops.proofs.Tests.{both}
use Rattle.mask.specs.Member.{digit, holds, including, excluding, joined, less}
use Rattle.std.proofs.lemmas.Nat.Bits.{bit_at-lt, bit_at-pow_other, bit_at-pow_same, bit_at-zero, bit_at_above, bit_at_and, bit_at_or}
use Rattle.mask.proofs.Change.{digit_not, including_same, including_other, excluding_same, excluding_other, joined_below, joined_beyond, less_lt, member_le}

-- members and digits

pub holds_of : (m k : ℕ) → digit m k ≡ 1 → holds m k ≡ true
holds_of m k e = eq-eqb (digit m k) 1 e

pub holds_not : (m k : ℕ) → digit m k ≡ 0 → holds m k ≡ false
holds_not m k e = ne_eqb (digit m k) 1 (λ p. omega arith)

pub digit_on : (m k : ℕ) → holds m k ≡ true → digit m k ≡ 1
digit_on m k e = eqb-true (digit m k) 1 e

pub digit_off : (m k : ℕ) → holds m k ≡ false → digit m k ≡ 0
digit_off m k e = let n : ¬ (digit m k ≡ 1) = eqb-false (digit m k) 1 e in omega (arith, bit_at-lt m k)

-- a digit counts its member
pub tally_holds : (m k : ℕ) → tally (holds m k) ≡ digit m k
tally_holds m k = by (holds m k) refl
  where
    by : (b : Bool) → holds m k ≡ b → tally b ≡ digit m k
    by true e = sym (digit_on m k e)
    by false e = sym (digit_off m k e)

-- no member beyond the width

pub holds_beyond : (n m j : ℕ) → m < 2 ^ n → n ≤ j → holds m j ≡ false
holds_beyond n m j h l = holds_not m j (bit_at_above m n j h l)

pub holds_below : (n m j : ℕ) → m < 2 ^ n → holds m j ≡ true → j < n
holds_below n m j h e = elim (dec_lt j n) [
  | yes l ↦ l
  | no g ↦ both e (holds_beyond n m j h (omega arith))
]

-- a set with a member is not 0
pub holds_pos : (m k : ℕ) → holds m k ≡ true → 0 < m
holds_pos m k e = lt_of_lt_of_le (pow_pos k) (member_le m k (digit_on m k e))

-- the empty set, one member, a member more, a member less

pub holds_none : (j : ℕ) → holds 0 j ≡ false
holds_none j = holds_not 0 j (bit_at-zero j)

pub holds_one : (k j : ℕ) → holds (2 ^ k) j ≡ eqb j k
holds_one k j = by (eqb j k) refl
  where
    by : (b : Bool) → eqb j k ≡ b → holds (2 ^ k) j ≡ b
    by true e = rw (eqb-true j k e) (holds_of (2 ^ k) k (bit_at-pow_same k))
    by false e = holds_not (2 ^ k) j (bit_at-pow_other k j (eqb-false j k e))

pub holds_including : (m k j : ℕ) → holds (including m k) j ≡ eqb j k || holds m j
holds_including m k j = by (eqb j k) refl
  where
    by : (b : Bool) → eqb j k ≡ b → holds (including m k) j ≡ b || holds m j
    by true e = rw (eqb-true j k e) (holds_of (including m k) k (including_same m k))
    by false e = rw (including_other m k j (eqb-false j k e))

pub holds_joined : (n m k j : ℕ) → holds (joined n m k) j ≡ ltb k n && eqb j k || holds m j
holds_joined n m k j = by (ltb k n) refl
  where
    by : (b : Bool) → ltb k n ≡ b → holds (joined n m k) j ≡ b && eqb j k || holds m j
    by true e = ap (λ (x : ℕ). holds x j) (joined_below n m k (ltb-true k n e)) ∙ holds_including m k j
    by false e = ap (λ (x : ℕ). holds x j) (sym (joined_beyond n m k (ltb-false k n e)))

pub holds_excluding : (m k j : ℕ) → holds (excluding m k) j ≡ not (eqb j k) && holds m j
holds_excluding m k j = by (eqb j k) refl
  where
    by : (b : Bool) → eqb j k ≡ b → holds (excluding m k) j ≡ not b && holds m j
    by true e = rw (eqb-true j k e) (holds_not (excluding m k) k (excluding_same m k))
    by false e = rw (excluding_other m k j (eqb-false j k e))

-- two sets

-- what is said of two digits holds of any, once it holds of 0 and 1
digits_of : (P : ℕ → ℕ → Type 0) → P 0 0 → P 0 1 → P 1 0 → P 1 1 → (p q : ℕ) → p < 2 → q < 2 → P p q
digits_of P a b c d zero zero hp hq = a
digits_of P a b c d zero (suc zero) hp hq = b
digits_of P a b c d (suc zero) zero hp hq = c
digits_of P a b c d (suc zero) (suc zero) hp hq = d
digits_of P a b c d (suc (suc p)) q hp hq = absurd (omega arith)
digits_of P a b c d zero (suc (suc q)) hp hq = absurd (omega arith)
digits_of P a b c d (suc zero) (suc (suc q)) hp hq = absurd (omega arith)

-- a | b and a & b
pub holds_or : (a b j : ℕ) → holds (bit_or a b) j ≡ holds a j || holds b j
holds_or a b j = rw (bit_at_or a b j) (digits_of (λ p q. eqb (max p q) 1 ≡ eqb p 1 || eqb q 1) refl refl refl refl (digit a j) (digit b j) (bit_at-lt a j) (bit_at-lt b j))

pub holds_and : (a b j : ℕ) → holds (bit_and a b) j ≡ holds a j && holds b j
holds_and a b j = rw (bit_at_and a b j) (digits_of (λ p q. eqb (min p q) 1 ≡ eqb p 1 && eqb q 1) refl refl refl refl (digit a j) (digit b j) (bit_at-lt a j) (bit_at-lt b j))

-- !m and all n
pub holds_complement : (n m j : ℕ) → m < 2 ^ n → j < n → holds (2 ^ n - 1 - m) j ≡ not (holds m j)
holds_complement n m j h l = rw (digit_not n m j h l) (digits_of (λ p q. eqb (1 - p) 1 ≡ not (eqb p 1)) refl refl refl refl (digit m j) (digit m j) (bit_at-lt m j) (bit_at-lt m j))

pub holds_all : (n j : ℕ) → j < n → holds (2 ^ n - 1) j ≡ true
holds_all n j l =
    let e : 2 ^ n - 1 ≡ 2 ^ n - 1 - 0 = omega arith in
    ap (λ (x : ℕ). holds x j) e ∙ holds_complement n 0 j (pow_pos n) l ∙ ap not (holds_none j)

-- a & !b
pub holds_less : (n a b j : ℕ) → b < 2 ^ n → j < n → holds (less n a b) j ≡ holds a j && not (holds b j)
holds_less n a b j h l = holds_and a (2 ^ n - 1 - b) j ∙ ap (λ (x : Bool). holds a j && x) (holds_complement n b j h l)

-- at any index, where a has no member beyond the width either
pub holds_less_any : (n a b j : ℕ) → a < 2 ^ n → b < 2 ^ n → holds (less n a b) j ≡ holds a j && not (holds b j)
holds_less_any n a b j ha hb = elim (dec_lt j n) [
  | yes l ↦ holds_less n a b j hb l
  | no g ↦
      let beyond : n ≤ j = omega arith in
      holds_beyond n (less n a b) j (less_lt n a b ha) beyond ∙ ap (λ (x : Bool). x && not (holds b j)) (sym (holds_beyond n a j ha beyond))
]
