-- Sets are told by their members: equal, empty, one within the other. Assumes nothing.
use Rattle.std.proofs.Common.{◌≡◌, ℕ, zero, suc, ◌+◌, ◌/◌, ◌%◌, ◌^◌, ◌<◌, Bool, true, false, not, ◌&&◌, eqb, ◌↔◌, sym, refl, ap, ◌∙◌, div-lt_iff_lt-mul, one-mul, pow-suc, arith, pow_pos, pow-add, eq-eqb, eqb-true}
use native.Mathlib.Nat.{div-div-eq-div-mul}
use Rattle.loops.specs.Sum.{tally}
use Rattle.loops.proofs.Tests.{both}
use Rattle.mask.specs.Member.{holds, less, within}
use Rattle.std.proofs.lemmas.Nat.Bits.{same_from_bits_below}
use Rattle.mask.proofs.Change.{less_lt}
use Rattle.mask.proofs.Holds.{tally_holds, holds_none, holds_below, holds_less_any}

pub same_members : (n a b : ℕ) → a < 2 ^ n → b < 2 ^ n → ((j : ℕ) → j < n → holds a j ≡ holds b j) → a ≡ b
same_members n a b ha hb e = same_from_bits_below n a b ha hb (λ k l. sym (tally_holds a k) ∙ ap tally (e k l) ∙ tally_holds b k)

pub empty_iff : (n m : ℕ) → m < 2 ^ n → (m ≡ 0) ↔ ((j : ℕ) → holds m j ≡ false)
empty_iff n m h = (λ e j. rw e (holds_none j), λ e. same_members n m 0 h (pow_pos n) (λ j l. e j ∙ sym (holds_none j)))

-- with no bound at hand: every number is a set of as many digits as itself
own_width : (n : ℕ) → n < 2 ^ n
own_width zero = pow_pos 0
own_width (suc n) = omega (arith, pow-suc 2 n, own_width n)

pub equal_members : (a b : ℕ) → ((j : ℕ) → holds a j ≡ holds b j) → a ≡ b
equal_members a b e = same_members (a + b) a b (omega (arith, own_width (a + b))) (omega (arith, own_width (a + b))) (λ j l. e j)

-- members all below n make a set of n digits: nothing is left above
pub below_iff : (n m : ℕ) → (m < 2 ^ n) ↔ ((j : ℕ) → holds m j ≡ true → j < n)
below_iff n m = (λ h j. holds_below n m j h, λ e. rw (one-mul (2 ^ n)) at ((div-lt_iff_lt-mul {k = 2 ^ n} {x = m} {y = 1} (pow_pos n)).0 (omega (arith, empty e))))
  where
    above : (j : ℕ) → holds (m / 2 ^ n) j ≡ holds m (n + j)
    above j = ap (λ (x : ℕ). eqb (x % 2) 1) (div-div-eq-div-mul m (2 ^ n) (2 ^ j) ∙ ap (λ (x : ℕ). m / x) (sym (pow-add 2 n j)))

    none : ((j : ℕ) → holds m j ≡ true → j < n) → (j : ℕ) (b : Bool) → holds m (n + j) ≡ b → b ≡ false
    none e j true p = absurd (omega (arith, e (n + j) p))
    none e j false p = refl

    empty : ((j : ℕ) → holds m j ≡ true → j < n) → m / 2 ^ n ≡ 0
    empty e = (empty_iff (m / 2 ^ n) (m / 2 ^ n) (own_width (m / 2 ^ n))).1 (λ j. above j ∙ none e j (holds m (n + j)) refl)

-- a less b is empty where every member of a is in b
without : (a b : Bool) → (a ≡ true → b ≡ true) → a && not b ≡ false
without true true h = refl
without true false h = both (h refl) refl
without false b h = refl

among : (a b : Bool) → a && not b ≡ false → a ≡ true → b ≡ true
among true true e h = refl
among true false e h = sym e
among false b e h = both h refl

pub within_iff : (n a b : ℕ) → a < 2 ^ n → b < 2 ^ n → (within n a b ≡ true) ↔ ((j : ℕ) → holds a j ≡ true → holds b j ≡ true)
within_iff n a b ha hb =
    let empty = empty_iff n (less n a b) (less_lt n a b ha) in (
      λ e j. among (holds a j) (holds b j) (sym (holds_less_any n a b j ha hb) ∙ empty.0 (eqb-true (less n a b) 0 e) j),
      λ e. eq-eqb (less n a b) 0 (empty.1 (λ j. holds_less_any n a b j ha hb ∙ without (holds a j) (holds b j) (e j))),
    )
