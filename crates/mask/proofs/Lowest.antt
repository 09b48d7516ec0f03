-- Trailing zeros find the lowest member; those of the complement find the lowest number that is missing. Assumes nothing.
use Rattle.std.proofs.Common.{◌≡◌, ℕ, zero, suc, ◌-◌, ◌*◌, ◌/◌, ◌%◌, ◌^◌, ◌<◌, ◌≤◌, true, false, ◌↔◌, sym, refl, ◌∙◌, le_antisymm, pow-suc, arith, pow_pos}
use native.Mathlib.Decide.{dec_lt}
use borrow.Author.Tests.{eqb-false, not-true}
use lib.Count.{count_trailing_zeros, under, trailing_of_zero, trailing_le}
use Rattle.loops.proofs.Tests.{both, and_left, and_right}
use Rattle.mask.specs.Member.{digit, holds, less, within, lowest}
use Rattle.mask.specs.Lowest.{Lowest, Free}
use Rattle.std.proofs.lemmas.Nat.Bits.{bit_at-lt, bit_at-suc, bit_at_lowest}
use Rattle.mask.proofs.Change.{digit_not, less_lt}
use Rattle.mask.proofs.Holds.{holds_of, holds_not, holds_pos, holds_all, holds_less_any}

pub trailing_lowest : (n m : ℕ) → 0 < m → m < 2 ^ n → Lowest n m (lowest n m)
unfolding count_trailing_zeros
trailing_lowest zero m p h = absurd (omega arith)
trailing_lowest (suc n) m p h =
    let q : 2 ^ suc n ≡ 2 ^ n * 2 = pow-suc 2 n in
    go (m % 2) refl (λ r. trailing_lowest n (m / 2) r (omega arith))
  where
    go : (d : ℕ) → m % 2 ≡ d → (0 < m / 2 → Lowest n (m / 2) (count_trailing_zeros n (m / 2))) → Lowest (suc n) m (under d (count_trailing_zeros n (m / 2)))
    go zero e ih =
        let l = ih (omega arith) in
        record { within = omega arith; on = bit_at-suc m (count_trailing_zeros n (m / 2)) ∙ l.on; below = λ j h. lower j h l.below }
      where
        lower : (j : ℕ) → j < suc (count_trailing_zeros n (m / 2)) → ((i : ℕ) → i < count_trailing_zeros n (m / 2) → digit (m / 2) i ≡ 0) → digit m j ≡ 0
        lower zero h all = bit_at_lowest m ∙ e
        lower (suc j) h all = bit_at-suc m j ∙ all j (omega arith)
    go (suc d) e ih = record { within = omega arith; on = bit_at_lowest m ∙ omega arith; below = λ j h. absurd (omega arith) }

-- the same, said of members

pub lowest_holds : {n m w : ℕ} → Lowest n m w → holds m w ≡ true
lowest_holds {n} {m} {w} l = holds_of m w l.on

pub lowest_below : {n m w : ℕ} → Lowest n m w → (j : ℕ) → j < w → holds m j ≡ false
lowest_below {n} {m} {w} l j h = holds_not m j (l.below j h)

-- no member comes before it, so there is one lowest
pub lowest_first : {n m w : ℕ} → Lowest n m w → (k : ℕ) → holds m k ≡ true → w ≤ k
lowest_first {n} {m} {w} l k e = elim (dec_lt k w) [
  | yes h ↦ both e (lowest_below l k h)
  | no g ↦ omega arith
]

pub lowest_of : (n m k : ℕ) → m < 2 ^ n → holds m k ≡ true → Lowest n m (lowest n m)
lowest_of n m k h e = trailing_lowest n m (holds_pos m k e) h

pub lowest_unique : (n m w : ℕ) → m < 2 ^ n → Lowest n m w → lowest n m ≡ w
lowest_unique n m w h l =
    let f = lowest_of n m w h (lowest_holds l) in
    le_antisymm (lowest_first f w (lowest_holds l)) (lowest_first l (lowest n m) (lowest_holds f))

-- a set that is not empty has a member; one that is not within another has a member that the other lacks
pub some_member : (n m : ℕ) → m < 2 ^ n → ¬ (m ≡ 0) → (j : ℕ) × (j < n) × (holds m j ≡ true)
some_member n m h ne =
    let l = trailing_lowest n m (omega arith) h in
    (lowest n m, l.within, lowest_holds l)

pub within_not : (n a b : ℕ) → a < 2 ^ n → b < 2 ^ n → within n a b ≡ false → (j : ℕ) × (holds a j ≡ true) × (holds b j ≡ false)
within_not n a b ha hb e =
    let (j, l, p) = some_member n (less n a b) (less_lt n a b ha) (eqb-false (less n a b) 0 e) in
    let q = sym (holds_less_any n a b j ha hb) ∙ p in
    (j, and_left (holds a j) _ q, not-true (holds b j) (and_right (holds a j) _ q))

pub lowest_none : (n : ℕ) → lowest n 0 ≡ n
lowest_none n = trailing_of_zero n

pub lowest_at_most : (n m : ℕ) → lowest n m ≤ n
lowest_at_most n m = trailing_le n m

-- the lowest that is missing

pub free_of : (n m : ℕ) → m < 2 ^ n - 1 → Free n m (lowest n (2 ^ n - 1 - m))
free_of n m h =
    let l = trailing_lowest n (2 ^ n - 1 - m) (omega arith) (omega (arith, pow_pos n)) in
    let t : ℕ = lowest n (2 ^ n - 1 - m) in
    record {
      within = l.within;
      off = omega (arith, digit_not n m t (omega arith) l.within, l.on, bit_at-lt m t);
      below = λ j g. omega (arith, digit_not n m j (omega arith) (omega (arith, l.within)), l.below j g, bit_at-lt m j);
    }

pub free_holds : {n m w : ℕ} → Free n m w → holds m w ≡ false
free_holds {n} {m} {w} f = holds_not m w f.off

pub free_below : {n m w : ℕ} → Free n m w → (j : ℕ) → j < w → holds m j ≡ true
free_below {n} {m} {w} f j h = holds_of m j (f.below j h)

-- below n some number is missing just where m is not full
pub missing_iff : (n m : ℕ) → m < 2 ^ n → (m < 2 ^ n - 1) ↔ ((j : ℕ) × (j < n) × (holds m j ≡ false))
missing_iff n m h = (λ l. let f = free_of n m l in (_, f.within, free_holds f), λ e. not_full e.0 e.1 e.2)
  where
    not_full : (j : ℕ) → j < n → holds m j ≡ false → m < 2 ^ n - 1
    not_full j l e =
        let ne : ¬ (m ≡ 2 ^ n - 1) = λ p. both (holds_all n j l) (rw p at e) in
        omega arith
