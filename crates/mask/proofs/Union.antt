-- A union over an index holds what one of its sets holds, and is empty where all of them are. Assumes nothing.
use Rattle.std.proofs.Common.{◌≡◌, ℕ, zero, suc, ◌^◌, ◌<◌, ◌≤◌, List, length, take, fold, get_or, add-one, Bool, true, false, ◌&&◌, ◌||◌, eqb, ◌⊎◌, ◌↔◌, sym, refl, ap, ◌∙◌, inl, inr, le_refl, not-suc-le-zero, arith, pow_pos, ne_eqb, eqb-true}
use borrow.Author.Tests.{eqb-false}
use Rattle.std.proofs.lemmas.List.{take_all}
use Rattle.std.proofs.lemmas.List.Sums.{fold_more}
use lib.Bits.{bit_or, or_lt, or_add_and, and_le_l, and_comm}
use Rattle.loops.specs.Loop.{over, every}
use Rattle.loops.proofs.Rules.{below_suc}
use Rattle.loops.proofs.Tests.{both, or_cases, or_right}
use Rattle.loops.proofs.Turns.{over_keeps}
use Rattle.mask.specs.Member.{holds}
use Rattle.mask.specs.Members.{union_of}
use Rattle.mask.proofs.Holds.{holds_none, holds_or}

-- a | b is empty where both are
pub or_empty : (a b : ℕ) → eqb (bit_or a b) 0 ≡ eqb a 0 && eqb b 0
or_empty a b = by (eqb a 0) refl
  where
    by : (t : Bool) → eqb a 0 ≡ t → eqb (bit_or a b) 0 ≡ t && eqb b 0
    by true e = rw (eqb-true a 0 e)
    by false e = ne_eqb (bit_or a b) 0 (λ p. eqb-false a 0 e (omega (arith, or_add_and a b, and_comm a b, and_le_l b a)))

module _ (f : ℕ → ℕ) where
  pub union_lt : (w n : ℕ) → ((k : ℕ) → k < n → f k < 2 ^ w) → union_of n f < 2 ^ w
  unfolding union_of
  union_lt w n h = over_keeps (λ (m : ℕ). m < 2 ^ w) n _ 0 (λ k m l p. or_lt w m (f k) p (h k l)) (pow_pos w)

  some_of : (n j : ℕ) → holds (union_of n f) j ≡ true → (k : ℕ) × (k < n) × (holds (f k) j ≡ true)
  unfolding union_of over
  some_of zero j e = both e (holds_none j)
  some_of (suc n) j e = by (or_cases (holds (union_of n f) j) (holds (f n) j) (sym (holds_or (union_of n f) (f n) j) ∙ e)) (some_of n j)
    where
      by : (holds (union_of n f) j ≡ true) ⊎ (holds (f n) j ≡ true)
          → (holds (union_of n f) j ≡ true → (k : ℕ) × (k < n) × (holds (f k) j ≡ true))
          → (k : ℕ) × (k < suc n) × (holds (f k) j ≡ true)
      by (inl p) ih = let (k, l, q) = ih p in (k, omega arith, q)
      by (inr p) ih = (n, le_refl (suc n), p)

  of_some : (n j k : ℕ) → k < n → holds (f k) j ≡ true → holds (union_of n f) j ≡ true
  unfolding union_of over
  of_some zero j k l e = absurd (not-suc-le-zero l)
  of_some (suc n) j k l e = holds_or (union_of n f) (f n) j ∙ by (below_suc l) (λ h. of_some n j k h e)
    where
      by : (k ≡ n) ⊎ (k < n) → (k < n → holds (union_of n f) j ≡ true) → holds (union_of n f) j || holds (f n) j ≡ true
      by (inl p) ih = or_right (holds (union_of n f) j) (holds (f n) j) (rw p at e)
      by (inr h) ih = rw (ih h)

  pub union_iff : (n j : ℕ) → (holds (union_of n f) j ≡ true) ↔ ((k : ℕ) × (k < n) × (holds (f k) j ≡ true))
  union_iff n j = (some_of n j, λ e. of_some n j e.0 e.1 e.2)

  pub union_empty : (n : ℕ) → eqb (union_of n f) 0 ≡ every n (λ k. eqb (f k) 0)
  unfolding union_of over every
  union_empty zero = refl
  union_empty (suc n) = or_empty (union_of n f) (f n) ∙ ap (λ (b : Bool). b && eqb (f n) 0) (union_empty n)

-- the union of the sets of a list
fold_take : (l : List ℕ) (n : ℕ) → n ≤ length l → fold bit_or 0 (take n l) ≡ union_of n (λ i. get_or l i 0)
unfolding union_of over
fold_take l zero h = refl
fold_take l (suc n) h = rw (← add-one) (fold_more bit_or 0 l n 0 (omega arith) ∙ ap (λ (m : ℕ). bit_or m (get_or l n 0)) (fold_take l n (omega arith)))

pub fold_union : (l : List ℕ) (n : ℕ) → length l ≡ n → fold bit_or 0 l ≡ union_of n (λ i. get_or l i 0)
fold_union l n e = ap (fold bit_or 0) (sym (take_all n l (omega (arith, e)))) ∙ fold_take l n (omega (arith, e))
