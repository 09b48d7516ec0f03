-- A view changed at one slot: what it says of that slot, and of the others. Assumes nothing.
use Prim.Native.Nat.{ℕ}
use mathlib.Core.Bool.{Bool, true, false, not, ◌&&◌, ◌||◌}
use mathlib.Core.Logic.{◌⊎◌, inl, inr, ⊎_elim}
use mathlib.Core.Path.{◌≡◌, ap, sym, ◌∙◌}
use borrow.Author.Tests.{eqb-true, eqb-false, eq-eqb, ne_eqb, not-true}
use lib.Dec.{eqb}
use Rattle.loops.proofs.Tests.{both, and_left, and_right, and_false, or_cases, untrue}

-- one more mark, of slot j at database k

-- a mark after one more is made: where it holds, it is that one or was there before
pub marked : (a j u k : ℕ) (p : Bool) → eqb a j && eqb u k || p ≡ true → ((a ≡ j) × (u ≡ k)) ⊎ (p ≡ true)
marked a j u k p e = by (or_cases (eqb a j && eqb u k) p e)
  where
    by : (eqb a j && eqb u k ≡ true) ⊎ (p ≡ true) → ((a ≡ j) × (u ≡ k)) ⊎ (p ≡ true)
    by (inl q) = inl (eqb-true a j (and_left (eqb a j) (eqb u k) q), eqb-true u k (and_right (eqb a j) (eqb u k) q))
    by (inr q) = inr q

-- if it holds of the new one, it holds of all
pub marked_so : (mark : ℕ → ℕ → Bool) (j k a u : ℕ) (p : Bool) → (p ≡ true → mark a u ≡ true) → mark j k ≡ true → eqb a j && eqb u k || p ≡ true → mark a u ≡ true
marked_so mark j k a u p was new e = ⊎_elim (λ (q : (a ≡ j) × (u ≡ k)). rw (q.0, q.1) new) was (marked a j u k p e)

-- a slot that is not the marked one has no new mark
pub unmarked : (is_open : ℕ → Bool) (a j u k : ℕ) (p : Bool) → is_open j ≡ true → is_open a ≡ false → p ≡ false → eqb a j && eqb u k || p ≡ false
unmarked is_open a j u k p o f e = untrue _ (λ q. ⊎_elim (λ (r : (a ≡ j) × (u ≡ k)). both o (ap is_open (sym r.0) ∙ f)) (λ r. both r e) (marked a j u k p q))

-- slot j is gone

pub other : (a j : ℕ) (p : Bool) → not (eqb a j) && p ≡ true → ¬ (a ≡ j) × (p ≡ true)
other a j p e = (eqb-false a j (not-true (eqb a j) (and_left (not (eqb a j)) p e)), and_right (not (eqb a j)) p e)

pub other_so : (a j : ℕ) (p : Bool) → ¬ (a ≡ j) → p ≡ true → not (eqb a j) && p ≡ true
other_so a j p d e = rw (ne_eqb a j d, e)

pub other_not : (a j : ℕ) (p : Bool) → ¬ (a ≡ j) → not (eqb a j) && p ≡ false → p ≡ false
other_not a j p d e = rw (ne_eqb a j d) at e

pub none_other : (a j : ℕ) (p : Bool) → p ≡ false → not (eqb a j) && p ≡ false
none_other a j p e = rw e (and_false (not (eqb a j)))

pub no_more : (a j : ℕ) (p : Bool) → a ≡ j → not (eqb a j) && p ≡ false
no_more a j p e = rw (eq-eqb a j e)

-- one more number, at slot j

pub number_here : (x y a j : ℕ) → a ≡ j → ◌≡◌ {A = ℕ} (elim (eqb a j) [ true ↦ x | false ↦ y ]) x
number_here x y a j e = rw (eq-eqb a j e)

pub number_there : (x y a j : ℕ) → ¬ (a ≡ j) → ◌≡◌ {A = ℕ} (elim (eqb a j) [ true ↦ x | false ↦ y ]) y
number_there x y a j d = rw (ne_eqb a j d)
