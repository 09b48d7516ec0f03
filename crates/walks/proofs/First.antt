-- The first of n that is something.
-- Assumes nothing.
use Prim.Native.Nat.{ℕ, zero, suc, ◌<◌}
use native.Mathlib.Omega.{arith}
use native.Mathlib.Nat.{not-suc-le-zero, le_refl}
use mathlib.Core.Bool.{Bool, true, false}
use mathlib.Core.Option.{Option, none, some, none-ne-some, some-injective}
use mathlib.Core.Path.{◌≡◌, refl, sym, ◌∙◌}
use Rattle.walks.specs.First.{or_else, first_of, given}
use Rattle.loops.proofs.Rules.{split_last}

pub given_some : {A : Type 0} (t : Bool) (x y : A) → given t x ≡ some y → (t ≡ true) × (x ≡ y)
unfolding given
given_some true x y e = (refl, some-injective x y e)
given_some false x y e = absurd (none-ne-some y e)

pub given_none : {A : Type 0} (t : Bool) (x : A) → given t x ≡ none → t ≡ false
unfolding given
given_none true x e = absurd (none-ne-some x (sym e))
given_none false x e = refl

pub first_none : {A : Type 0} (n : ℕ) (f : ℕ → Option A) → first_of n f ≡ none → (k : ℕ) → k < n → f k ≡ none
unfolding first_of or_else
first_none zero f e = λ k h. absurd (not-suc-le-zero h)
first_none {A} (suc n) f e = by (first_of n f) e (first_none n f)
  where
    by : (o : Option A) → or_else o f n ≡ none → (o ≡ none → (k : ℕ) → k < n → f k ≡ none) → (k : ℕ) → k < suc n → f k ≡ none
    by none e below = split_last (λ k. f k ≡ none) e (below refl)
    by (some x) e below = absurd (none-ne-some x (sym e))

-- x is what f gives at `at`, and nothing is given before
pub record First {A : Type 0} (n : ℕ) (f : ℕ → Option A) (x : A) : Type 0 where
  pub at : ℕ
  pub within : at < n
  pub is : f at ≡ some x
  pub before : (k : ℕ) → k < at → f k ≡ none

pub first_some : {A : Type 0} (n : ℕ) (f : ℕ → Option A) (x : A) → first_of n f ≡ some x → First n f x
unfolding first_of or_else
first_some zero f x e = absurd (none-ne-some x e)
first_some {A} (suc n) f x e = by (first_of n f) refl e (first_some n f x)
  where
    by : (o : Option A) → first_of n f ≡ o → or_else o f n ≡ some x → (first_of n f ≡ some x → First n f x) → First (suc n) f x
    by none p e below = record { at = n; within = le_refl (suc n); is = e; before = first_none n f p }
    by (some y) p e below =
        let h = below (p ∙ e) in
        record { at = h.at; within = omega (arith, h.within); is = h.is; before = h.before }
