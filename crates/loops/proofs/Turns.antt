-- The turns of a loop, for a loop's invariant; `every` as a statement over the indices. Assumes nothing.
use mathlib.Core.Bool.{Bool, true, false, ◌&&◌}
use mathlib.Core.Path.{◌≡◌, refl, sym, ap, ◌∙◌}
use mathlib.Core.Logic.{⊎_elim}
use native.Mathlib.Nat.{le_antisymm, le_refl, eq-or-lt_of_le, le_of_suc-le-suc}
use Prim.Native.Nat.{ℕ, zero, suc, ◌+◌, ◌<◌, ◌≤◌}
use native.Mathlib.Numerals.{add-one}
use native.Mathlib.Omega.{arith}
use Rattle.loops.specs.Loop.{over, every}
use Rattle.loops.proofs.Tests.{both, and_left, and_right, and_true, and_false, and_both, same_test}

pub over_none : {A : Type 0} (f : ℕ → A → A) (a : A) → a ≡ over 0 f a
unfolding over
over_none f a = refl

-- one turn more
pub over_more : {A : Type 0} (f : ℕ → A → A) (a : A) (i : ℕ) {x : A} → x ≡ over i f a → f i x ≡ over (i + 1) f a
unfolding over
over_more f a i e = rw add-one (ap (f i) e)

pub every_none : (p : ℕ → Bool) → true ≡ every 0 p
unfolding every
every_none p = refl

pub every_more : (p : ℕ → Bool) (i : ℕ) {x : Bool} → x ≡ every i p → (x && p i) ≡ every (i + 1) p
unfolding every
every_more p i e = rw add-one (ap (λ (b : Bool). b && p i) e)

-- a turn that holds, and one that does not
pub every_on : (p : ℕ → Bool) (i : ℕ) → true ≡ every i p → p i ≡ true → true ≡ every (i + 1) p
every_on p i e h = ap (λ (b : Bool). true && b) (sym h) ∙ every_more p i e

pub every_fails : (p : ℕ → Bool) (n i : ℕ) → i < n → p i ≡ false → false ≡ every n p
unfolding every
every_fails p zero i l e = absurd (omega arith)
every_fails p (suc n) i l e =
    ⊎_elim (λ q. sym (ap (λ (k : ℕ). every n p && p k) (sym q) ∙ ap (λ (b : Bool). every n p && b) e ∙ and_false (every n p)))
    (λ lt. ap (λ (b : Bool). b && p n) (every_fails p n i lt e))
    (eq-or-lt_of_le (le_of_suc-le-suc l))

-- the loop is left at its end
pub over_done : {A : Type 0} (f : ℕ → A → A) (a : A) (n i : ℕ) {x : A} → i ≤ n → n ≤ i → x ≡ over i f a → x ≡ over n f a
over_done f a n i h l e = e ∙ ap (λ (k : ℕ). over k f a) (le_antisymm h l)

pub every_done : (p : ℕ → Bool) (n i : ℕ) {x : Bool} → i ≤ n → n ≤ i → x ≡ every i p → x ≡ every n p
every_done p n i h l e = e ∙ ap (λ (k : ℕ). every k p) (le_antisymm h l)

-- for the code: a loop's start, a turn and its end
pub ruleset turns = (over_none, over_more, over_done)

-- what every step keeps, the fold keeps
pub over_keeps : {A : Type 0} (P : A → Type 0) (n : ℕ) (f : ℕ → A → A) (a : A) → ((k : ℕ) (x : A) → k < n → P x → P (f k x)) → P a → P (over n f a)
unfolding over
over_keeps P zero f a s p = p
over_keeps P (suc n) f a s p = s n (over n f a) (le_refl (suc n)) (over_keeps P n f a (λ k x l q. s k x (omega arith) q) p)

-- two folds are equal where their steps are
pub over_same : {A : Type 0} (n : ℕ) (f g : ℕ → A → A) (a : A) → ((k : ℕ) (x : A) → k < n → f k x ≡ g k x) → over n f a ≡ over n g a
unfolding over
over_same zero f g a e = refl
over_same (suc n) f g a e = e n (over n f a) (le_refl (suc n)) ∙ ap (g n) (over_same n f g a (λ k x l. e k x (omega arith)))

-- `every` as a statement over the indices
pub every_at : (n : ℕ) (p : ℕ → Bool) → every n p ≡ true → (k : ℕ) → k < n → p k ≡ true
unfolding every
every_at zero p e k l = absurd (omega arith)
every_at (suc n) p e k l =
    ⊎_elim (λ q. ap p q ∙ and_right (every n p) (p n) e) (λ lt. every_at n p (and_left (every n p) (p n) e) k lt) (eq-or-lt_of_le (le_of_suc-le-suc l))

pub every_of : (n : ℕ) (p : ℕ → Bool) → ((k : ℕ) → k < n → p k ≡ true) → every n p ≡ true
unfolding every
every_of zero p h = refl
every_of (suc n) p h = ap (λ (b : Bool). b && p n) (every_of n p (λ k l. h k (omega arith))) ∙ h n (le_refl (suc n))

-- where `every` fails, some index fails
pub every_not : (n : ℕ) (p : ℕ → Bool) → every n p ≡ false → (k : ℕ) × (k < n) × (p k ≡ false)
unfolding every
every_not zero p e = absurd (both refl e)
every_not (suc n) p e = at (p n) refl (every_not n p)
  where
    at : (b : Bool) → p n ≡ b → (every n p ≡ false → (k : ℕ) × (k < n) × (p k ≡ false)) → (k : ℕ) × (k < suc n) × (p k ≡ false)
    at false q below = (n, le_refl (suc n), q)
    at true q below =
        let fails = below (sym (and_true (every n p)) ∙ ap (λ (b : Bool). every n p && b) (sym q) ∙ e) in
        (fails.0, omega (arith, fails.1), fails.2)

-- two tests that agree below n
pub every_same : (n : ℕ) (p q : ℕ → Bool) → ((k : ℕ) → k < n → p k ≡ q k) → every n p ≡ every n q
unfolding every
every_same zero p q e = refl
every_same (suc n) p q e = rw (every_same n p q (λ k l. e k (omega arith)), e n (le_refl (suc n)))

-- two tests in one loop or in two
pub every_both : (n : ℕ) (p q : ℕ → Bool) → every n (λ k. p k && q k) ≡ every n p && every n q
every_both n p q =
    same_test (every n (λ k. p k && q k)) (every n p && every n q)
    (λ e. and_both (every_of n p (λ k l. and_left (p k) (q k) (every_at n _ e k l))) (every_of n q (λ k l. and_right (p k) (q k) (every_at n _ e k l))))
    (λ e. every_of n _ (λ k l. and_both (every_at n p (and_left (every n p) (every n q) e) k l) (every_at n q (and_right (every n p) (every n q) e) k l)))
