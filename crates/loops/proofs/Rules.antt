-- Rules for the loop and the tests of `Loop`: what a step keeps, the loop keeps.
-- Assumes nothing.
use Prim.Native.Nat.{ℕ, zero, suc, ◌<◌}
use native.Mathlib.Omega.{arith}
use native.Mathlib.Nat.{eq-or-lt_of_le, le_of_suc-le-suc, not-suc-le-zero, le_refl}
use mathlib.Core.Bool.{Bool, true, false}
use mathlib.Core.Logic.{◌⊎◌, inl, inr}
use mathlib.Core.Path.{◌≡◌, refl}
use Rattle.loops.specs.Loop.{over, guard, choice}

pub below_suc : {j k : ℕ} → j < suc k → (j ≡ k) ⊎ (j < k)
below_suc h = eq-or-lt_of_le (le_of_suc-le-suc h)

-- what holds of k, and of all below k, holds below k + 1
pub split_last : {k : ℕ} (P : ℕ → Type 0) → P k → ((j : ℕ) → j < k → P j) → (j : ℕ) → j < suc k → P j
split_last {k} P here below j h = by (below_suc h)
  where
    by : (j ≡ k) ⊎ (j < k) → P j
    by (inl e) = rw e here
    by (inr l) = below j l

-- A relation between the state before and after, with what a step may assume of the state before it.
pub record Steps {S : Type 0} (R : S → S → Type 0) (Ok : S → Type 0) : Type 0 where
  pub stay : (s : S) → R s s
  pub then : {r s t : S} → R r s → R s t → R r t
  pub keep : {s t : S} → R s t → Ok s → Ok t

module _ {S : Type 0} {R : S → S → Type 0} {Ok : S → Type 0} (𝓡 : Steps R Ok) where
  -- each turn k is a step that reaches `Q k`, which later steps leave: so the loop is a step that reaches them all
  pub over_rule : (Q : ℕ → S → Type 0) → ((k : ℕ) (s t : S) → R s t → Q k s → Q k t) → (f : ℕ → S → S) (K : ℕ)
      → ((k : ℕ) → k < K → (s : S) → Ok s → R s (f k s) × Q k (f k s))
      → (s : S) → Ok s → R s (over K f s) × ((k : ℕ) → k < K → Q k (over K f s))
  unfolding over
  over_rule Q lasts f zero each s ok = (𝓡.stay s, λ k h. absurd (not-suc-le-zero h))
  over_rule Q lasts f (suc K) each s ok =
      let ih = over_rule Q lasts f K (λ k h. each k (omega arith)) s ok in
      let now = each K (le_refl (suc K)) (over K f s) (𝓡.keep ih.0 ok) in
      (𝓡.then ih.0 now.0, λ k h. split_last (λ k. Q k (f K (over K f s))) now.1 (λ k h. lasts k _ _ now.0 (ih.1 k h)) k h)

-- a test: one case for each answer, with the answer
pub guard_rule : {S : Type 0} (P : S → Type 0) (b : Bool) (f : S → S) (s : S) → (b ≡ true → P (f s)) → (b ≡ false → P s) → P (guard b f s)
unfolding guard
guard_rule P true f s h g = h refl
guard_rule P false f s h g = g refl

pub choice_rule : {S : Type 0} (P : S → Type 0) (b : Bool) (f g : S → S) (s : S) → (b ≡ true → P (f s)) → (b ≡ false → P (g s)) → P (choice b f g s)
unfolding choice
choice_rule P true f g s h k = h refl
choice_rule P false f g s h k = k refl

-- for a proof of code: the arm that was taken
pub guard_yes : {S : Type 0} (b : Bool) (f : S → S) (s : S) → b ≡ true → guard b f s ≡ f s
unfolding guard
guard_yes b f s e = rw e

pub guard_no : {S : Type 0} (b : Bool) (f : S → S) (s : S) → b ≡ false → guard b f s ≡ s
unfolding guard
guard_no b f s e = rw e
