-- The slots with a step that is not confirmed, gathered database by database. Assumes nothing.
use mathlib.Core.Path.{◌≡◌, refl, ap, ap₂, ◌∙◌}
use mathlib.Core.Bool.{Bool, true, false, not, ◌&&◌, ◌||◌}
use Prim.Native.Nat.{ℕ, ◌+◌, ◌≤◌}
use Rattle.std.proofs.Math.Bool.{not-not}
use lib.Bits.{bit_or}
use Rattle.loops.specs.Loop.{every}
use Rattle.loops.proofs.Turns.{every_none, every_more, every_done}
use Rattle.mask.specs.Member.{holds}
use Rattle.mask.proofs.Holds.{holds_none, holds_or}

-- after k databases m holds the slots whose steps there are not all confirmed
abbrev pub Gathered : (ℕ → ℕ) → (ℕ → ℕ) → ℕ → ℕ → Type 0
Gathered named confirmed k m = (j : ℕ) → holds m j ≡ not (every k (λ i. not (holds (named i) j) || holds (confirmed i) j))

pub gathered_none : (named confirmed : ℕ → ℕ) → Gathered named confirmed 0 0
gathered_none named confirmed j = holds_none j ∙ ap not (every_none (λ i. not (holds (named i) j) || holds (confirmed i) j))

join : (e a b : Bool) → not e || a && not b ≡ not (e && (not a || b))
join true true true = refl
join true true false = refl
join true false b = refl
join false a b = refl

pub gathered_more : (named confirmed : ℕ → ℕ) (k m x : ℕ) → Gathered named confirmed k m → ((j : ℕ) → holds x j ≡ holds (named k) j && not (holds (confirmed k) j))
    → Gathered named confirmed (k + 1) (bit_or m x)
gathered_more named confirmed k m x h e j =
    holds_or m x j ∙ ap₂ (λ (p q : Bool). p || q) (h j) (e j)
    ∙ join (every k (λ i. not (holds (named i) j) || holds (confirmed i) j)) (holds (named k) j) (holds (confirmed k) j)
    ∙ ap not (every_more (λ i. not (holds (named i) j) || holds (confirmed i) j) k refl)

pub gathered_done : (named confirmed : ℕ → ℕ) (n k m : ℕ) → k ≤ n → n ≤ k → Gathered named confirmed k m → Gathered named confirmed n m
gathered_done named confirmed n k m a b h j = h j ∙ ap not (every_done (λ i. not (holds (named i) j) || holds (confirmed i) j) n k a b refl)

-- for the code: the loop's start, a turn and its end
pub ruleset gathers = (gathered_none, gathered_more, gathered_done, not-not)
