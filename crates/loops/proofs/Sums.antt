-- Sums: bounds, order, and what one changed place adds.
-- Assumes nothing.
use Prim.Native.Nat.{ℕ, zero, suc, ◌+◌, ◌*◌, ◌<◌, ◌≤◌}
use native.Mathlib.Omega.{arith}
use native.Mathlib.Nat.{suc-mul, not-suc-le-zero, le_refl}
use mathlib.Core.Bool.{Bool, true, false}
use mathlib.Core.Logic.{◌⊎◌, inl, inr}
use mathlib.Core.Path.{◌≡◌, refl, sym, ap}
use Rattle.loops.specs.Sum.{sum, tally, pairs}
use Rattle.loops.proofs.Rules.{below_suc}
use Rattle.loops.proofs.Tests.{both}

pub sum_le : (K c : ℕ) (g : ℕ → ℕ) → ((k : ℕ) → k < K → g k ≤ c) → sum K g ≤ K * c
unfolding sum
sum_le zero c g h = omega arith
sum_le (suc K) c g h =
    let ih = sum_le K c g (λ k l. h k (omega arith)) in
    omega (arith, h K (le_refl (suc K)), suc-mul K c)

pub sum_mono : (K : ℕ) (g h : ℕ → ℕ) → ((k : ℕ) → k < K → g k ≤ h k) → sum K g ≤ sum K h
unfolding sum
sum_mono zero g h e = omega arith
sum_mono (suc K) g h e =
    let ih = sum_mono K g h (λ k l. e k (omega arith)) in
    omega (arith, e K (le_refl (suc K)))

pub sum_same : (K : ℕ) (g h : ℕ → ℕ) → ((k : ℕ) → k < K → g k ≡ h k) → sum K g ≡ sum K h
unfolding sum
sum_same zero g h e = refl
sum_same (suc K) g h e =
    let ih = sum_same K g h (λ k l. e k (omega arith)) in
    omega (arith, e K (le_refl (suc K)))

pub sum_zero : (K : ℕ) (g : ℕ → ℕ) → ((k : ℕ) → k < K → g k ≡ 0) → sum K g ≡ 0
unfolding sum
sum_zero zero g e = refl
sum_zero (suc K) g e =
    let ih = sum_zero K g (λ k l. e k (omega arith)) in
    omega (arith, e K (le_refl (suc K)))

-- the first taken off instead of the last
pub sum_first : (K : ℕ) (g : ℕ → ℕ) → sum (suc K) g ≡ g 0 + sum K (λ k. g (suc k))
unfolding sum
sum_first zero g = omega arith
sum_first (suc K) g = omega (arith, sum_first K g)

sum_add : (K : ℕ) (g h : ℕ → ℕ) → sum K (λ k. g k + h k) ≡ sum K g + sum K h
unfolding sum
sum_add zero g h = refl
sum_add (suc K) g h = omega (arith, sum_add K g h)

-- by rows or by columns
pub sum_turn : (J D : ℕ) (g : ℕ → ℕ → ℕ) → sum J (λ w. sum D (λ u. g w u)) ≡ sum D (λ u. sum J (λ w. g w u))
unfolding sum
sum_turn zero D g = sym (sum_zero D _ (λ u l. refl))
sum_turn (suc J) D g = omega (arith, sum_turn J D g, sum_add D (λ u. sum J (λ w. g w u)) (g J))

-- g and h agree but at i, where h has d more: so has its sum
pub sum_at : (K i d : ℕ) (g h : ℕ → ℕ) → i < K → ((k : ℕ) → k < K → ¬ (k ≡ i) → h k ≡ g k) → h i ≡ g i + d → sum K h ≡ sum K g + d
unfolding sum
sum_at zero i d g h l e a = absurd (not-suc-le-zero l)
sum_at (suc K) i d g h l e a = go (below_suc l) (sum_at K i d g h) (λ m. sum_same K h g m)
  where
    go : (i ≡ K) ⊎ (i < K) → (i < K → ((k : ℕ) → k < K → ¬ (k ≡ i) → h k ≡ g k) → h i ≡ g i + d → sum K h ≡ sum K g + d)
        → (((k : ℕ) → k < K → h k ≡ g k) → sum K h ≡ sum K g) → sum K h + h K ≡ sum K g + g K + d
    go (inl p) ih same =
        let rest = same (λ k m. e k (omega arith) (omega arith)) in
        let at : h K ≡ g K + d = rw (← p) a in
        omega arith
    go (inr m) ih same =
        let rest = ih m (λ k n. e k (omega arith)) a in
        omega (arith, e K (le_refl (suc K)) (omega arith))

pub tally_le : (b : Bool) → tally b ≤ 1
tally_le true = omega arith
tally_le false = omega arith

pub tally_mono : (a b : Bool) → (a ≡ true → b ≡ true) → tally a ≤ tally b
tally_mono true true h = omega arith
tally_mono true false h = both (h refl) refl
tally_mono false true h = omega arith
tally_mono false false h = omega arith

pub pairs_mono : (J D : ℕ) (p q : ℕ → ℕ → Bool) → ((w u : ℕ) → p w u ≡ true → q w u ≡ true) → pairs J D p ≤ pairs J D q
pairs_mono J D p q h = sum_mono J _ _ (λ w l. sum_mono D _ _ (λ u e. tally_mono _ _ (h w u)))

pub pairs_same : (J D : ℕ) (p q : ℕ → ℕ → Bool) → ((w u : ℕ) → p w u ≡ q w u) → pairs J D p ≡ pairs J D q
pairs_same J D p q e = sum_same J _ _ (λ w h. sum_same D _ _ (λ u l. ap tally (e w u)))
