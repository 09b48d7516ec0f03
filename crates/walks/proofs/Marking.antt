-- Sets of pairs: what insertion changes, and how many pairs a set has.
-- Assumes nothing.
use Prim.Native.Nat.{ℕ, ◌+◌, ◌*◌, ◌<◌, ◌≤◌}
use native.Mathlib.Nat.{mul-one}
use mathlib.Core.Bool.{Bool, true, false, ◌&&◌, ◌||◌}
use mathlib.Core.Logic.{◌⊎◌, inl, inr}
use mathlib.Core.Path.{◌≡◌, refl, ap}
use borrow.Author.Tests.{eqb-true, eq-eqb, ne_eqb}
use lib.Dec.{eqb}
use Rattle.loops.specs.Sum.{tally}
use Rattle.walks.specs.Marks.{Marks, count}
use Rattle.loops.proofs.Tests.{and_left, and_right, or_cases, or_right}
use Rattle.loops.proofs.Sums.{sum_le, sum_zero, sum_same, sum_at, tally_le, pairs_mono}

module _ {J D : ℕ} (K : Marks J D) where
  pub count_le : (m : K.M) → count K m ≤ J * D
  count_le m = sum_le J D _ (λ w h. rw mul-one at (sum_le D 1 _ (λ u l. tally_le (K.has m w u))))

  pub count_mono : (m k : K.M) → ((w u : ℕ) → K.has m w u ≡ true → K.has k w u ≡ true) → count K m ≤ count K k
  count_mono m k = pairs_mono J D (K.has m) (K.has k)

  pub count_none : count K K.none ≡ 0
  count_none = sum_zero J _ (λ w h. sum_zero D _ (λ u l. ap tally (K.has_none w u)))

  module _ (m : K.M) (w u : ℕ) (good : K.Good m) (hw : w < J) (hu : u < D) where
    pub put_same : K.has (K.put m w u) w u ≡ true
    put_same = rw (K.has_put m w u w u good hw hu, eq-eqb w w refl, eq-eqb u u refl)

    pub put_more : (a b : ℕ) → K.has m a b ≡ true → K.has (K.put m w u) a b ≡ true
    put_more a b e = rw (K.has_put m w u a b good hw hu) (or_right (eqb a w && eqb b u) _ e)

    pub put_only : (a b : ℕ) → K.has (K.put m w u) a b ≡ true → ((a ≡ w) × (b ≡ u)) ⊎ (K.has m a b ≡ true)
    put_only a b e = go (or_cases (eqb a w && eqb b u) _ (rw (K.has_put m w u a b good hw hu) at e))
      where
        go : (eqb a w && eqb b u ≡ true) ⊎ (K.has m a b ≡ true) → ((a ≡ w) × (b ≡ u)) ⊎ (K.has m a b ≡ true)
        go (inl p) = inl (eqb-true a w (and_left (eqb a w) (eqb b u) p), eqb-true b u (and_right (eqb a w) (eqb b u) p))
        go (inr p) = inr p

    put_row_lem : (a b : ℕ) → ¬ (a ≡ w) → K.has (K.put m w u) a b ≡ K.has m a b
    put_row_lem a b h = rw (K.has_put m w u a b good hw hu, ne_eqb a w h)

    put_column : (a b : ℕ) → ¬ (b ≡ u) → K.has (K.put m w u) a b ≡ K.has m a b
    put_column a b h = rw (K.has_put m w u a b good hw hu, ne_eqb b u h) (drop (eqb a w))
      where
        drop : (t : Bool) → t && false || K.has m a b ≡ K.has m a b
        drop true = refl
        drop false = refl

    pub count_put : K.has m w u ≡ false → count K (K.put m w u) ≡ count K m + 1
    count_put e =
        sum_at J w 1 _ _ hw (λ k l ne. sum_same D _ _ (λ j h. ap tally (put_row_lem k j ne)))
        (sum_at D u 1 _ _ hu (λ j h ne. ap tally (put_column w j ne)) (rw (put_same, e)))
