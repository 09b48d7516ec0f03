-- A list of sets, changed at one place: it keeps its size, and what its sets hold afterwards. Assumes nothing.
use Prim.Native.Nat.{ℕ, ◌^◌, ◌<◌}
use native.Mathlib.Omega.{arith}
use native.Mathlib.Decide.{ℕ_discrete, dec_lt}
use mathlib.Core.Bool.{Bool, true, false, ◌&&◌, ◌||◌, and-true, and-false}
use mathlib.Core.List.{List}
use mathlib.Core.Path.{◌≡◌, refl, ◌∙◌}
use borrow.Author.Tests.{eqb-true, eqb-false}
use lib.Dec.{eqb}
use lib.ListN.{length, set, length-set, get_or-eq_default}
use lib.Pow.{pow_pos}
use lib.Seq.{get_or-set_same, get_or-set_other}
use Rattle.mask.specs.Member.{holds, including}
use Rattle.mask.proofs.Change.{including_lt}
use Rattle.mask.proofs.Holds.{holds_including}
use Rattle.coordinator.specs.Shape.{Sized}
use Rattle.coordinator.specs.Views.{entry}
use Rattle.coordinator.specs.Change.{mark}

-- an entry of a list after a store
pub stored : (l : List ℕ) (i x : ℕ) → i < length l → (k : ℕ) → entry (set l i x) k ≡ elim (eqb k i) [ true ↦ x | false ↦ entry l k ]
stored l i x b k = by (eqb k i) refl
  where
    by : (t : Bool) → eqb k i ≡ t → entry (set l i x) k ≡ elim t [ true ↦ x | false ↦ entry l k ]
    by true e = rw (eqb-true k i e) (get_or-set_same l i x 0 b)
    by false e = get_or-set_other l i k x 0 (eqb-false k i e)

module _ {n w : ℕ} {l : List ℕ} (h : Sized n w l) where
  -- a list as long, with entries as small
  pub sized_as : {r : List ℕ} → length r ≡ length l → ((i : ℕ) → i < n → entry r i < 2 ^ w) → Sized n w r
  sized_as {r} e small = record {
    size = e ∙ h.size;
    fits = λ i. elim (dec_lt i n) [
      | yes b ↦ small i b
      | no b ↦ rw (get_or-eq_default r 0 {n = i} (omega (arith, e, h.size))) (pow_pos w)
    ];
  }

  pub sized_set : (i x : ℕ) → x < 2 ^ w → Sized n w (set l i x)
  sized_set i x small = sized_as (length-set l i x) (λ k b. elim (ℕ_discrete k i) [
    | yes e ↦ rw (e, get_or-set_same l i x 0 (omega (arith, h.size))) small
    | no e ↦ rw (get_or-set_other l i k x 0 e) (h.fits k)
  ])

  pub sized_mark : (k j : ℕ) → j < w → Sized n w (mark l k j)
  unfolding mark
  sized_mark k j b = sized_set k (including (entry l k) j) (including_lt w (entry l k) j (h.fits k) b)

  pub holds_mark : (k j : ℕ) → k < n → (a u : ℕ) → holds (entry (mark l k j) u) a ≡ eqb a j && eqb u k || holds (entry l u) a
  unfolding mark
  holds_mark k j b a u = by (eqb u k) refl
    where
      by : (t : Bool) → eqb u k ≡ t → holds (entry (mark l k j) u) a ≡ eqb a j && t || holds (entry l u) a
      by true e =
          rw (eqb-true u k e, and-true (eqb a j), get_or-set_same l k (including (entry l k) j) 0 (omega (arith, h.size))) (holds_including (entry l k) j a)
      by false e = rw (and-false (eqb a j), get_or-set_other l k u (including (entry l k) j) 0 (eqb-false u k e))
