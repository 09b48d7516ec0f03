-- Stores into a list, one after another: at the place f i the entry becomes g i of what stood there, for each i below n that passes the test p.
-- Assumes nothing.
use Prim.Native.Nat.{ℕ, zero, suc, ◌^◌, ◌<◌}
use native.Mathlib.Nat.{not-suc-le-zero, le_refl}
use native.Mathlib.Omega.{arith}
use native.Mathlib.Decide.{ℕ_discrete}
use mathlib.Core.Bool.{Bool, true, false}
use mathlib.Core.List.{List}
use mathlib.Core.Logic.{◌⊎◌, inl, inr}
use mathlib.Core.Path.{◌≡◌, refl, ap, ◌∙◌}
use lib.ListN.{length, set, length-set}
use lib.Seq.{get_or-set_same, get_or-set_other}
use Rattle.loops.specs.Loop.{over, guard}
use Rattle.loops.proofs.Rules.{below_suc, guard_rule}
use Rattle.loops.proofs.Turns.{over_keeps}
use Rattle.coordinator.specs.Shape.{Sized}
use Rattle.coordinator.specs.Views.{entry}
use Rattle.effects.proofs.Sized.{sized_set}

module _ (f : ℕ → ℕ) (g : ℕ → ℕ → ℕ) where
  abbrev pub store_at : ℕ → List ℕ → List ℕ
  store_at i r = set r (f i) (g i (entry r (f i)))

  module _ (p : ℕ → Bool) where
    abbrev pub stores : ℕ → List ℕ → List ℕ
    stores n l = over n (λ i. guard (p i) (store_at i)) l

    pub stores_length : (n : ℕ) (l : List ℕ) → length (stores n l) ≡ length l
    unfolding over
    stores_length zero l = refl
    stores_length (suc n) l = guard_rule (λ r. length r ≡ length l) (p n) (store_at n) (stores n l) (λ e. length-set (stores n l) (f n) _ ∙ stores_length n l) (λ e. stores_length n l)

    -- entries that stay small make a list that keeps its size
    pub stores_sized : {m w : ℕ} (n : ℕ) (l : List ℕ) → Sized m w l → ((i x : ℕ) → x < 2 ^ w → g i x < 2 ^ w) → Sized m w (stores n l)
    stores_sized {m} {w} n l h small =
        over_keeps (Sized m w) n _ l
        (λ i r b q. guard_rule (Sized m w) (p i) (store_at i) r (λ e. sized_set q (f i) _ (small i _ (q.fits (f i)))) (λ e. q)) h

    -- what no place f i stands for stays
    pub stores_else : (n x : ℕ) (l : List ℕ) → ((i : ℕ) → i < n → ¬ (x ≡ f i)) → entry (stores n l) x ≡ entry l x
    unfolding over
    stores_else zero x l away = refl
    stores_else (suc n) x l away =
        let ih = stores_else n x l (λ i h. away i (omega arith)) in
        guard_rule (λ r. entry r x ≡ entry l x) (p n) (store_at n) (stores n l)
        (λ e. get_or-set_other (stores n l) (f n) x _ 0 (away n (le_refl (suc n))) ∙ ih) (λ e. ih)

    module _ (apart : (i k : ℕ) → f i ≡ f k → i ≡ k) where
      pub stores_at : (n i : ℕ) (l : List ℕ) → i < n → f i < length l → p i ≡ true → entry (stores n l) (f i) ≡ g i (entry l (f i))
      unfolding over guard
      stores_at zero i l h inside e = absurd (not-suc-le-zero h)
      stores_at (suc n) i l h inside e = by (below_suc h) (λ m. stores_at n i l m inside e)
        where
          here : i ≡ n → entry (guard (p n) (store_at n) (stores n l)) (f i) ≡ g i (entry l (f i))
          here q =
              rw (← q, e)
              (get_or-set_same (stores i l) (f i) _ 0 (rw (stores_length i l) inside) ∙ ap (g i) (stores_else i (f i) l (λ k m z. let y = apart i k z in omega arith)))

          by : (i ≡ n) ⊎ (i < n) → (i < n → entry (stores n l) (f i) ≡ g i (entry l (f i))) → entry (guard (p n) (store_at n) (stores n l)) (f i) ≡ g i (entry l (f i))
          by (inl q) ih = here q
          by (inr m) ih = guard_rule (λ r. entry r (f i) ≡ g i (entry l (f i))) (p n) (store_at n) (stores n l) (λ z. get_or-set_other (stores n l) (f n) (f i) _ 0 (λ y. let w = apart i n y in omega arith) ∙ ih m) (λ z. ih m)

      pub stores_off : (n i : ℕ) (l : List ℕ) → p i ≡ false → entry (stores n l) (f i) ≡ entry l (f i)
      unfolding over guard
      stores_off zero i l e = refl
      stores_off (suc n) i l e = by (ℕ_discrete i n) (stores_off n i l e)
        where
          by : Dec (i ≡ n) → entry (stores n l) (f i) ≡ entry l (f i) → entry (guard (p n) (store_at n) (stores n l)) (f i) ≡ entry l (f i)
          by (yes q) ih = let z : p n ≡ false = rw (← q) e in rw z ih
          by (no q) ih = guard_rule (λ r. entry r (f i) ≡ entry l (f i)) (p n) (store_at n) (stores n l) (λ z. get_or-set_other (stores n l) (f n) (f i) _ 0 (λ y. q (apart i n y)) ∙ ih) (λ z. ih)
