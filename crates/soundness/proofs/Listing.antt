-- The opening order with one place more, and without one. Assumes nothing.
use Prim.Native.Nat.{ℕ, suc, ◌+◌, ◌-◌, ◌<◌, ◌≤◌}
use native.Mathlib.Decide.{dec_lt, ℕ_discrete}
use native.Mathlib.Omega.{arith}
use mathlib.Core.Bool.{Bool, true, false, not, ◌&&◌, ◌||◌}
use mathlib.Core.Logic.{◌⊎◌, inl, inr}
use mathlib.Core.Path.{◌≡◌, refl, ap, sym, ◌∙◌}
use borrow.Author.Tests.{eqb-true, eq-eqb, lt-ltb, le-ltb}
use lib.Dec.{eqb, ltb}
use Rattle.loops.specs.Sum.{tally}
use Rattle.loops.proofs.Tests.{both, or_cases, or_right}
use Rattle.soundness.specs.SoundView.{Listing}
use Rattle.soundness.proofs.Slots.{other, other_so, number_here, number_there}

-- where place i has come from, once place p is gone
abbrev moved : ℕ → ℕ → ℕ
moved p i = i + tally (not (ltb i p))

moved_below : (p i : ℕ) → i < p → moved p i ≡ i
moved_below p i l = rw (lt-ltb i p l) (omega arith)

moved_after : (p i : ℕ) → p ≤ i → moved p i ≡ suc i
moved_after p i l = rw (le-ltb i p l) (omega arith)

-- every place but p, each once
moved_not : (p i : ℕ) → ¬ (moved p i ≡ p)
moved_not p i e = elim (dec_lt i p) [ yes l ↦ omega (arith, moved_below p i l) | no l ↦ omega (arith, moved_after p i (omega arith)) ]

moved_once : (p i k : ℕ) → moved p i ≡ moved p k → i ≡ k
moved_once p i k e = by (dec_lt i p) (dec_lt k p)
  where
    by : Dec (i < p) → Dec (k < p) → i ≡ k
    by (yes l) (yes m) = sym (moved_below p i l) ∙ e ∙ moved_below p k m
    by (yes l) (no m) = absurd (omega (arith, moved_below p i l, moved_after p k (omega arith)))
    by (no l) (yes m) = absurd (omega (arith, moved_after p i (omega arith), moved_below p k m))
    by (no l) (no m) = omega (arith, moved_after p i (omega arith), moved_after p k (omega arith))

moved_each : (p i : ℕ) → ¬ (i ≡ p) → (k : ℕ) × (k ≤ i) × (moved p k ≡ i) × (p ≤ i → k + 1 ≡ i)
moved_each p i d = elim (dec_lt i p) [
  | yes l ↦ (i, omega arith, moved_below p i l, λ m. absurd (omega arith))
  | no l ↦ (i - 1, omega arith, moved_after p (i - 1) (omega arith) ∙ omega arith, λ m. omega arith)
]

moved_within : (p i n : ℕ) → i < n - 1 → moved p i < n
moved_within p i n l = elim (dec_lt i p) [ yes m ↦ omega (arith, moved_below p i m) | no m ↦ omega (arith, moved_after p i (omega arith)) ]

pub removed_listing : (is_open : ℕ → Bool) (count : ℕ) (opened : ℕ → ℕ) (j p : ℕ) → Listing is_open count opened → p < count → opened p ≡ j
    → Listing (λ a. not (eqb a j) && is_open a) (count - 1) (λ i. opened (moved p i))
removed_listing is_open count opened j p L inside at = record {
  only = λ i l.
      let m = moved_within p i count l in
      other_so (opened (moved p i)) j (is_open (opened (moved p i))) (λ e. moved_not p i (L.once (moved p i) p m inside (e ∙ sym at))) (L.only (moved p i) m);
  once = λ i k l m e. moved_once p i k (L.once (moved p i) (moved p k) (moved_within p i count l) (moved_within p k count m) e);
  each = λ a e.
      let (d, o) = other a j (is_open a) e in
      let (i, l, q) = L.each a o in
      stands a i l q (moved_each p i (λ x. d (sym q ∙ ap opened x ∙ at)));
  end = λ i l. ap opened (moved_after p i (omega arith)) ∙ L.end (suc i) (omega arith);
}
  where
    stands : (a i : ℕ) → i < count → opened i ≡ a → (k : ℕ) × (k ≤ i) × (moved p k ≡ i) × (p ≤ i → k + 1 ≡ i)
        → (k : ℕ) × (k < count - 1) × (opened (moved p k) ≡ a)
    stands a i l q (k, m, r, s) = (k, elim (dec_lt i p) [ yes x ↦ omega arith | no x ↦ omega (arith, s (omega arith)) ], ap opened r ∙ q)

-- slot n takes the first place that is not used
module _ (is_open : ℕ → Bool) (count : ℕ) (opened : ℕ → ℕ) (L : Listing is_open count opened) (n : ℕ) (free : is_open n ≡ false) where
  abbrev then : ℕ → ℕ
  then i = elim (eqb i count) [ true ↦ n | false ↦ opened i ]

  then_here : (i : ℕ) → i ≡ count → then i ≡ n
  then_here i e = number_here n (opened i) i count e

  then_there : (i : ℕ) → ¬ (i ≡ count) → then i ≡ opened i
  then_there i d = number_there n (opened i) i count d

  not_new : (i : ℕ) → i < count → ¬ (opened i ≡ n)
  not_new i l e = both (L.only i l) (ap is_open e ∙ free)

  entered_once : (i k : ℕ) → i < suc count → k < suc count → then i ≡ then k → Dec (i ≡ count) → Dec (k ≡ count) → i ≡ k
  entered_once i k l m e (yes p) (yes q) = p ∙ sym q
  entered_once i k l m e (yes p) (no q) = absurd (not_new k (omega arith) (sym (then_there k q) ∙ sym e ∙ then_here i p))
  entered_once i k l m e (no p) (yes q) = absurd (not_new i (omega arith) (sym (then_there i p) ∙ e ∙ then_here k q))
  entered_once i k l m e (no p) (no q) = L.once i k (omega arith) (omega arith) (sym (then_there i p) ∙ e ∙ then_there k q)

  pub entered_listing : Listing (λ a. eqb a n || is_open a) (suc count) (λ i. elim (eqb i count) [ true ↦ n | false ↦ opened i ])
  entered_listing = record {
    only = λ i l. elim (ℕ_discrete i count) [
      | yes e ↦ rw (eq-eqb (then i) n (then_here i e))
      | no d ↦ or_right (eqb (then i) n) (is_open (then i)) (ap is_open (then_there i d) ∙ L.only i (omega arith))
    ];
    once = λ i k l m e. entered_once i k l m e (ℕ_discrete i count) (ℕ_discrete k count);
    each = λ j e. stands j (or_cases (eqb j n) (is_open j) e);
    end = λ i l. then_there i (omega arith) ∙ L.end i (omega arith);
  }
    where
      stands : (j : ℕ) → (eqb j n ≡ true) ⊎ (is_open j ≡ true) → (i : ℕ) × (i < suc count) × (then i ≡ j)
      stands j (inl e) = (count, omega arith, then_here count refl ∙ sym (eqb-true j n e))
      stands j (inr o) = let (i, l, q) = L.each j o in (i, omega arith, then_there i (omega arith) ∙ q)
