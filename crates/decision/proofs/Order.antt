-- The test of the opening order decides that it lists each open slot once and nothing else, its unused end zeros. Assumes nothing.
use Prim.Native.Nat.{ℕ, zero, suc, ◌^◌, ◌<◌, ◌≤◌}
use native.Mathlib.Omega.{arith}
use native.Mathlib.Nat.{le_refl, not-suc-le-zero}
use native.Mathlib.Decide.{dec_lt}
use mathlib.Core.Bool.{Bool, true, false, not, ◌&&◌, ◌||◌}
use mathlib.Core.Logic.{◌⊎◌, inl, inr, ◌↔◌}
use mathlib.Core.Path.{◌≡◌, refl, sym, ap, ◌∙◌}
use borrow.Author.Tests.{eq-eqb, eqb-true, lt-ltb, le-ltb, ltb-true, ltb-false, not-true}
use lib.Dec.{eqb, ltb}
use lib.Pow.{pow_pos}
use Rattle.loops.specs.Loop.{over, every}
use Rattle.loops.proofs.Rules.{below_suc}
use Rattle.loops.proofs.Tests.{both, and_left, and_right, and_both, or_cases, or_right}
use Rattle.loops.proofs.Turns.{over_keeps, every_at, every_of}
use Rattle.mask.specs.Member.{holds, less, size}
use Rattle.mask.proofs.Change.{including_lt}
use Rattle.mask.proofs.Holds.{holds_none, holds_including, holds_less}
use Rattle.mask.proofs.Size.{size_none, size_including, size_within}
use Rattle.tables.specs.Test.{listed, place_sound}
use Rattle.coordinator.specs.declared.Coordinator.{Coordinator}
use Rattle.coordinator.specs.Limits.{jobs}
use Rattle.coordinator.specs.Shape.{Shape}
use Rattle.coordinator.specs.Sound.{Ordered}
use Rattle.coordinator.specs.Views.{open_slots, is_open, open_count, opened}
use Rattle.effects.proofs.Bounds.{entry_beyond, open_range, count_le}

module _ (s : Coordinator) where
  -- what is listed

  pub listed_at : (n i : ℕ) → i < n → holds (listed s.order n) (opened s i) ≡ true
  unfolding listed over opened
  listed_at zero i l = absurd (not-suc-le-zero l)
  listed_at (suc n) i l = holds_including (listed s.order n) (opened s n) (opened s i) ∙ by (below_suc l) (listed_at n i)
    where
      by : (i ≡ n) ⊎ (i < n) → (i < n → holds (listed s.order n) (opened s i) ≡ true) → eqb (opened s i) (opened s n) || holds (listed s.order n) (opened s i) ≡ true
      by (inl e) ih = rw (eq-eqb (opened s i) (opened s n) (ap (opened s) e))
      by (inr m) ih = or_right (eqb (opened s i) (opened s n)) (holds (listed s.order n) (opened s i)) (ih m)

  pub listed_from : (n j : ℕ) → holds (listed s.order n) j ≡ true → (i : ℕ) × (i < n) × (opened s i ≡ j)
  unfolding listed over opened
  listed_from zero j e = both e (holds_none j)
  listed_from (suc n) j e = by (or_cases (eqb j (opened s n)) (holds (listed s.order n) j) (sym (holds_including (listed s.order n) (opened s n) j) ∙ e)) (listed_from n j)
    where
      by : (eqb j (opened s n) ≡ true) ⊎ (holds (listed s.order n) j ≡ true) → (holds (listed s.order n) j ≡ true → (i : ℕ) × (i < n) × (opened s i ≡ j))
          → (i : ℕ) × (i < suc n) × (opened s i ≡ j)
      by (inl p) ih = (n, le_refl (suc n), sym (eqb-true j (opened s n) p))
      by (inr p) ih = let (i, l, q) = ih p in (i, omega arith, q)

  listed_small : (n : ℕ) → ((i : ℕ) → i < n → opened s i < jobs) → listed s.order n < 2 ^ jobs
  unfolding listed opened
  listed_small n each = over_keeps (λ (m : ℕ). m < 2 ^ jobs) n _ 0 (λ k m l p. including_lt jobs m (opened s k) p (each k l)) (pow_pos jobs)

  -- as many as there are places, where each is listed once
  listed_size : (n : ℕ) → ((i : ℕ) → i < n → (opened s i < jobs) × (holds (listed s.order i) (opened s i) ≡ false)) → size jobs (listed s.order n) ≡ n
  unfolding listed over opened
  listed_size zero each = size_none jobs
  listed_size (suc n) each =
      let now = each n (le_refl (suc n)) in
      omega (arith, size_including jobs (listed s.order n) (opened s n) now.0 now.1, listed_size n (λ i l. each i (omega arith)))

  -- a place

  at_open : (i : ℕ) → i < open_count s → place_sound s.order (open_slots s) i ≡ ltb (opened s i) jobs && holds (less jobs (open_slots s) (listed s.order i)) (opened s i)
  unfolding place_sound open_count opened
  at_open i l = rw (place_sound, lt-ltb i (size jobs (open_slots s)) l)

  at_end : (i : ℕ) → open_count s ≤ i → place_sound s.order (open_slots s) i ≡ eqb (opened s i) 0
  unfolding place_sound open_count opened
  at_end i l = rw (place_sound, le-ltb i (size jobs (open_slots s)) l)

  new_slot : (i : ℕ) → listed s.order i < 2 ^ jobs → opened s i < jobs
      → holds (less jobs (open_slots s) (listed s.order i)) (opened s i) ≡ is_open s (opened s i) && not (holds (listed s.order i) (opened s i))
  unfolding is_open
  new_slot i small l = holds_less jobs (open_slots s) (listed s.order i) (opened s i) small l

module _ (s : Coordinator) (h : Shape s) where
  abbrev Passes : Type 0
  Passes = every jobs (place_sound s.order (open_slots s)) ≡ true

  -- a test that passes

  below : Passes → (i : ℕ) → i < open_count s → opened s i < jobs
  below e i l =
      ltb-true (opened s i) jobs
      (and_left (ltb (opened s i) jobs) (holds (less jobs (open_slots s) (listed s.order i)) (opened s i))
      (sym (at_open s i l) ∙ every_at jobs _ e i (omega (arith, count_le s h))))

  fresh : Passes → (i : ℕ) → i < open_count s → is_open s (opened s i) && not (holds (listed s.order i) (opened s i)) ≡ true
  fresh e i l =
      sym (new_slot s i (listed_small s i (λ k m. below e k (omega arith))) (below e i l))
      ∙ and_right (ltb (opened s i) jobs) (holds (less jobs (open_slots s) (listed s.order i)) (opened s i))
      (sym (at_open s i l) ∙ every_at jobs _ e i (omega (arith, count_le s h)))

  unlisted : Passes → (i : ℕ) → i < open_count s → holds (listed s.order i) (opened s i) ≡ false
  unlisted e i l = not-true (holds (listed s.order i) (opened s i)) (and_right (is_open s (opened s i)) (not (holds (listed s.order i) (opened s i))) (fresh e i l))

  is_open_lem : Passes → (i : ℕ) → i < open_count s → is_open s (opened s i) ≡ true
  is_open_lem e i l = and_left (is_open s (opened s i)) (not (holds (listed s.order i) (opened s i))) (fresh e i l)

  apart : Passes → (i k : ℕ) → i < k → k < open_count s → opened s i ≡ opened s k → ⊥
  apart e i k m l p = both (rw p at (listed_at s k i m)) (unlisted e k l)

  all_listed : Passes → (j : ℕ) → is_open s j ≡ true → holds (listed s.order (open_count s)) j ≡ true
  unfolding is_open open_count
  all_listed e j o =
      size_within jobs (listed s.order (open_count s)) (open_slots s)
      (λ j p. let (i, l, q) = listed_from s (open_count s) j p in rw q at (is_open_lem e i l))
      (omega (arith, listed_size s (open_count s) (λ i l. (below e i l, unlisted e i l))))
      j (open_range s h j o) o

  end_zero : Passes → (i : ℕ) → open_count s ≤ i → opened s i ≡ 0
  unfolding opened
  end_zero e i l = elim (dec_lt i jobs) [
    | yes m ↦ eqb-true (opened s i) 0 (sym (at_end s i l) ∙ every_at jobs _ e i m)
    | no g ↦ entry_beyond h.order i (omega arith)
  ]

  to : Passes → Ordered s
  to e = record {
    only = is_open_lem e;
    once = λ i k l m p. elim (dec_lt i k) [
      | yes a ↦ absurd (apart e i k a m p)
      | no a ↦ elim (dec_lt k i) [
        | yes b ↦ absurd (apart e k i b l (sym p))
        | no b ↦ omega arith
      ]
    ];
    each = λ j o. listed_from s (open_count s) j (all_listed e j o);
    end = end_zero e;
  }

  -- an order that is as it should be

  from : Ordered s → Passes
  from r = every_of jobs _ (λ i l. by i (ltb i (open_count s)) refl)
    where
      small : (i : ℕ) → i < open_count s → opened s i < jobs
      small i l = open_range s h (opened s i) (r.only i l)

      unlisted_at : (i : ℕ) → i < open_count s → (b : Bool) → holds (listed s.order i) (opened s i) ≡ b → not b ≡ true
      unlisted_at i l true p = let (k, m, q) = listed_from s i (opened s i) p in absurd (omega (arith, m, r.once k i (omega arith) l q))
      unlisted_at i l false p = refl

      by : (i : ℕ) (b : Bool) → ltb i (open_count s) ≡ b → place_sound s.order (open_slots s) i ≡ true
      by i true e =
          let l = ltb-true i (open_count s) e in
          at_open s i l
          ∙ and_both (lt-ltb (opened s i) jobs (small i l))
          (new_slot s i (listed_small s i (λ k m. small k (omega arith))) (small i l)
          ∙ and_both (r.only i l) (unlisted_at i l (holds (listed s.order i) (opened s i)) refl))
      by i false e = let l = ltb-false i (open_count s) e in at_end s i l ∙ eq-eqb (opened s i) 0 (r.end i l)

  pub order_iff : (every jobs (place_sound s.order (open_slots s)) ≡ true) ↔ Ordered s
  order_iff = (to, from)
