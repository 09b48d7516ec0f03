-- What leaves the tables with a job: its slot from every set, whoever goes before it, and its place in the opening order. Assumes nothing.
use Prim.Native.Nat.{ℕ, ◌+◌, ◌*◌, ◌<◌}
use native.Mathlib.Decide.{dec_lt}
use native.Mathlib.Omega.{arith}
use mathlib.Core.Bool.{Bool, true, false, not, ◌&&◌, and-false}
use mathlib.Core.List.{List}
use mathlib.Core.Path.{◌≡◌, refl, ap, sym, ◌∙◌}
use borrow.Author.Tests.{eqb-true, eqb-false}
use lib.Dec.{eqb, ltb}
use lib.ListN.{get_or-eq_default}
use lib.Pow.{pow_pos}
use Rattle.loops.specs.Loop.{guard}
use Rattle.loops.specs.Sum.{tally}
use Rattle.loops.proofs.Tables.{length_table, table_at}
use Rattle.mask.specs.Member.{holds, excluding}
use Rattle.mask.proofs.Change.{excluding_lt}
use Rattle.mask.proofs.Holds.{holds_none, holds_excluding}
use Rattle.coordinator.specs.Limits.{jobs, databases, steps}
use Rattle.coordinator.specs.Shape.{Sized}
use Rattle.coordinator.specs.Views.{entry}
use Rattle.coordinator.specs.Change.{strike, moved_up, unled}
use Rattle.effects.proofs.Bounds.{entry_beyond}
use Rattle.effects.proofs.Sized.{sized_as}
use Rattle.effects.proofs.Stores.{stores_at, stores_else, stores_sized}

-- slot j leaves every set

module _ {n w : ℕ} {l : List ℕ} (h : Sized n w l) (j : ℕ) where
  pub strike_sized : Sized n w (strike n j l)
  unfolding strike guard
  strike_sized = stores_sized (λ i. i) (λ i x. excluding x j) (λ i. true) n l h (λ i x q. excluding_lt w x j q)

  pub strike_holds : (a u : ℕ) → holds (entry (strike n j l) u) a ≡ not (eqb a j) && holds (entry l u) a
  unfolding strike guard
  strike_holds a u = elim (dec_lt u n) [
    | yes b ↦
        ap (λ (x : ℕ). holds x a) (stores_at (λ i. i) (λ i x. excluding x j) (λ i. true) (λ i k p. p) n u l b (omega (arith, h.size)) refl)
        ∙ holds_excluding (entry l u) j a
    | no b ↦
        rw (entry_beyond h u (omega arith), holds_none a, and-false (not (eqb a j)))
        (ap (λ (x : ℕ). holds x a) (entry_beyond strike_sized u (omega arith)) ∙ holds_none a)
  ]

-- nobody goes before it

module _ {d : List ℕ} (h : Sized steps jobs d) (j : ℕ) (slot : j < jobs) where
  pub unled_sized : Sized steps jobs (unled j d)
  unfolding unled guard
  unled_sized = stores_sized (λ k. k * jobs + j) (λ k x. 0) (λ k. true) databases d h (λ k x q. pow_pos jobs)

  pub unled_holds : (u a b : ℕ) → b < jobs → holds (entry (unled j d) (u * jobs + b)) a ≡ not (eqb b j) && holds (entry d (u * jobs + b)) a
  unfolding unled guard
  unled_holds u a b c = by (eqb b j) refl (dec_lt u databases)
    where
      f : ℕ → ℕ
      f k = k * jobs + j

      g : ℕ → ℕ → ℕ
      g k x = 0

      apart : (i e : ℕ) → f i ≡ f e → i ≡ e
      apart i e q = omega arith

      by : (t : Bool) → eqb b j ≡ t → Dec (u < databases) → holds (entry (unled j d) (u * jobs + b)) a ≡ not t && holds (entry d (u * jobs + b)) a
      by true e (yes l) =
          rw (eqb-true b j e)
          (ap (λ (x : ℕ). holds x a) (stores_at f g (λ k. true) apart databases u d l (omega (arith, h.size)) refl) ∙ holds_none a)
      by true e (no l) = ap (λ (x : ℕ). holds x a) (entry_beyond unled_sized (u * jobs + b) (omega arith)) ∙ holds_none a
      by false e l = ap (λ (x : ℕ). holds x a) (stores_else f g (λ k. true) databases (u * jobs + b) d (λ i q w. let ne = eqb-false b j e in omega arith))

-- the places after p move up

module _ {w : ℕ} {l : List ℕ} (h : Sized jobs w l) (p : ℕ) where
  pub moved_up_lem : (i : ℕ) → entry (moved_up p l) i ≡ entry l (i + tally (not (ltb i p)))
  unfolding moved_up
  moved_up_lem i = elim (dec_lt i jobs) [
    | yes b ↦ table_at jobs (λ i. entry l (i + tally (not (ltb i p)))) i 0 b
    | no b ↦
        get_or-eq_default (moved_up p l) 0 {n = i} (omega (arith, length_table jobs (λ i. entry l (i + tally (not (ltb i p))))))
        ∙ sym (entry_beyond h (i + tally (not (ltb i p))) (omega arith))
  ]

  pub moved_up_sized : Sized jobs w (moved_up p l)
  unfolding moved_up
  moved_up_sized = sized_as h (length_table jobs (λ i. entry l (i + tally (not (ltb i p)))) ∙ sym h.size) (λ i b. rw (moved_up_lem i) (h.fits (i + tally (not (ltb i p)))))
