-- E, the sum of databases named by the other jobs, is at most that of all jobs but one naming every database.
-- Assumes nothing.
use Prim.Native.Nat.{ℕ, suc, ◌+◌, ◌-◌, ◌*◌, ◌<◌, ◌≤◌}
use native.Mathlib.Nat.{le_refl, mul-one, suc-mul}
use native.Mathlib.Omega.{arith}
use mathlib.Core.Bool.{Bool, true, false}
use mathlib.Core.Path.{◌≡◌, refl, ap}
use borrow.Author.Tests.{ne_eqb, eq-eqb}
use lib.Dec.{eqb}
use Rattle.loops.specs.Sum.{sum, tally}
use Rattle.loops.proofs.Sums.{sum_le, sum_zero, sum_at, tally_le}
use Rattle.walks.specs.Walk.{Graph, others, named}

-- the new job's row of `named` is empty: were it full, the rows would still fit
module _ (G : Graph) where
  row : ℕ → ℕ
  row j = sum G.databases (λ u. tally (others G j u))

  row_le : (j : ℕ) → row j ≤ G.databases
  unfolding row
  row_le j = rw mul-one at (sum_le G.databases 1 _ (λ u h. tally_le (others G j u)))

  row_own : row G.new ≡ 0
  unfolding row
  row_own = sum_zero G.databases _ (λ u h. rw (eq-eqb G.new G.new refl))

  filled : Bool → ℕ → ℕ
  filled true r = G.databases
  filled false r = r

  filled_le : (t : Bool) (r : ℕ) → r ≤ G.databases → filled t r ≤ G.databases
  unfolding filled
  filled_le true r h = le_refl _
  filled_le false r h = h

  filled_own : (r : ℕ) → r ≡ 0 → filled (eqb G.new G.new) r ≡ r + G.databases
  unfolding filled
  filled_own r e = rw (eq-eqb G.new G.new refl) (omega arith)

  pub named_le : G.new < G.jobs → named G + G.databases ≤ G.jobs * G.databases
  unfolding row filled
  named_le new =
      omega (
        arith,
        sum_at G.jobs G.new G.databases row (λ j. filled (eqb j G.new) (row j)) new (λ j h ne. rw (ne_eqb j G.new ne)) (filled_own _ row_own),
        sum_le G.jobs G.databases (λ j. filled (eqb j G.new) (row j)) (λ j h. filled_le (eqb j G.new) (row j) (row_le j)),
      )

  pub named_most : G.new < G.jobs → named G ≤ (G.jobs - 1) * G.databases
  named_most new =
      let e : suc (G.jobs - 1) ≡ G.jobs = omega arith in
      let p : suc (G.jobs - 1) * G.databases ≡ G.jobs * G.databases = ap (λ (x : ℕ). x * G.databases) e in
      omega (arith, named_le new, suc-mul (G.jobs - 1) G.databases)

at_limits : (n J D : ℕ) → J ≡ 32 → D ≡ 16 → n + D ≤ J * D → n ≤ 496
at_limits n J D j d h = let e : J * D ≡ 512 = rw (j, d) in omega arith

pub named_limit : (G : Graph) → G.new < G.jobs → G.jobs ≡ 32 → G.databases ≡ 16 → named G ≤ 496
named_limit G new jobs databases = at_limits (named G) G.jobs G.databases jobs databases (named_le G new)
