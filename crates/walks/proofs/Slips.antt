-- Walks on the smallest graphs, told with no word of the search: where the definition of a walk slips, one of these fails.
-- Assumes nothing.
use Prim.Native.Nat.{ℕ}
use native.Mathlib.Omega.{arith}
use mathlib.Core.Bool.{true, false, not, ◌&&◌, ◌||◌}
use mathlib.Core.Path.{◌≡◌, refl, sym, ◌∙◌}
use borrow.Author.Tests.{eqb-true}
use lib.Dec.{eqb}
use Rattle.loops.proofs.Tests.{both}
use Rattle.walks.specs.Walk.{Graph, Link, Reach, first, next, WalkEnd}
use Rattle.walks.proofs.Walk.{reach_job, reach_database, reach_not_new}

-- {0} and then {0}: a walk would have database 0 next to itself
abbrev single : Graph
single = record { jobs = 2; databases = 1; new = 1; names = λ j u. true; dep = λ u v w. false }

single_none : (v u : ℕ) → ¬ WalkEnd single v u
single_none v u h = h.turns (omega (arith, h.closes.database, reach_database h.walk))

-- {0,1} and then {0}: a walk would step from job 0 to itself
abbrev narrow : Graph
narrow = record { jobs = 2; databases = 2; new = 1; names = λ j u. eqb j 0 || eqb u 0; dep = λ u v w. false }

narrow_none : (v u : ℕ) → ¬ WalkEnd narrow v u
narrow_none v u h = by h.walk h.turns h.closes
  where
    by : {t : ℕ} → Reach narrow v t → ¬ (u ≡ t) → Link narrow u v 1 → ⊥
    by (first l ne) turn k = turn (eqb-true u 0 k.enters ∙ sym (eqb-true _ 0 l.leaves))
    by (next r turn' l ne) turn k = l.differ (omega (arith, l.job, reach_job r, reach_not_new r))

-- {0,1} and then {0,1}, with a dependency at 0 from job 0 to the new one: no walk ends along it
abbrev asked : Graph
asked = record { jobs = 2; databases = 2; new = 1; names = λ j u. true; dep = λ u v w. eqb u 0 && eqb v 0 && eqb w 1 }

asked_none : ¬ WalkEnd asked 0 0
asked_none h = both refl h.closes.free

-- but N, 0, job 0, 1, N is a walk
asked_out : Link asked 0 1 0
asked_out = record { job = omega arith; database = omega arith; leaves = refl; enters = refl; differ = λ e. omega arith; free = refl }

asked_home : Link asked 1 0 1
asked_home = record { job = omega arith; database = omega arith; leaves = refl; enters = refl; differ = λ e. omega arith; free = refl }

asked_walk : WalkEnd asked 0 1
asked_walk = record { through = 0; walk = first asked_out (λ e. omega arith); turns = λ e. omega arith; closes = asked_home }

-- {0,1}, {0,1} and then {0}: N, 0, job 0, 1, job 1, 0, N is a walk, though its first and last databases are equal
abbrev round : Graph
round = record { jobs = 3; databases = 2; new = 2; names = λ j u. not (eqb j 2) || eqb u 0; dep = λ u v w. false }

round_out : Link round 0 2 0
round_out = record { job = omega arith; database = omega arith; leaves = refl; enters = refl; differ = λ e. omega arith; free = refl }

round_on : Link round 1 0 1
round_on = record { job = omega arith; database = omega arith; leaves = refl; enters = refl; differ = λ e. omega arith; free = refl }

round_home : Link round 0 1 2
round_home = record { job = omega arith; database = omega arith; leaves = refl; enters = refl; differ = λ e. omega arith; free = refl }

round_begun : Reach round 0 0
round_begun = first round_out (λ e. omega arith)

round_walk : WalkEnd round 1 0
round_walk = record {
  through = 1;
  walk = next {t = 0} {u = 1} round_begun (λ e. omega arith) round_on (λ e. omega arith);
  turns = λ e. omega arith;
  closes = round_home;
}
