-- Small graphs, computed: where a definition is wrong, one of these comes out otherwise. 32 jobs and 16 databases, with 3×E moves at most.
-- 1488 moves, enough for all of them, would compute as fast; but a damaged machine that never ends would then cost a minute.
-- Assumes nothing.
use Prim.Native.Nat.{ℕ}
use mathlib.Core.Bool.{false, ◌&&◌}
use mathlib.Core.List.{List, [], ◌∷◌}
use mathlib.Core.Option.{none, some}
use mathlib.Core.Path.{◌≡◌, refl}
use lib.Dec.{eqb}
use lib.ListN.{get_or, replicate}
use Rattle.loops.specs.Sum.{sum}
use Rattle.mask.specs.Member.{holds, including}
use Rattle.walks.specs.Walk.{Graph, named}
use Rattle.walks.specs.Marks.{count}
use Rattle.walks.specs.Plain.{plain}
use Rattle.walks.specs.Rows.{rows}
use Rattle.walks.specs.Machine.{chosen, at_new, machine, step}
use Rattle.walks.specs.Search.{opening_search}
use Rattle.walks.specs.Opening.{opening}

-- the masks of the open jobs, by slot; no dependencies; the new job is n
abbrev graph : ℕ → List ℕ → Graph
graph n masks = record { jobs = 32; databases = 16; new = n; names = λ j u. holds (get_or masks j 0) u; dep = λ u v w. false }

-- {0,1} and {0,1}: E is 2, and the six moves are the most there can be
abbrev two : Graph
two = graph 1 (3 ∷ 3 ∷ [])

two_named : named two ≡ 2
unfolding sum
two_named = refl

two_moves : (machine two (plain 32 16) 6).moves ≡ 6
unfolding machine
two_moves = refl

two_ends : step two (rows 32 16) (machine two (rows 32 16) 6) ≡ none
unfolding machine including
two_ends = refl

-- {0,1}, {1,2} and {0,2}
abbrev three : Graph
three = graph 2 (3 ∷ 6 ∷ 5 ∷ [])

three_moves : (machine three (plain 32 16) 12).moves ≡ 10
unfolding machine
three_moves = refl

three_found : count (plain 32 16) (machine three (plain 32 16) 12).found ≡ 2
unfolding machine sum
three_found = refl

-- {0,1,2} and {0,1,2}: job 0 is stood at three times, and each of its closing moves would come up twice
abbrev wide : Graph
wide = graph 1 (7 ∷ 7 ∷ [])

wide_moves : (machine wide (plain 32 16) 10).moves ≡ 9
unfolding machine
wide_moves = refl

wide_opening : (opening wide).moves ≡ 9
unfolding opening_search including
wide_opening = refl

-- {0,1} and {0,1} with a dependency at 0 from 0 to 1, after an ask
abbrev asked : Graph
asked = record { jobs = 32; databases = 16; new = 1; names = two.names; dep = λ u v w. eqb u 0 && eqb v 0 && eqb w 1 }

asked_moves : (machine asked (plain 32 16) 6).moves ≡ 5
unfolding machine
asked_moves = refl

-- 32 jobs that name {0}
full_moves : (machine (graph 31 (replicate 32 1)) (rows 32 16) 93).moves ≡ 62
unfolding machine including
full_moves = refl

-- the nested form with the sets of an opening: {0} and {0}, and the graphs above
single_opening : (opening (graph 1 (1 ∷ 1 ∷ []))).moves ≡ 2
unfolding opening_search including
single_opening = refl

three_opening : (opening three).moves ≡ 10
unfolding opening_search including
three_opening = refl

three_opening_found : count (rows 32 16) (opening three).found ≡ 2
unfolding opening_search including sum
three_opening_found = refl

asked_opening : (opening asked).moves ≡ 5
unfolding opening_search including
asked_opening = refl

-- {1}, {0} and {0,1}: database 0 with slot 1 is chosen before database 1 with slot 0. Neither the pairs nor the moves at the end depend on it.
abbrev crossed : Graph
crossed = graph 2 (2 ∷ 1 ∷ 3 ∷ [])

database_first : chosen crossed (rows 32 16) (at_new crossed (rows 32 16)) ≡ some (0, 1)
unfolding machine
database_first = refl
