use Rattle.std.proofs.Common.{rules, ◌≡◌, ◌<◌, ◌^◌, ℕ, List, length, get_or, ◌≤◌, ◌*◌, sum_by, ◌∙◌, arith}
use Rattle.std.proofs.iter.runs.Sources.{sums}
use Rattle.std.proofs.lemmas.Iterator.{YieldsList-from_map, YieldsList-from_slice}
use Rattle.std.proofs.lemmas.Iterator.Consumers.{YieldsList-at, sum_by_from_yields_List}
use Rattle.loops.specs.Sum.{sum}
use Rattle.loops.proofs.Chains.{sum_list}
use Rattle.loops.proofs.Sums.{sum_le}
use Rattle.mask.specs.Member.{size}
use Rattle.mask.proofs.Size.{size_le}
use Rattle.search.specs.Limits.{jobs, databases}
use Rattle.search.proofs.count.count_all.Goals as goal

-- the sum of the sizes, at most all slots at each database
sizes : (sets : List ℕ) → length sets ≡ databases → sum_by (size jobs) sets ≡ sum databases (λ u. size jobs (get_or sets u 0))
sizes sets e = sum_list (size jobs) sets databases e

most : (sets : List ℕ) → sum databases (λ u. size jobs (get_or sets u 0)) ≤ jobs * databases
most sets = omega (arith, sum_le databases jobs _ (λ (u : ℕ) (l : u < databases). size_le jobs (get_or sets u 0)))

pub sum-requires-clause-fits : goal.sum-requires-clause-fits
sum-requires-clause-fits c =
    let f : sum_by (size jobs) c.args.sets.now < 2 ^ 32 = omega (arith, sizes c.args.sets.now c.told-sets, most c.args.sets.now) in
    search (rules, sums)

summed : goal.returns-clause-all
summed c =
    sum_by_from_yields_List (size jobs) c.args.sets.now _ _ c.sum.ensures.ran
    (YieldsList-from_map _ (size jobs) (YieldsList-at c.map.ensures.source (YieldsList-from_slice c.args.sets.now cc)) c.map.ensures.closure (λ x r q k. search rules))
    ∙ sizes c.args.sets.now c.told-sets

pub returns-clause-all : goal.returns-clause-all
returns-clause-all c = summed c

pub returns-clause-most : goal.returns-clause-most
returns-clause-most c = omega (arith, summed c, most c.args.sets.now)
