use Rattle.std.proofs.Common.{◌<◌, ◌≤◌, arith}
use Rattle.mask.proofs.Narrow.{narrow_excluding}
use Rattle.mask.proofs.Change.{excluding_beyond}
use Rattle.mask.proofs.set.Set.without_member.Goals as goal

pub returns-then-k-WIDTH : goal.returns-then-k-WIDTH
returns-then-k-WIDTH g c =
    let beyond : g.Self.Set.WIDTH ≤ c.args.k = omega (arith, c.WIDTH.ensures, c.if-k-WIDTH.true) in
    rw (← c.word-m.ensures.value) (excluding_beyond _ _ _ c.word-m.ensures.fits beyond)

pub returns-else-k-WIDTH : goal.returns-else-k-WIDTH
returns-else-k-WIDTH g c =
    let within : c.args.k < g.Self.Set.WIDTH = omega (arith, c.WIDTH.ensures, c.if-k-WIDTH.false) in
    rw (c.of_word.ensures, ← c.word-m.ensures.value) (narrow_excluding _ 64 _ _ g.met.Self.Set.narrow c.word-m.ensures.fits within)
