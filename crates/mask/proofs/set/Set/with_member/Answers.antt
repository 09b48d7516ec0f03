use Rattle.mask.proofs.Narrow.{narrow_joined}
use Rattle.mask.proofs.Change.{joined_beyond}
use Rattle.mask.proofs.set.Set.with_member.Goals as goal

pub returns-then-k-WIDTH : goal.returns-then-k-WIDTH
returns-then-k-WIDTH g c =
    rw (c.of_word.ensures, ← c.word-m.ensures.value)
    (narrow_joined _ 64 _ _ g.met.Self.Set.narrow c.word-m.ensures.fits (rw c.WIDTH.ensures at c.if-k-WIDTH.true))

pub returns-else-k-WIDTH : goal.returns-else-k-WIDTH
returns-else-k-WIDTH g c = joined_beyond _ _ _ (rw c.WIDTH.ensures at c.if-k-WIDTH.false)
