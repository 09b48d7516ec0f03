use Rattle.mask.proofs.Narrow.{narrow_less}
use Rattle.mask.proofs.set.Set.less.Goals as goal

pub returns : goal.returns
returns g c =
    rw (c.of_word.ensures, ← c.word.ensures.value, ← c.word-2.ensures.value)
    (narrow_less _ 64 _ _ g.met.Self.Set.narrow c.word.ensures.fits c.word-2.ensures.fits)
