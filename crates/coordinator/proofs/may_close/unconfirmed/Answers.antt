use Rattle.mask.proofs.Holds.{holds_less_any}
use Rattle.coordinator.proofs.may_close.unconfirmed.Goals as goal

pub returns : goal.returns
returns c = λ j. rw c.less.ensures (holds_less_any 32 _ _ j c.ranges.named.fits c.ranges.confirmed.fits)
