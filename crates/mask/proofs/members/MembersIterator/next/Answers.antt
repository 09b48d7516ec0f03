use Rattle.std.proofs.Common.{arith}
use Rattle.mask.proofs.Lowest.{trailing_lowest}
use Rattle.mask.proofs.Walking.{rest_falls}
use Rattle.mask.proofs.members.MembersIterator.next.Goals as goal

pub returns-clause-steps : goal.returns-clause-steps
returns-clause-steps g c =
    let low = rw c.word.ensures.value at (trailing_lowest g.S.Set.WIDTH c.word.result (omega (arith, c.if-word-eq0.false)) c.word.ensures.fits) in
    rw c.lowest-k.ensures (low, c.rest-self.ensures)

pub returns-clause-goes : goal.returns-clause-goes
returns-clause-goes g c =
    let low = rw c.word.ensures.value at (trailing_lowest g.S.Set.WIDTH c.word.result (omega (arith, c.if-word-eq0.false)) c.word.ensures.fits) in
    let falls = rw (← c.rest-self.ensures) at (rest_falls low) in
    record { on = λ f. (tt, tt, falls); keeps = tt; rests = λ f. tt }
