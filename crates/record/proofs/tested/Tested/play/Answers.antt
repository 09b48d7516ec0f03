use Rattle.std.proofs.Common.{rules}
use Rattle.record.proofs.Playing.{plays_tested}
use Rattle.record.proofs.Stays.{known_next}
use Rattle.record.proofs.tested.Tested.play.Goals as goal

pub invariant_of-self : goal.invariant_of-self
invariant_of-self c =
    let s = c.args.self.now in
    let k = known_next _ s.state _ c.args.asked (λ mask e. search rules) s.is_told s.has_shape (plays_tested _ _ _ _ _ s.is_told c.play.ensures).state in
    record { is_told = k.is_told; has_shape = k.has_shape }

pub returns : goal.returns
returns c = plays_tested _ _ _ _ _ c.args.self.now.is_told c.play.ensures
