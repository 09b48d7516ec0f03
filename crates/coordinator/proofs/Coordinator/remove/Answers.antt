use Rattle.std.proofs.Common.{refl, rules}
use Rattle.coordinator.proofs.Closings.{struck, removed_made}
use Rattle.coordinator.proofs.Coordinator.remove.Goals as goal

pub returns : goal.returns
returns c =
    let s = c.args.self.now in
    removed_made s _ _ refl _ _ _ _ _ _ _ _ _ c.without_member-self.ensures c.place-place.ensures c.moved_up-self.ensures
    (struck s.named _ _ _ (search rules) c.strike.ensures) (struck s.asked _ _ _ (search rules) c.strike-2.ensures)
    (struck s.released _ _ _ (search rules) c.strike-3.ensures) (struck s.confirmed _ _ _ (search rules) c.strike-4.ensures)
    (struck s.dependencies _ _ _ (search rules) c.strike-5.ensures) c.unlead.ensures
