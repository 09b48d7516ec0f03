use Rattle.std.proofs.Common.{◌≡◌, ◌∙◌, sym, rules}
use Rattle.coordinator.specs.Views.{entry}
use Rattle.coordinator.proofs.Reach.{set_there}
use Rattle.coordinator.proofs.views.at.Goals as goal

pub returns : goal.returns
returns c =
    let read : c.unwrap_or.result ≡ entry c.args.sets.now c.args.k.0 = search rules in
    read ∙ sym (set_there _ (search rules) _)
