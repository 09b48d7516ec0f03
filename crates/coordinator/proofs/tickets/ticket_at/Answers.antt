use Rattle.std.proofs.Common.{◌≡◌, ◌∙◌, sym, rules}
use Rattle.coordinator.specs.Views.{entry}
use Rattle.coordinator.proofs.Reach.{ticket_there}
use Rattle.coordinator.proofs.tickets.ticket_at.Goals as goal

pub returns : goal.returns
returns c =
    let read : c.unwrap_or.result ≡ entry c.args.tickets.now c.args.j = search rules in
    read ∙ sym (ticket_there _ (search rules) _)
