use Rattle.std.proofs.Common.{eqb, rules}
use borrow.Author.Tests.{tests}
use Rattle.tables.specs.Tables.{entry, sharers_in}
use Rattle.tables.proofs.tickets.Tickets.sharers.Goals as goal

pub returns : goal.returns
unfolding sharers_in
returns c = c.gathered.ensures (λ j. eqb (entry c.args.self.by_slot.now j) c.args.t) (λ j b l k. search (rules, tests))
