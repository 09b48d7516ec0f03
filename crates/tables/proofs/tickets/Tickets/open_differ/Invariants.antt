use Rattle.tables.proofs.Owning.{Met}
use Rattle.tables.proofs.tickets.Tickets.open_differ.Given as goal

abbrev pub invariant-loop-j : goal.invariant-loop-j
invariant-loop-j l = Met l.self.by_slot.now l.self.slots l.seen l.j-iterator.left
