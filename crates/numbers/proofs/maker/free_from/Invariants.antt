use Rattle.std.proofs.Common.{◌≡◌, ◌-◌, length}
use Rattle.numbers.specs.Ticket.{free_from}
use Rattle.numbers.proofs.maker.free_from.Given as goal

abbrev pub invariant-loop : goal.invariant-loop
invariant-loop l = free_from (length l.held - l.index) l.held l.t ≡ free_from (length l.held) l.held l.from
