use Rattle.std.proofs.Common.{◌≡◌}
use Rattle.tables.proofs.Testing.{wrong_before}
use Rattle.tables.proofs.rows.Steps.rows_apart.Given as goal

abbrev pub invariant-loop-slot : goal.invariant-loop-slot
invariant-loop-slot l = l.wrong ≡ wrong_before l.rows l.self.named l.self.waiting l.self.under_way l.slot
