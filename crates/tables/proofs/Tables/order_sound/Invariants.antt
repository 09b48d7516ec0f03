use Rattle.std.proofs.Common.{◌≡◌, true}
use Rattle.loops.specs.Loop.{every}
use Rattle.tables.specs.Test.{listed, place_sound}
use Rattle.tables.proofs.Tables.order_sound.Given as goal

-- the slots at the places before i, all of which are sound
abbrev pub invariant-loop-i : goal.invariant-loop-i
invariant-loop-i l = (l.listed ≡ listed l.self.order.now l.i) × (true ≡ every l.i (place_sound l.self.order.now l.slots))
