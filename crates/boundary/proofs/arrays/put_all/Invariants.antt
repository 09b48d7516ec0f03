use Rattle.std.proofs.Common.{◌+◌, ◌*◌, map}
use Rattle.layout.specs.Bytes.{bytes_of_all}
use Rattle.layout.proofs.Put.{Filled}
use Rattle.boundary.proofs.arrays.put_all.Given as goal

-- the first i numbers are written
abbrev pub invariant-loop-i : goal.invariant-loop-i
invariant-loop-i g l = Filled l.initial.out l.at (bytes_of_all g.N.Number.WIDTH l.i (map g.N.Number.value l.a)) (l.at + g.N.Number.WIDTH * l.i) l.out
