use Rattle.std.proofs.Common.{◌≡◌, length, map, take}
use Rattle.layout.specs.Bytes.{numbers_at}
use Rattle.boundary.proofs.arrays.get_all.Given as goal

-- the first i numbers are read
abbrev pub invariant-loop-i : goal.invariant-loop-i
invariant-loop-i g l = record { long : length l.x-items ≡ g.row.M; read : take l.i (map g.N.Number.value l.x-items) ≡ numbers_at g.N.Number.WIDTH l.i l.b l.at }
