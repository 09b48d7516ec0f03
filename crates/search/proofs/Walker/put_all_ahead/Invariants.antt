use Rattle.std.proofs.Common.{◌≡◌, get_or}
use Rattle.loops.specs.Loop.{over}
use Rattle.search.specs.Visit.{put_ahead}
use Rattle.search.proofs.Walker.put_all_ahead.Given as goal

abbrev pub invariant-loop-u : goal.invariant-loop-u
invariant-loop-u l =
    l.self ≡ record l.initial.self { ahead = over l.u (λ u. put_ahead (get_or l.initial.self.named.now u 0) u) l.initial.self.ahead }
