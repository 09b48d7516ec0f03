use Rattle.std.proofs.Common.{sym, ◌∙◌, arith}
use Rattle.numbers.proofs.Search.{free_stop, free_go, free_end}
use Rattle.numbers.proofs.maker.free_from.Goals as goal

pub returns-then-absent : goal.returns-then-absent
returns-then-absent c = free_stop _ _ _ (sym c.if-absent.ensures) ∙ c.loop.invariant

pub loop-preserved : goal.loop-preserved
loop-preserved c = rw c.after-t.ensures (sym (free_go _ _ _ _ c.loop-test.true (sym c.if-absent.ensures)) ∙ c.loop.invariant)

pub returns : goal.returns
returns c = free_end _ _ _ _ (omega (arith, c.loop-test.false)) ∙ c.loop.invariant
