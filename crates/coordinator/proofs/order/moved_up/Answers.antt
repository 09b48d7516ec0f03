use Rattle.std.proofs.Common.{◌+◌, not, ltb, rules}
use Rattle.loops.specs.Sum.{tally}
use Rattle.loops.proofs.Tables.{table_made}
use Rattle.coordinator.specs.Limits.{jobs}
use Rattle.coordinator.specs.Views.{entry}
use Rattle.coordinator.specs.Change.{moved_up}
use Rattle.coordinator.proofs.order.moved_up.Goals as goal

pub returns : goal.returns
unfolding moved_up
returns c = table_made (λ i. entry c.args.order (i + tally (not (ltb i c.args.p)))) _ _ jobs 0 c.from_fn.ensures.items (λ i y q k. search rules)
