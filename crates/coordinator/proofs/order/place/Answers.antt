use Rattle.std.proofs.Common.{eqb, rules, ap, ◌∙◌}
use borrow.Author.Tests.{tests}
use Rattle.mask.specs.Member.{lowest}
use Rattle.coordinator.specs.Limits.{jobs}
use Rattle.coordinator.specs.Views.{entry}
use Rattle.coordinator.proofs.order.place.Goals as goal

pub returns : goal.returns
returns c =
    c.lowest.ensures ∙ ap (lowest jobs) (c.gathered-places.ensures (λ i. eqb (entry c.args.order.now i) c.args.j.0) (λ i b l k. search (rules, tests)))
