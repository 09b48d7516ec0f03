use Rattle.std.proofs.Common.{◌+◌, ◌*◌, ◌^◌, ◌<◌, rules}
use borrow.Author.Tests.{tests}
use Rattle.mask.specs.Member.{within}
use Rattle.coordinator.specs.Limits.{jobs}
use Rattle.coordinator.specs.Views.{entry}
use Rattle.coordinator.proofs.Going.{going_is}
use Rattle.coordinator.proofs.Coordinator.going_beside.Goals as goal

pub returns : goal.returns
returns c =
    let s = c.args.self.now in
    let k = c.args.step.database.0 in
    let a : entry s.asked k < 2 ^ jobs = search rules in
    let r : entry s.released k < 2 ^ jobs = search rules in
    going_is s k _ _ a r c.less.ensures
    (c.gathered-free.ensures (λ j. within jobs (entry s.dependencies (k * jobs + j)) (entry s.confirmed k)) (λ j b l e. search (rules, tests)))
