use Rattle.std.proofs.Common.{◌∙◌, sym}
use Rattle.walks.proofs.Opening.{rows_count}
use Rattle.search.specs.Limits.{jobs, databases}
use Rattle.search.proofs.Walker.moves.Goals as goal

pub returns : goal.returns
returns c =
    let s = c.args.self.now in
    rw (c.count_all.ensures.all ∙ sym (rows_count jobs databases s.reached), c.count_all-2.ensures.all ∙ sym (rows_count jobs databases s.found))
