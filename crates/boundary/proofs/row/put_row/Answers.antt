use Rattle.std.proofs.Common.{refl, rules}
use Rattle.boundary.proofs.Written.{row_done}
use Rattle.boundary.proofs.row.put_row.Goals as goal

pub returns : goal.returns
returns c =
    row_done _ _ _ _ _ _ _ _ (search rules) c.requires
    c.put_numbers.ensures
    (c.fill.ensures.after (λ y h. h))
    refl
    c.put_all.ensures
