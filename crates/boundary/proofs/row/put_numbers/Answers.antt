use Rattle.boundary.proofs.Written.{numbers_done}
use Rattle.boundary.proofs.row.put_numbers.Goals as goal

pub returns : goal.returns
returns c =
    numbers_done _ _ _ _ _ _ _ _ _ _ _ _ c.requires
    c.put.ensures
    c.put-2.ensures
    c.put-3.ensures
    c.put-4.ensures
    c.put-5.ensures
    c.put-6.ensures
    c.low_half.ensures
    c.low_half-2.ensures
    c.low_half-3.ensures
