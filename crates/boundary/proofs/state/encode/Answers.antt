use Rattle.std.proofs.Common.{rules}
use Rattle.boundary.proofs.Coding.{encode_done}
use Rattle.boundary.proofs.state.encode.Goals as goal

-- the arrays' lengths are those of their types
pub returns : goal.returns
returns c =
    encode_done _ _ _ _ _ _ _ _ _ _ _
    (search rules)
    c.requires
    c.put_all.ensures
    c.put.ensures
    c.put_all-2.ensures
    c.put_all-3.ensures
    c.put_all-4.ensures
    c.put_all-5.ensures
    c.put_all-6.ensures
    c.put_all-7.ensures
    c.put-2.ensures
