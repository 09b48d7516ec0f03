use Rattle.std.proofs.Common.{rules}
use Rattle.lines.proofs.Line.{line_done, wrote_word}
use Rattle.lines.proofs.text.put_line.Goals as goal

pub returns : goal.returns
returns c =
    line_done _ _ _ _ _ _ _ _ _ _ _ _ _ _ c.requires
    (wrote_word _ _ _ _ _ _ _ (search rules) c.put_word-b.ensures)
    (wrote_word _ _ _ _ _ _ _ (search rules) c.put_word-c.ensures)
    (wrote_word _ _ _ _ _ _ _ (search rules) c.put_word-d.ensures)
    (wrote_word _ _ _ _ _ _ _ (search rules) c.put_word.ensures)
