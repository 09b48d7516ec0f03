use Rattle.search.proofs.Answer.{begin_asked, search_none, search_some}
use Rattle.search.proofs.search.Goals.{then-n-lt-COUNT, else-n-lt-COUNT}
use Rattle.search.proofs.search.Goals as goal

pub visit_job-requires : goal.visit_job-requires
visit_job-requires c = rw c.put_all_ahead.ensures (begin_asked _ _ _ c.if-n-lt-COUNT.true)

pub returns : goal.returns
returns c =
    rw c.moves.ensures
    (elim c.if-n-lt-COUNT.branch [
      | then-n-lt-COUNT w ↦ rw w.walker-is (search_some _ _ _ (rw w.put_all_ahead.ensures at w.visit_job.ensures))
      | else-n-lt-COUNT w ↦ rw w.walker-is (search_none _ _ _ w.if-n-lt-COUNT.false)
    ])
