use Rattle.record.proofs.Playing.{open_plays, ask_plays, confirm_plays, close_plays}
use Rattle.record.proofs.request.Request.play.Goals as goal

pub returns-in-Open : goal.returns-in-Open
returns-in-Open c = rw c.in-Open.is (open_plays _ _ _ _ _ _ c.open_tested.ensures c.from.ensures c.from-in-Open.ensures)

pub returns-in-Ask : goal.returns-in-Ask
returns-in-Ask c = rw c.in-Ask.is (ask_plays _ _ _ _ _ _ _ c.ask_tested.ensures c.from-in-Ask.ensures c.from-in-Ask-2.ensures)

pub returns-in-Confirm : goal.returns-in-Confirm
returns-in-Confirm c = rw c.in-Confirm.is (confirm_plays _ _ _ _ _ _ _ c.confirm_tested.ensures c.from-in-Confirm.ensures c.from-in-Confirm-2.ensures)

pub returns-in-Close : goal.returns-in-Close
returns-in-Close c = rw c.in-Close.is (close_plays _ _ _ _ _ c.close_tested.ensures c.from-in-Close.ensures)
