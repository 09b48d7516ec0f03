-- The numbers of a line after its index, from an answer alone. Assumes nothing: these are definitions.
use Rattle.std.specs.Prelude.{Option, None, Some}
use Rattle.coordinator.specs.Call.{Call, open_job, ask_step, confirm_step, close_job}
use Rattle.record.specs.declared.answer.Numbers.{Numbers}
use Rattle.lines.specs.declared.said.Said.{Said}

-- Opening: ticket, moves. Asking: 1 released or 0 held, then 0. Confirming: 1 or 0 for whether one was released, then its ticket or 0.
-- Closing: how many jobs were closed, then 0. What is no call has nothing to say.
abbrev pub said_of : Option Call → Numbers → Said
said_of (Some (open_job mask)) n = record { refusal = n.refusal; first = n.ticket; second = n.moves }
said_of (Some (ask_step t k)) n = record { refusal = n.refusal; first = n.released; second = 0 }
said_of (Some (confirm_step t k)) n = record { refusal = n.refusal; first = n.released; second = n.ticket }
said_of (Some (close_job t)) n = record { refusal = n.refusal; first = n.closed; second = 0 }
said_of None n = record { refusal = n.refusal; first = 0; second = 0 }
