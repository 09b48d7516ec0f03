-- What a record answers. Assumes nothing: these are definitions.
use Rattle.std.specs.Prelude.{Option, None, Some}
use Rattle.coordinator.specs.declared.Coordinator.{Coordinator}
use Rattle.coordinator.specs.Answer.{Values, refused}
use Rattle.coordinator.specs.Call.{Call, Played, play}
use Rattle.record.specs.declared.answer.Numbers.{Numbers}

-- the numbers of an answer, without the tickets closed
abbrev pub numbers_of : Values → Numbers
numbers_of v = record { refusal = v.refusal; released = v.released; closed = v.closed; ticket = v.ticket; added = v.added; moves = v.moves }

-- a call is played; what is no call is refused by 11, and changes nothing
unfoldable pub answer : Coordinator → Option Call → Played
answer s None = record { values = refused 11; state = s }
answer s (Some c) = play s c
