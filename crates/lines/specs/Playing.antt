-- What playing records into a buffer leaves. Assumes nothing: these are definitions.
use Rattle.std.specs.Prelude.{ℕ, ◌+◌, ◌/◌, ◌^◌, Bool, true, false, ◌&&◌, List, ltb, length, Option, None, Some}
use Rattle.layout.specs.Put.{put}
use Rattle.coordinator.specs.declared.Coordinator.{Coordinator}
use Rattle.lines.specs.declared.Played.{Played}
use Rattle.lines.specs.Line.{longest}
use Rattle.lines.specs.Lines.{lines_of, state_after, lines_in}

-- what is returned, and the state and the buffer left
pub record Playing : Type 0 where
  pub played : Option Played
  pub state : Coordinator
  pub out : List ℕ

-- the index cannot run over, and the buffer has room for a line more than there are whole records
abbrev pub playable : ℕ → List ℕ → List ℕ → Bool
playable index bytes out = ltb index (2 ^ 63) && ltb (length bytes / 4) (length out / longest)

abbrev pub all : Coordinator → ℕ → List ℕ → List ℕ → Playing
all s index bytes out = record {
  played = Some (record { index = index + lines_in bytes; wrote = length (lines_of index s bytes) });
  state = state_after s bytes;
  out = put out 0 (lines_of index s bytes);
}

abbrev pub nothing : Coordinator → List ℕ → Playing
nothing s out = record { played = None; state = s; out = out }

-- all the records are played, or none is
unfoldable pub playing : Coordinator → ℕ → List ℕ → List ℕ → Playing
playing s index bytes out = elim (playable index bytes out) [ true ↦ all s index bytes out | false ↦ nothing s out ]
