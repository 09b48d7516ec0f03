-- What the code reads in a record's four bytes. Assumes nothing: these are definitions.
use Rattle.std.specs.Prelude.{ℕ, List, get_or, Option, None, Some, Result, Ok, Err}
use Rattle.coordinator.specs.Call.{Call, open_job, ask_step, confirm_step, close_job}
use Rattle.record.specs.Record.{two_bytes, call_of}
use Rattle.record.specs.declared.request.Request.{Request}
use Rattle.record.specs.declared.request.Request.TheVariants.{Open, Ask, Confirm, Close}
use Rattle.record.specs.declared.request.UnknownKind.{UnknownKind}

-- the call that a request is
abbrev pub call : Request → Call
call (Open mask) = open_job mask
call (Ask t k) = ask_step t.0 k.0
call (Confirm t k) = confirm_step t.0 k.0
call (Close t) = close_job t.0

abbrev pub requested : Result Request UnknownKind → Option Call
requested (Ok r) = Some (call r)
requested (Err e) = None

-- the call that four bytes are: the kind, the database, and the value, low byte first
abbrev pub read : List ℕ → Option Call
read bytes = call_of (get_or bytes 0 0) (get_or bytes 1 0) (two_bytes (get_or bytes 2 0) (get_or bytes 3 0))
