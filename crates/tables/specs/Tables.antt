-- Who is open, and who holds a ticket. At each database, `named` has the slots whose job names it; at each slot, `tickets` has its job's. Assumes nothing: these are definitions.
use Rattle.std.specs.Prelude.{ℕ, List, eqb, get_or}
use Rattle.std.specs.Int.Bits.{bit_and}
use Rattle.loops.specs.Sum.{tally}
use Rattle.mask.specs.Members.{gather, union_of}
use Rattle.tables.specs.Limits.{jobs, databases}

abbrev pub entry : List ℕ → ℕ → ℕ
entry l i = get_or l i 0

-- the slots that some database is named by
unfoldable pub open_in : List ℕ → ℕ
open_in named = union_of databases (λ k. entry named k)

-- the slots, open or not, with ticket t
unfoldable pub sharers_in : List ℕ → ℕ → ℕ
sharers_in tickets t = gather jobs (λ j. tally (eqb (entry tickets j) t))

-- those of the open slots with ticket t: in a sound state at most one
unfoldable pub holders_in : List ℕ → ℕ → ℕ → ℕ
holders_in tickets slots t = bit_and (sharers_in tickets t) slots
