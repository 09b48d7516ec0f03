-- What the code of the test for soundness asks for on the way, and the test itself does not name. Assumes nothing: these are definitions.
use Rattle.std.specs.Prelude.{ℕ, ◌%◌, ◌^◌, Bool, true, false, not, ◌&&◌, ◌||◌, List, eqb, ltb}
use Rattle.std.specs.Int.Bits.{bit_and, bit_or}
use Rattle.mask.specs.Member.{holds, excluding, less, lowest}
use Rattle.tables.specs.Limits.{jobs}
use Rattle.tables.specs.Tables.{entry, holders_in}
use Rattle.tables.specs.Test.{partners, pressing}

-- place i has slot o, of n open slots of which `left` are not listed before it
unfoldable pub place_in : ℕ → ℕ → ℕ → ℕ → Bool
place_in left n i o = elim (ltb i n) [ true ↦ ltb o jobs && holds left o | false ↦ eqb o 0 ]

-- the slots that go before slot b at a database and may not, and those that have to and do not
unfoldable pub row_wrong : ℕ → ℕ → ℕ → ℕ → ℕ → ℕ
row_wrong named waiting under b into = bit_or (less jobs into (partners named b)) (less jobs (pressing waiting under b) into)

-- the ticket of slot j where j is free
unfoldable pub free_ticket : List ℕ → ℕ → ℕ → ℕ
free_ticket tickets slots j = elim (holds slots j) [ true ↦ 0 | false ↦ entry tickets j ]

-- a free slot has no ticket; an open one has a ticket of its own
unfoldable pub no_ticket : List ℕ → ℕ → ℕ → Bool
no_ticket tickets slots j = eqb (free_ticket tickets slots j) 0

unfoldable pub own_ticket : List ℕ → ℕ → ℕ → Bool
own_ticket tickets slots j = not (holds slots j) || eqb (holders_in tickets slots (entry tickets j)) (2 ^ j)

-- the ticket of slot j differs from all that were seen, or from all: tickets that are equal are equal modulo 64
unfoldable pub new_ticket : List ℕ → ℕ → ℕ → ℕ → Bool
new_ticket tickets slots seen j = eqb (bit_and seen (2 ^ (entry tickets j % 64))) 0 || eqb (holders_in tickets slots (entry tickets j)) (2 ^ j)

-- at most one job names the database, and no step presses on another
unfoldable pub quiet : ℕ → ℕ → ℕ → Bool
quiet named waiting under = eqb (excluding named (lowest jobs named)) 0 && (eqb waiting 0 || eqb under 0)
