-- One answer as 80 bytes. Assumes nothing: these are definitions.
use Rattle.std.specs.Prelude.{ℕ, List, ◌++◌}
use Rattle.coordinator.specs.Limits.{jobs}
use Rattle.coordinator.specs.Answer.{Values}
use Rattle.layout.specs.Bytes.{bytes_of, bytes_of_all}
use Rattle.record.specs.declared.answer.Numbers.{Numbers}
use Rattle.record.specs.Answer.{numbers_of}

abbrev pub row_size : ℕ
row_size = 80

-- Ten bytes. No number of an answer takes more than its own: at most 32 jobs are closed, 496 dependencies added, 1,488 moves made.
unfoldable pub number_bytes : Numbers → List ℕ
number_bytes n =
    bytes_of 1 n.refusal ++ (bytes_of 1 n.released ++ (bytes_of 2 n.closed ++ (bytes_of 2 n.ticket ++ (bytes_of 2 n.added ++ bytes_of 2 n.moves))))

-- the numbers, six zeros, and 32 tickets
unfoldable pub row_of : Numbers → List ℕ → List ℕ
row_of n tickets = number_bytes n ++ (bytes_of 6 0 ++ bytes_of_all 2 jobs tickets)

-- the tickets closed in order, zeros after them
unfoldable pub row : Values → List ℕ
row v = row_of (numbers_of v) v.tickets
