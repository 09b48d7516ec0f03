-- The tickets given out: the candidate, and the search for a number that no open job holds. Assumes nothing.
use Rattle.std.specs.Prelude.{ℕ, zero, suc, ◌+◌, ◌%◌, ◌^◌, Bool, true, false, not, List, length, ◌==◌, slice_index}
use Rattle.loops.specs.Loop.{every}

unfoldable pub absent_in : List ℕ → ℕ → Bool
absent_in held t = every (length held) (λ i. not (slice_index held i == t))

-- after 65,535 the next is 0
abbrev pub after : ℕ → ℕ
after t = (t + 1) % 2 ^ 16

-- the first of t, the one after it, .. that is not held, over at most so many steps
unfoldable pub free_from : ℕ → List ℕ → ℕ → ℕ
free_from zero held t = t
free_from (suc f) held t = elim (absent_in held t) [ true ↦ t | false ↦ free_from f held (after t) ]

-- what is given out from a candidate: as many steps as numbers are held pass over them all
abbrev pub ticket_from : List ℕ → ℕ → ℕ
ticket_from held next = free_from (length held) held next
