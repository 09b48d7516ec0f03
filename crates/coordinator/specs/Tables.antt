-- What the code reads of a state, told of one table or two: small functions are lent these and not the state. Assumes nothing: these are definitions.
use Rattle.std.specs.Prelude.{ℕ, ◌+◌, ◌*◌, Bool, true, false, not, ◌&&◌, ◌||◌, List, eqb, ltb}
use Rattle.loops.specs.Loop.{every}
use Rattle.loops.specs.Sum.{tally}
use Rattle.mask.specs.Member.{holds}
use Rattle.mask.specs.Members.{gather}
use Rattle.coordinator.specs.Limits.{jobs, databases}
use Rattle.coordinator.specs.Views.{entry}

-- the set at database k, and the ticket in slot j; beyond the last there is none
unfoldable pub set_at : List ℕ → ℕ → ℕ
set_at sets k = elim (ltb k databases) [ true ↦ entry sets k | false ↦ 0 ]

unfoldable pub ticket_at : List ℕ → ℕ → ℕ
ticket_at tickets j = elim (ltb j jobs) [ true ↦ entry tickets j | false ↦ 0 ]

-- no dependency goes into slot j at any database; the held slots of which that is so
unfoldable pub may_close_in : List ℕ → ℕ → Bool
may_close_in dependencies j = every databases (λ k. eqb (entry dependencies (k * jobs + j)) 0)

unfoldable pub may_close_now_in : List ℕ → ℕ → ℕ
may_close_now_in dependencies held = gather jobs (λ j. tally (holds held j && may_close_in dependencies j))

-- every step of slot j is confirmed
unfoldable pub all_confirmed_in : List ℕ → List ℕ → ℕ → Bool
all_confirmed_in named confirmed j = every databases (λ k. not (holds (entry named k) j) || holds (entry confirmed k) j)
