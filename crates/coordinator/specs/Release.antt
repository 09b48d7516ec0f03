-- When a step may go, its release, and which one goes. Assumes nothing: these are definitions.
use Rattle.std.specs.Prelude.{ℕ, Bool, not, ◌&&◌, eqb}
use Rattle.loops.specs.Loop.{every}
use Rattle.loops.specs.Sum.{tally}
use Rattle.mask.specs.Member.{less, within, lowest}
use Rattle.mask.specs.Members.{gather}
use Rattle.coordinator.specs.declared.Coordinator.{Coordinator}
use Rattle.coordinator.specs.Limits.{jobs, databases}
use Rattle.coordinator.specs.Views.{entry, asked, released, held, into}
use Rattle.coordinator.specs.Change.{mark_released, with_dependencies, lead_to}

-- every dependency into it at that database comes from a confirmed step
unfoldable pub may_go : Coordinator → ℕ → ℕ → Bool
may_go s j k = within jobs (into s k j) (entry s.confirmed k)

-- mark it, and add at that database a dependency from this job to each open job that names it and whose step there isn't released
unfoldable pub release : Coordinator → ℕ → ℕ → Coordinator
release s j k =
    let t : Coordinator = mark_released s j k in
    with_dependencies t (lead_to k j (less jobs (entry t.named k) (entry t.released k)) t.dependencies)

-- the asked and unreleased steps at database k that may go, by their slots
unfoldable pub may_go_at : Coordinator → ℕ → ℕ
may_go_at s k = gather jobs (λ j. tally (asked s j k && not (released s j k) && may_go s j k))

-- no dependency goes into the job at any database
unfoldable pub may_close : Coordinator → ℕ → Bool
may_close s j = every databases (λ k. eqb (into s k j) 0)

-- the held closes that may go, by their slots
unfoldable pub may_close_now : Coordinator → ℕ
may_close_now s = gather jobs (λ j. tally (held s j && may_close s j))

-- of those that may go, the one that goes: the lowest slot
unfoldable pub first_of : Coordinator → ℕ → ℕ
first_of s m = lowest jobs m
