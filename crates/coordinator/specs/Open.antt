-- Opening a job. Assumes nothing: these are definitions.
use Rattle.std.specs.Prelude.{ℕ, ◌+◌, ◌-◌, ◌^◌, Bool, List, Option, None, Some, Ok, Err}
use Rattle.loops.specs.Loop.{over}
use Rattle.loops.specs.Sum.{sum}
use Rattle.loops.specs.Table.{table}
use Rattle.mask.specs.Member.{lowest, size}
use Rattle.mask.specs.Members.{over_members}
use Rattle.walks.specs.Walk.{Graph}
use Rattle.walks.specs.Rows.{rows}
use Rattle.walks.specs.Search.{Seek, opening_search}
use Rattle.numbers.specs.Ticket.{ticket_from, after}
use Rattle.coordinator.specs.declared.Coordinator.{Coordinator}
use Rattle.coordinator.specs.Limits.{jobs, databases, steps}
use Rattle.coordinator.specs.Views.{entry, names, open_slots, open_count, ticket, opened, dep}
use Rattle.coordinator.specs.Change.{with_dependencies, lead, taken}
use Rattle.coordinator.specs.Refusal.{open_refusal, open_refusal_tested}
use Rattle.coordinator.specs.declared.answers.After.{After}
use Rattle.coordinator.specs.declared.answers.Opened.{Opened}
use Rattle.refusals.specs.declared.refusal.Refusal.{Refusal}

-- the lowest free slot
unfoldable pub free_slot : Coordinator → ℕ
free_slot s = lowest jobs (2 ^ jobs - 1 - open_slots s)

-- the tickets that open jobs hold, and the one given out
unfoldable pub held_tickets : Coordinator → List ℕ
held_tickets s = table (open_count s) (λ i. ticket s (opened s i))

unfoldable pub ticket_for : Coordinator → ℕ
ticket_for s = ticket_from (held_tickets s) s.maker.next

-- the job in slot n is there, and at each named database every job whose step there is released goes before it
unfoldable pub entered : Coordinator → ℕ → ℕ → Coordinator
entered s n mask =
    with_dependencies (taken s n mask (ticket_for s) (after (ticket_for s))) (over_members databases mask (λ k. lead k (entry s.released k) n) s.dependencies)

-- the graph of the opening search for the job in slot n
abbrev pub graph : Coordinator → ℕ → Graph
graph s n = record { jobs = jobs; databases = databases; new = n; names = names s; dep = dep s }

unfoldable pub searched : Coordinator → ℕ → Seek (rows jobs databases)
searched s n = opening_search (graph s n) (rows jobs databases) (steps + 1)

-- what the search found is added, and how much that is
unfoldable pub with_found : Coordinator → ℕ → List ℕ → Coordinator
with_found s n found = with_dependencies s (over databases (λ k. lead k (entry found k) n) s.dependencies)

unfoldable pub added : List ℕ → ℕ
added found = sum databases (λ k. size jobs (entry found k))

unfoldable pub accepted : Coordinator → ℕ → ℕ → After Opened
accepted s n mask =
    let t : Coordinator = entered s n mask in
    let r : Seek (rows jobs databases) = searched t n in
    record { answer = Ok (record { ticket = record { 0 = ticket_for s }; added = added r.found; moves = r.moves }); state = with_found t n r.found }

-- refused, or done
abbrev pub open_answered : Option Refusal → Coordinator → ℕ → After Opened
open_answered refusal s mask = elim refusal [ None ↦ accepted s (free_slot s) mask | Some r ↦ record { answer = Err r; state = s } ]

unfoldable pub after_open : Coordinator → ℕ → After Opened
after_open s mask = open_answered (open_refusal s mask) s mask

-- the same, given whether the state is sound
unfoldable pub after_open_tested : Bool → Coordinator → ℕ → After Opened
after_open_tested is_sound s mask = open_answered (open_refusal_tested is_sound s mask) s mask
