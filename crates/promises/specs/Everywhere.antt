-- What is promised of every state and every call, reachable or not. Assumes nothing: these are definitions.
use Rattle.std.specs.Prelude.{ℕ, ◌+◌, ◌*◌, ◌^◌, ◌<◌, ◌≤◌, true, false, ◌↔◌, ◌⊎◌, ◌≡◌, length, None, Some, Ok}
use Rattle.mask.specs.Member.{holds}
use Rattle.walks.specs.Walk.{WalkEnd, named}
use Rattle.walks.specs.Marks.{count}
use Rattle.walks.specs.Rows.{rows}
use Rattle.walks.specs.Machine.{machine}
use Rattle.numbers.specs.Ticket.{after}
use Rattle.refusals.specs.declared.refusal.Refusal.{Refusal}
use Rattle.refusals.specs.declared.refusal.Refusal.TheVariants.{Full, Unsound}
use Rattle.refusals.specs.Number.{number}
use Rattle.coordinator.specs.declared.Coordinator.{Coordinator}
use Rattle.coordinator.specs.declared.answers.Closed.{Closed}
use Rattle.coordinator.specs.Limits.{jobs, databases}
use Rattle.coordinator.specs.Fresh.{fresh}
use Rattle.coordinator.specs.Views.{entry, is_open, dep}
use Rattle.coordinator.specs.Shape.{Shape}
use Rattle.coordinator.specs.Sound.{Sound}
use Rattle.coordinator.specs.Test.{sound}
use Rattle.coordinator.specs.Release.{may_go_at}
use Rattle.coordinator.specs.Refusal.{open_refusal, confirm_refusal}
use Rattle.coordinator.specs.Bound.{most_moves}
use Rattle.coordinator.specs.Open.{free_slot, entered, graph, searched}
use Rattle.coordinator.specs.Close.{after_close}
use Rattle.coordinator.specs.Answer.{refused}
use Rattle.coordinator.specs.Call.{Call, open_job, confirm_step, play}
use Rattle.soundness.specs.GivenOut.{GivenOut}
use Rattle.soundness.specs.Refused.{refusal_of, rows_of, row, FirstApplies}
use Rattle.promises.specs.Moment.{Fits}

-- Demand 1
pub record Refusals : Type 0 where
  -- a refusal answers its number and zeros, and changes nothing, the next ticket number included
  pub changes_nothing : (s : Coordinator) (c : Call) (r : Refusal) → refusal_of s c ≡ Some r → play s c ≡ record { values = refused (number r); state = s }
  -- where no row applies the call is accepted, and 0 stands for the number
  pub accepts : (s : Coordinator) (c : Call) → refusal_of s c ≡ None → (play s c).values.refusal ≡ 0
  -- a state that isn't sound is refused as such, with 10, whatever the call
  pub damaged : (s : Coordinator) (c : Call) → Shape s → ¬ Sound s → refusal_of s c ≡ Some Unsound
  -- the refusal is that of the first row that applies, and where there is no refusal none does
  pub first_row : (s : Coordinator) (c : Call) (r : Refusal) → refusal_of s c ≡ Some r → FirstApplies (rows_of s c) r
  pub no_row : (s : Coordinator) (c : Call) → refusal_of s c ≡ None → (i : ℕ) → i < length (rows_of s c) → (row (rows_of s c) i).applies ≡ false
  -- no refusal has the number 0, and no two have the same
  pub numbered : (s : Coordinator) (c : Call) (r : Refusal) → refusal_of s c ≡ Some r → ¬ (number r ≡ 0)
  pub told_apart : (q r : Refusal) → number q ≡ number r → q ≡ r

pub record Soundness : Type 0 where
  -- the test is true exactly where document 01's clauses hold
  pub test : (s : Coordinator) → Shape s → (sound s ≡ true) ↔ Sound s
  -- every call on a sound state leaves a sound state
  pub kept : (s : Coordinator) (c : Call) → Shape s → Fits c → Sound s → Shape (play s c).state × Sound (play s c).state
  -- after any call the test says what it said before
  pub stays : (s : Coordinator) (c : Call) → Shape s → Fits c → sound (play s c).state ≡ sound s
  -- a fresh start is sound, has no open job and keeps the candidate
  pub start : (n : ℕ) → n < 2 ^ 16 → Sound (fresh n) × ((j : ℕ) → is_open (fresh n) j ≡ false) × ((fresh n).maker.next ≡ n)

-- Demand 2, of an accepted opening
module _ (s : Coordinator) (mask : ℕ) where
  -- the slot of the new job, and the state with it and the dependencies of released steps to it: what stands before the search
  abbrev pub new : ℕ
  new = free_slot s

  abbrev pub before_search : Coordinator
  before_search = entered s new mask

  abbrev pub after_search : Coordinator
  after_search = (play s (open_job mask)).state

  pub record Opened : Type 0 where
    -- the ticket is the first number, from the candidate upwards, that no open job holds, and the candidate becomes the number after it
    pub ticket_first : GivenOut s (play s (open_job mask)).values.ticket
    pub candidate : after_search.maker.next ≡ after (play s (open_job mask)).values.ticket
    -- the search finds a dependency exactly where a walk ends with it, and adds those
    pub found : (v u : ℕ) → (holds (entry (searched before_search new).found u) v ≡ true) ↔ WalkEnd (graph before_search new) v u
    pub added : (u v w : ℕ) → w < jobs → (dep after_search u v w ≡ true) ↔ ((dep before_search u v w ≡ true) ⊎ ((w ≡ new) × WalkEnd (graph before_search new) v u))
    pub how_many : (play s (open_job mask)).values.added ≡ count (rows jobs databases) (searched before_search new).found
    -- the moves are those of the defined search, at most three for each pair of an earlier open job and a database it names
    pub moves : (k : ℕ) → 3 * named (graph before_search new) ≤ k → (play s (open_job mask)).values.moves ≡ (machine (graph before_search new) (rows jobs databases) k).moves
    pub tally : (play s (open_job mask)).values.moves ≡ 2 * count (rows jobs databases) (searched before_search new).reached + count (rows jobs databases) (searched before_search new).found
    pub most : (play s (open_job mask)).values.moves ≤ 3 * named (graph before_search new)
    pub limit : (play s (open_job mask)).values.moves ≤ 1488
    -- what the coordinator says before the opening that it can take at most
    pub foreseen : (play s (open_job mask)).values.moves ≤ most_moves s

pub record Calls : Type 0 where
  pub opening : (s : Coordinator) (mask : ℕ) → Shape s → mask < 2 ^ 16 → open_refusal s mask ≡ None → Opened s mask
  -- a confirm releases at most one: its release holds the others
  pub holds_others : (s : Coordinator) (t k : ℕ) → Shape s → confirm_refusal s t k ≡ None → (play s (confirm_step t k)).values.released ≡ 1 → may_go_at (play s (confirm_step t k)).state k ≡ 0
  -- refusal 2, for want of a slot, never stays after a close that closed
  pub room_again : (s : Coordinator) (t mask : ℕ) (c : Closed) → Shape s → (after_close s t).answer ≡ Ok (Some c) → ¬ (open_refusal (after_close s t).state mask ≡ Some Full)
