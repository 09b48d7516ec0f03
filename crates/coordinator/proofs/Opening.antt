-- What the code of an opening has read and done, put together: it is refused or accepted as defined. Assumes nothing.
use Prim.Native.Nat.{ℕ, ◌-◌, ◌^◌, ◌<◌}
use native.Mathlib.Omega.{arith}
use mathlib.Core.Bool.{Bool}
use mathlib.Core.List.{List}
use mathlib.Core.Path.{◌≡◌, ap, ◌∙◌}
use borrow.Author.Tests.{lt-ltb}
use lib.ListN.{length, set}
use Rattle.loops.specs.Loop.{over}
use Rattle.loops.specs.Sum.{sum}
use Rattle.loops.specs.Table.{table}
use Rattle.mask.specs.Member.{lowest, size}
use Rattle.mask.specs.Members.{over_members}
use Rattle.mask.proofs.Size.{size_le, size_free}
use Rattle.numbers.specs.declared.Ticket.{Ticket}
use Rattle.numbers.specs.declared.NumberMaker.{NumberMaker}
use Rattle.numbers.specs.Ticket.{ticket_from, after}
use Rattle.search.specs.declared.Sought.{Sought}
use Rattle.search.specs.Search.{searched, sought}
use Rattle.std.specs.Prelude.{Ok}
use Rattle.coordinator.specs.declared.Coordinator.{Coordinator}
use Rattle.coordinator.specs.declared.answers.After.{After}
use Rattle.coordinator.specs.declared.answers.Opened.{Opened}
use Rattle.coordinator.specs.Limits.{jobs, databases}
use Rattle.coordinator.specs.Views.{entry, in_mask, names, open_slots, open_count, ticket, opened, into, dep}
use Rattle.coordinator.specs.Refusal.{slot_refusal, open_refusal_tested}
use Rattle.coordinator.specs.Change.{mark, lead, taken, with_dependencies}
use Rattle.coordinator.specs.Open.{free_slot, held_tickets, ticket_for, entered, with_found, added, accepted}
use Rattle.coordinator.specs.Open as open_spec
use Rattle.coordinator.specs.Tables.{ticket_at}
use Rattle.coordinator.proofs.Reach.{ticket_there}

module _ (s : Coordinator) (mask slots : ℕ) (b : Bool) (q : slots ≡ open_slots s) where
  -- the rows that the code goes down are the call's
  pub open_rows : slot_refusal b mask (size jobs slots) ≡ open_refusal_tested b s mask
  unfolding slot_refusal open_count
  open_rows = rw q

-- there is a slot where not all are taken
pub room_left : (slots : ℕ) → ¬ (size jobs slots ≡ jobs) → size jobs slots < jobs
room_left slots n = omega (arith, size_le jobs slots)

pub slot_fits : (slots : ℕ) → ¬ (size jobs slots ≡ jobs) → slots < 2 ^ jobs → (n : ℕ) → n ≡ lowest jobs (2 ^ jobs - 1 - slots) → n < jobs
slot_fits slots full h n at = rw at (size_free jobs slots h (room_left slots full)).within

-- what the code has done when it accepts, in slot n
module _
    (s : Coordinator) (mask slots n count : ℕ) (t : Ticket) (next : NumberMaker) (named before left : List ℕ) (result : Sought) (more : ℕ)
    (sized : length s.tickets ≡ jobs) (q : slots ≡ open_slots s) (below : n < jobs) (free : n ≡ lowest jobs (2 ^ jobs - 1 - slots)) (c : count ≡ size jobs slots)
    (given : t.0 ≡ ticket_from (table count (λ i. ticket_at s.tickets (entry s.order i))) s.maker.next) (moved : next.next ≡ after t.0)
    (marked : named ≡ over_members databases mask (λ k l. mark l k n) s.named)
    (led : before ≡ over_members databases mask (λ k. lead k (entry s.released k) n) s.dependencies)
    (walked : result ≡ sought named before n) (found : left ≡ over databases (λ k. lead k (entry result.found k) n) before)
    (counted : more ≡ sum databases (λ k. size jobs (entry result.found k)))
  where
    number_is : t.0 ≡ ticket_for s
    unfolding ticket_for held_tickets ticket opened open_count
    number_is =
        given
        ∙ (λ i. ticket_from (table count (λ p. ticket_there s.tickets sized (entry s.order p) i)) s.maker.next)
        ∙ rw (c, q)

    ticket_is : t ≡ record { 0 = ticket_for s }
    ticket_is = λ i. record { 0 = number_is i }

    maker_is : next ≡ record { next = after (ticket_for s) }
    maker_is = λ i. record { next = (moved ∙ ap after number_is) i }

    sought_is : sought named before n ≡ record { found = (searched named before n).found; moves = (searched named before n).moves }
    unfolding sought
    sought_is = rw (sought, lt-ltb n jobs below)

    pub opened_at : ◌≡◌ {A = After Opened} (record {
      answer = Ok (record { ticket = t; added = more; moves = result.moves });
      state = record {
        tickets = set s.tickets n t.0;
        held = s.held;
        order = set s.order count n;
        named = named;
        asked = s.asked;
        released = s.released;
        confirmed = s.confirmed;
        dependencies = left;
        maker = next;
      };
    }) (accepted s (free_slot s) mask)
    unfolding free_slot accepted added entered taken with_dependencies with_found open_count searched open_spec.searched names in_mask dep into
    opened_at = rw (← q, ← free, counted, found, walked, sought_is, marked, led, ticket_is, maker_is, c, q)
