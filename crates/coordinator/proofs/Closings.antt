-- The loop that closes a job and then the held closes that may go, turn by turn. Assumes nothing.
use Prim.Native.Nat.{ℕ, zero, suc, ◌+◌, ◌-◌, ◌^◌, ◌<◌, ◌≤◌}
use native.Mathlib.Omega.{arith}
use native.Mathlib.Numerals.{add-one}
use mathlib.Core.Bool.{Bool, true, false, not, ◌&&◌}
use mathlib.Core.List.{List}
use mathlib.Core.Logic.{◌⊎◌, inl, inr}
use mathlib.Core.Path.{◌≡◌, refl, sym, ap, ap₂, ◌∙◌}
use borrow.Author.Tests.{ne_eqb}
use lib.Bits.{bit_or}
use lib.Dec.{eqb}
use lib.ListN.{length, set}
use lib.Pow.{pow-lt}
use Rattle.std.proofs.Common.{pow_pos}
use Rattle.loops.specs.Sum.{tally}
use Rattle.loops.proofs.Tests.{and_left, and_right, or_cases, or_right}
use Rattle.mask.specs.Member.{holds, excluding, lowest, size}
use Rattle.mask.specs.Members.{gather}
use Rattle.mask.specs.Lowest.{Lowest}
use Rattle.std.proofs.lemmas.Nat.Bits.{bit_at-pow_same, bit_at-pow_other}
use Rattle.mask.proofs.Gather.{gathered_lt, holds_gather}
use Rattle.mask.proofs.Holds.{holds_or, holds_excluding, holds_below}
use Rattle.mask.proofs.Lowest.{trailing_lowest, lowest_holds, lowest_unique}
use Rattle.mask.proofs.Size.{size_le, size_mono, size_excluding}
use Rattle.coordinator.specs.declared.Coordinator.{Coordinator}
use Rattle.coordinator.specs.Limits.{jobs, databases, steps}
use Rattle.coordinator.specs.Views.{entry, ticket, held, opened}
use Rattle.coordinator.specs.Change.{strike, place, moved_up, unled, removed}
use Rattle.coordinator.specs.Release.{may_close, may_close_now, first_of}
use Rattle.coordinator.specs.Tables.{may_close_now_in}
use Rattle.coordinator.specs.Close.{Closing, no_tickets, close_one, close_held, closing}
use Rattle.coordinator.proofs.Tables.{may_close_now_is}

-- the first of m closes, and then the held closes that may go; at most so many
unfoldable pub close_from : ℕ → ℕ → Closing → Closing
close_from zero m c = c
close_from (suc left) m c = elim (eqb m 0) [ true ↦ c | false ↦ close_held left (close_one c (lowest jobs m)) ]

held_from : (left : ℕ) (c : Closing) → close_held left c ≡ close_from left (may_close_now c.state) c
unfolding close_held close_from first_of
held_from zero c = refl
held_from (suc left) c = refl

from_some : (left m : ℕ) (c : Closing) → ¬ (m ≡ 0) → close_from (suc left) m c ≡ close_held left (close_one c (lowest jobs m))
unfolding close_from
from_some left m c n = rw (close_from, ne_eqb m 0 n)

from_none : (left : ℕ) (c : Closing) → close_from left 0 c ≡ c
unfolding close_from
from_none zero c = refl
from_none (suc left) c = refl

-- Where the loop stands: what is left to do from here gives the whole. Each turn takes one slot off those that are held or close next, so the tickets have room.
pub record Going (s₀ : Coordinator) (first : ℕ) (s : Coordinator) (tickets : List ℕ) (count next : ℕ) : Type 0 where
  pub fits : next < 2 ^ jobs
  pub room : count + size jobs (bit_or s.held next) ≤ jobs
  pub same : close_from (suc jobs - count) next (record { count = count; tickets = tickets; state = s }) ≡ closing s₀ first

lowest_one : (n k : ℕ) → k < n → lowest n (2 ^ k) ≡ k
lowest_one n k l =
    lowest_unique n (2 ^ k) k (pow-lt l) (record { within = l; on = bit_at-pow_same k; below = λ j h. bit_at-pow_other k j (λ e. omega arith) })

pub going_start : (s : Coordinator) (j m : ℕ) → j < jobs → m ≡ 2 ^ j → Going s j s no_tickets 0 m
unfolding closing
going_start s j m l e = record {
  fits = rw e (pow-lt l);
  room = omega (arith, size_le jobs (bit_or s.held m));
  same = from_some jobs m _ (omega (arith, e, pow_pos j)) ∙ rw (e, lowest_one jobs j l);
}

now_lt : (s : Coordinator) → may_close_now s < 2 ^ jobs
unfolding may_close_now
now_lt s = gathered_lt (λ j. held s j && may_close s j) jobs

-- those that may close now are held
among_held : (s : Coordinator) (j : ℕ) → holds (may_close_now s) j ≡ true → holds s.held j ≡ true
unfolding may_close_now held
among_held s j e =
    let test : ℕ → Bool = λ i. holds s.held i && may_close s i in
    and_left (holds s.held j) (may_close s j) (sym (holds_gather test jobs j (holds_below jobs (gather jobs _) j (gathered_lt test jobs) e)) ∙ e)

module _ {s₀ : Coordinator} {first : ℕ} {s : Coordinator} {tickets : List ℕ} {count next : ℕ} (g : Going s₀ first s tickets count next) where
  module _ (n : ¬ (next ≡ 0)) where
    pub going_lowest : Lowest jobs next (lowest jobs next)
    going_lowest = trailing_lowest jobs next (omega arith) g.fits

    one_less : size jobs (bit_or s.held next) ≡ size jobs (excluding (bit_or s.held next) (lowest jobs next)) + 1
    one_less =
        size_excluding jobs (bit_or s.held next) (lowest jobs next) going_lowest.within
        (holds_or s.held next (lowest jobs next) ∙ or_right (holds s.held (lowest jobs next)) _ (lowest_holds going_lowest))

    pub going_room : count < jobs
    going_room = omega (arith, one_less, g.room)

    -- what is held and may close after the turn is of what was held or to close, without the one that closed
    fewer : (r : Coordinator) → r ≡ removed s (lowest jobs next) → size jobs (bit_or r.held (may_close_now r)) ≤ size jobs (excluding (bit_or s.held next) (lowest jobs next))
    unfolding removed
    fewer r e = size_mono jobs _ _ (λ j h. holds_excluding (bit_or s.held next) (lowest jobs next) j ∙ kept j (at j (or_cases (holds r.held j) (holds (may_close_now r) j) (sym (holds_or r.held (may_close_now r) j) ∙ h))))
      where
        at : (j : ℕ) → (holds r.held j ≡ true) ⊎ (holds (may_close_now r) j ≡ true) → not (eqb j (lowest jobs next)) && holds s.held j ≡ true
        at j (inl p) = sym (holds_excluding s.held (lowest jobs next) j) ∙ rw e at p
        at j (inr p) = sym (holds_excluding s.held (lowest jobs next) j) ∙ rw e at (among_held r j p)

        kept : (j : ℕ) → not (eqb j (lowest jobs next)) && holds s.held j ≡ true → not (eqb j (lowest jobs next)) && holds (bit_or s.held next) j ≡ true
        kept j p =
            rw (and_left (not (eqb j (lowest jobs next))) (holds s.held j) p, holds_or s.held next j, and_right (not (eqb j (lowest jobs next))) (holds s.held j) p)

    one_more : (r : Coordinator) (given : List ℕ) → r ≡ removed s (lowest jobs next) → given ≡ set tickets count (entry s.tickets (lowest jobs next))
        → record { count = count + 1; tickets = given; state = r } ≡ close_one (record { count = count; tickets = tickets; state = s }) (lowest jobs next)
    unfolding close_one ticket
    one_more r given e f = λ i. record { count = add-one count i; tickets = f i; state = e i }

    pub going_turn : (r : Coordinator) (given : List ℕ) (later : ℕ) → r ≡ removed s (lowest jobs next) → given ≡ set tickets count (entry s.tickets (lowest jobs next))
        → later ≡ may_close_now_in r.dependencies r.held → Going s₀ first r given (count + 1) later
    going_turn r given later e f l =
        let now : later ≡ may_close_now r = l ∙ may_close_now_is r in
        let before : Closing = record { count = count; tickets = tickets; state = s } in
        let after : Closing = record { count = count + 1; tickets = given; state = r } in
        let left : suc jobs - (count + 1) ≡ jobs - count = omega arith in
        let here : suc (jobs - count) ≡ suc jobs - count = omega (arith, going_room) in
        record {
          fits = rw now (now_lt r);
          room = rw now (omega (arith, one_less, fewer r e, g.room));
          same =
              ap (λ (m : ℕ). close_from (suc jobs - (count + 1)) m after) now
              ∙ sym (held_from (suc jobs - (count + 1)) after)
              ∙ ap₂ close_held left (one_more r given e f)
              ∙ sym (from_some (jobs - count) next before n)
              ∙ ap (λ (k : ℕ). close_from k next before) here
              ∙ g.same;
        }

  pub going_done : next ≡ 0 → record { count = count; tickets = tickets; state = s } ≡ closing s₀ first
  going_done z = sym (from_none (suc jobs - count) _) ∙ rw z at g.same

-- a table of n sets without slot j
pub struck : (l r : List ℕ) (n j : ℕ) → length l ≡ n → r ≡ strike (length l) j l → r ≡ strike n j l
struck l r n j h e = e ∙ ap (λ (m : ℕ). strike m j l) h

-- each table without slot j, one after another
pub removed_made : (s : Coordinator) (j w : ℕ) → j ≡ w → (held p : ℕ) (order named asked released confirmed rows dependencies : List ℕ)
    → held ≡ excluding s.held j → p ≡ lowest jobs (gather jobs (λ i. tally (eqb (entry s.order i) j))) → order ≡ moved_up p s.order
    → named ≡ strike databases j s.named → asked ≡ strike databases j s.asked → released ≡ strike databases j s.released → confirmed ≡ strike databases j s.confirmed
    → rows ≡ strike steps j s.dependencies → dependencies ≡ unled j rows
    → record {
      tickets = set s.tickets j 0;
      held = held;
      order = order;
      named = named;
      asked = asked;
      released = released;
      confirmed = confirmed;
      dependencies = dependencies;
      maker = s.maker;
    } ≡ removed s w
unfolding removed place opened
removed_made s j w e held p order named asked released confirmed rows dependencies h q o n a r c k d =
    rw (← e) (λ i. record {
      tickets = set s.tickets j 0;
      held = h i;
      order = (o ∙ ap (λ (x : ℕ). moved_up x s.order) q) i;
      named = n i;
      asked = a i;
      released = r i;
      confirmed = c i;
      dependencies = (d ∙ ap (unled j) k) i;
      maker = s.maker;
    })
