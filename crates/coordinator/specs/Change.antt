-- The small changes of the tables, of which the calls are made. Assumes nothing: these are definitions.
use Rattle.std.specs.Prelude.{ℕ, ◌+◌, ◌*◌, ◌^◌, not, List, eqb, ltb, set}
use Rattle.std.specs.Int.Bits.{bit_or}
use Rattle.loops.specs.Loop.{over}
use Rattle.loops.specs.Sum.{tally}
use Rattle.loops.specs.Table.{table}
use Rattle.mask.specs.Member.{including, excluding, lowest}
use Rattle.mask.specs.Members.{over_members, gather}
use Rattle.coordinator.specs.declared.Coordinator.{Coordinator}
use Rattle.coordinator.specs.Limits.{jobs, databases, steps}
use Rattle.coordinator.specs.Views.{entry, open_count, opened}

-- slot j joins the set at database k
unfoldable pub mark : List ℕ → ℕ → ℕ → List ℕ
mark l k j = set l k (including (entry l k) j)

unfoldable pub mark_asked : Coordinator → ℕ → ℕ → Coordinator
mark_asked s j k = record {
  tickets = s.tickets;
  held = s.held;
  order = s.order;
  named = s.named;
  asked = mark s.asked k j;
  released = s.released;
  confirmed = s.confirmed;
  dependencies = s.dependencies;
  maker = s.maker;
}

unfoldable pub mark_released : Coordinator → ℕ → ℕ → Coordinator
mark_released s j k = record {
  tickets = s.tickets;
  held = s.held;
  order = s.order;
  named = s.named;
  asked = s.asked;
  released = mark s.released k j;
  confirmed = s.confirmed;
  dependencies = s.dependencies;
  maker = s.maker;
}

unfoldable pub mark_confirmed : Coordinator → ℕ → ℕ → Coordinator
mark_confirmed s j k = record {
  tickets = s.tickets;
  held = s.held;
  order = s.order;
  named = s.named;
  asked = s.asked;
  released = s.released;
  confirmed = mark s.confirmed k j;
  dependencies = s.dependencies;
  maker = s.maker;
}

unfoldable pub mark_held : Coordinator → ℕ → Coordinator
mark_held s j = record {
  tickets = s.tickets;
  held = including s.held j;
  order = s.order;
  named = s.named;
  asked = s.asked;
  released = s.released;
  confirmed = s.confirmed;
  dependencies = s.dependencies;
  maker = s.maker;
}

unfoldable pub with_dependencies : Coordinator → List ℕ → Coordinator
with_dependencies s d = record {
  tickets = s.tickets;
  held = s.held;
  order = s.order;
  named = s.named;
  asked = s.asked;
  released = s.released;
  confirmed = s.confirmed;
  dependencies = d;
  maker = s.maker;
}

-- at database k, each of the set m goes before b; and a before each of the set m
unfoldable pub lead : ℕ → ℕ → ℕ → List ℕ → List ℕ
lead k m b d = set d (k * jobs + b) (bit_or (entry d (k * jobs + b)) m)

unfoldable pub lead_to : ℕ → ℕ → ℕ → List ℕ → List ℕ
lead_to k a m d = over_members jobs m (λ b. lead k (2 ^ a) b) d

-- the job in slot n takes its place: ticket t, mask m, last in the opening order
unfoldable pub taken : Coordinator → ℕ → ℕ → ℕ → ℕ → Coordinator
taken s n m t next = record {
  tickets = set s.tickets n t;
  held = s.held;
  order = set s.order (open_count s) n;
  named = over_members databases m (λ k l. mark l k n) s.named;
  asked = s.asked;
  released = s.released;
  confirmed = s.confirmed;
  dependencies = s.dependencies;
  maker = record { next = next };
}

-- slot j leaves each of the first n sets
unfoldable pub strike : ℕ → ℕ → List ℕ → List ℕ
strike n j l = over n (λ i r. set r i (excluding (entry r i) j)) l

-- where slot j stands in the opening order
unfoldable pub place : Coordinator → ℕ → ℕ
place s j = lowest jobs (gather jobs (λ i. tally (eqb (opened s i) j)))

-- the places after p move up by one, and the last becomes zero
unfoldable pub moved_up : ℕ → List ℕ → List ℕ
moved_up p l = table jobs (λ i. entry l (i + tally (not (ltb i p))))

-- nobody goes before slot j
unfoldable pub unled : ℕ → List ℕ → List ℕ
unled j d = over databases (λ k r. set r (k * jobs + j) 0) d

-- the job in slot j goes with all its dependencies
unfoldable pub removed : Coordinator → ℕ → Coordinator
removed s j = record {
  tickets = set s.tickets j 0;
  held = excluding s.held j;
  order = moved_up (place s j) s.order;
  named = strike databases j s.named;
  asked = strike databases j s.asked;
  released = strike databases j s.released;
  confirmed = strike databases j s.confirmed;
  dependencies = unled j (strike steps j s.dependencies);
  maker = s.maker;
}
