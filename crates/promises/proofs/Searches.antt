-- What an accepted opening answers and leaves: its ticket, what its search adds, its moves. Assumes nothing.
use Prim.Native.Nat.{ℕ, ◌+◌, ◌*◌, ◌^◌, ◌<◌, ◌≤◌}
use mathlib.Core.Bool.{Bool, true, ◌&&◌, ◌||◌}
use mathlib.Core.Logic.{◌↔◌, ◌⊎◌, inl, inr}
use mathlib.Core.List.{[]}
use Rattle.std.specs.Prelude.{None}
use mathlib.Core.Path.{◌≡◌, refl, sym, ap, ◌∙◌, subst}
use borrow.Author.Tests.{eqb-true, eq-eqb}
use lib.Dec.{eqb}
use Rattle.loops.proofs.Tests.{and_left, and_right, or_cases, or_right}
use Rattle.mask.specs.Member.{holds}
use Rattle.walks.specs.Walk.{WalkEnd, named}
use Rattle.walks.specs.Marks.{count}
use Rattle.walks.specs.Rows.{rows}
use Rattle.walks.specs.Search.{Seek}
use Rattle.walks.specs.Machine.{machine}
use Rattle.walks.proofs.Opening.{found_iff, added_is, opening_machine, moves_are, moves_most, moves_limit}
use Rattle.numbers.specs.Ticket.{after}
use Rattle.coordinator.specs.declared.Coordinator.{Coordinator}
use Rattle.coordinator.specs.Limits.{jobs, databases}
use Rattle.coordinator.specs.Views.{entry, dep}
use Rattle.coordinator.specs.Shape.{Shape}
use Rattle.coordinator.specs.Sound.{Sound}
use Rattle.coordinator.specs.Refusal.{open_refusal}
use Rattle.coordinator.specs.Bound.{most_moves}
use Rattle.coordinator.specs.Change.{with_dependencies, taken}
use Rattle.coordinator.specs.Open.{free_slot, ticket_for, entered, graph, searched, with_found, added, accepted}
use Rattle.coordinator.specs.Answer.{open_values}
use Rattle.coordinator.specs.Call.{open_job, Played, play}
use Rattle.coordinator.specs.declared.answers.After.{After}
use Rattle.effects.proofs.Holder.{free_slot_lem}
use Rattle.soundness.specs.GivenOut.{GivenOut}
use Rattle.soundness.proofs.GivenOut.{ticket_given}
use Rattle.soundness.proofs.Accepted.{open_accepted}
use Rattle.soundness.proofs.Arms.{open_taken}
use Rattle.soundness.proofs.Open.{opened_sound}
use Rattle.soundness.proofs.Free.{free_names}
use Rattle.promises.specs.Everywhere.{Opened}
use Rattle.promises.proofs.Foreseen.{foreseen}

module _ (s : Coordinator) (mask : ℕ) (S : Shape s) (X : Sound s) (fits : mask < 2 ^ 16) (e : open_refusal s mask ≡ None) where
  abbrev n : ℕ
  n = free_slot s

  abbrev u : Coordinator
  u = entered s n mask

  abbrev sought : Seek (rows jobs databases)
  sought = searched u n

  played : play s (open_job mask)
      ≡ record { values = record { refusal = 0; ticket = ticket_for s; added = added sought.found; moves = sought.moves; released = 0; closed = 0; tickets = [] }; state = with_found u n sought.found }
  unfolding play accepted
  played = ap (λ (a : After _). record { values = open_values a.answer; state = a.state }) (open_taken s mask e)

  inside : n < jobs
  inside = (free_slot_lem s S (open_accepted s S mask e).room).0

  finds : (v d : ℕ) → (holds (entry sought.found d) v ≡ true) ↔ WalkEnd (graph u n) v d
  unfolding searched
  finds v d = found_iff (graph u n) inside v d

  -- the dependencies after the search, by those before it and by what it found
  adds : (d v w : ℕ) → w < jobs → (dep (with_found u n sought.found) d v w ≡ true) ↔ ((dep u d v w ≡ true) ⊎ ((w ≡ n) × WalkEnd (graph u n) v d))
  adds d v w h = (λ x. to (or_cases (eqb w n && holds (entry sought.found d) v) (dep u d v w) (sym there ∙ x)), from)
    where
      there : dep (with_found u n sought.found) d v w ≡ eqb w n && holds (entry sought.found d) v || dep u d v w
      there = (opened_sound s S X mask fits (open_accepted s S mask e).some (open_accepted s S mask e).room).1.shows.dep d v w h ∙ ap (λ (b : Bool). eqb w n && holds (entry sought.found d) v || b) (sym ((opened_sound s S X mask fits (open_accepted s S mask e).some (open_accepted s S mask e).room).0.shows.dep d v w h))

      to : (eqb w n && holds (entry sought.found d) v ≡ true) ⊎ (dep u d v w ≡ true) → (dep u d v w ≡ true) ⊎ ((w ≡ n) × WalkEnd (graph u n) v d)
      to (inl x) = inr (eqb-true w n (and_left (eqb w n) (holds (entry sought.found d) v) x), (finds v d).0 (and_right (eqb w n) (holds (entry sought.found d) v) x))
      to (inr x) = inl x

      from : (dep u d v w ≡ true) ⊎ ((w ≡ n) × WalkEnd (graph u n) v d) → dep (with_found u n sought.found) d v w ≡ true
      from (inl x) = there ∙ or_right (eqb w n && holds (entry sought.found d) v) (dep u d v w) x
      from (inr (x, y)) = there ∙ rw (eq-eqb w n x, (finds v d).1 y)

  many : added sought.found ≡ count (rows jobs databases) sought.found
  unfolding searched added
  many = sym (added_is (graph u n) inside)

  moves_machine : (k : ℕ) → 3 * named (graph u n) ≤ k → sought.moves ≡ (machine (graph u n) (rows jobs databases) k).moves
  unfolding searched
  moves_machine k h = ap (λ (r : Seek (rows jobs databases)). r.moves) (sym (opening_machine (graph u n) inside k h))

  moves_tally : sought.moves ≡ 2 * count (rows jobs databases) sought.reached + count (rows jobs databases) sought.found
  unfolding searched
  moves_tally = moves_are (graph u n) inside

  moves_three : sought.moves ≤ 3 * named (graph u n)
  unfolding searched
  moves_three = moves_most (graph u n) inside

  moves_few : sought.moves ≤ 1488
  unfolding searched
  moves_few = moves_limit (graph u n) inside refl refl

  moves_foreseen : sought.moves ≤ most_moves s
  moves_foreseen =
      let C = (opened_sound s S X mask fits (open_accepted s S mask e).some (open_accepted s S mask e).room).0 in
      subst (λ (x : ℕ). sought.moves ≤ x) (foreseen s u n mask (free_names s S X n (free_slot_lem s S (open_accepted s S mask e).room).1) C.shows.names) moves_three

  next_candidate : (with_found u n sought.found).maker.next ≡ after (ticket_for s)
  unfolding with_found with_dependencies entered taken
  next_candidate = refl

  pub opened : Opened s mask
  opened = record {
    ticket_first = subst (λ (r : Played). GivenOut s r.values.ticket) (sym played) (ticket_given s S X);
    candidate = ap (λ (r : Played). r.state.maker.next) played ∙ next_candidate ∙ ap (λ (r : Played). after r.values.ticket) (sym played);
    found = finds;
    added = λ d v w h. subst (λ (r : Played). (dep r.state d v w ≡ true) ↔ ((dep u d v w ≡ true) ⊎ ((w ≡ n) × WalkEnd (graph u n) v d))) (sym played) (adds d v w h);
    how_many = ap (λ (r : Played). r.values.added) played ∙ many;
    moves = λ k h. ap (λ (r : Played). r.values.moves) played ∙ moves_machine k h;
    tally = ap (λ (r : Played). r.values.moves) played ∙ moves_tally;
    most = subst (λ (r : Played). r.values.moves ≤ 3 * named (graph u n)) (sym played) moves_three;
    limit = subst (λ (r : Played). r.values.moves ≤ 1488) (sym played) moves_few;
    foreseen = subst (λ (r : Played). r.values.moves ≤ most_moves s) (sym played) moves_foreseen;
  }
