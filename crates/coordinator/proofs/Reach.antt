-- What is read at a number that may lie beyond the last database or slot. Assumes nothing.
use Prim.Native.Nat.{ℕ, ◌<◌, ◌≤◌}
use native.Mathlib.Omega.{arith}
use mathlib.Core.Bool.{Bool, true, false}
use mathlib.Core.List.{List}
use mathlib.Core.Path.{◌≡◌, refl, sym}
use borrow.Author.Tests.{lt-ltb, le-ltb, ltb-true, ltb-false}
use lib.Dec.{ltb}
use lib.ListN.{length, get_or-eq_default}
use Rattle.coordinator.specs.Limits.{jobs, databases}
use Rattle.coordinator.specs.Views.{entry}
use Rattle.coordinator.specs.Tables.{set_at, ticket_at}

pub set_below : (sets : List ℕ) (k : ℕ) → k < databases → entry sets k ≡ set_at sets k
unfolding set_at
set_below sets k l = rw (set_at, lt-ltb k databases l)

pub set_beyond : (sets : List ℕ) (k : ℕ) → databases ≤ k → 0 ≡ set_at sets k
unfolding set_at
set_beyond sets k l = rw (set_at, le-ltb k databases l)

pub ticket_below : (tickets : List ℕ) (j : ℕ) → j < jobs → entry tickets j ≡ ticket_at tickets j
unfolding ticket_at
ticket_below tickets j l = rw (ticket_at, lt-ltb j jobs l)

pub ticket_beyond : (tickets : List ℕ) (j : ℕ) → jobs ≤ j → 0 ≡ ticket_at tickets j
unfolding ticket_at
ticket_beyond tickets j l = rw (ticket_at, le-ltb j jobs l)

-- of a table with a set for each database, or a ticket for each slot
pub set_there : (sets : List ℕ) → length sets ≡ databases → (k : ℕ) → set_at sets k ≡ entry sets k
set_there sets sized k = by (ltb k databases) refl
  where
    by : (b : Bool) → ltb k databases ≡ b → set_at sets k ≡ entry sets k
    by true e = sym (set_below sets k (ltb-true k databases e))
    by false e =
        let l : databases ≤ k = ltb-false k databases e in
        rw (← set_beyond sets k l) (sym (get_or-eq_default sets 0 (omega (arith, sized))))

pub ticket_there : (tickets : List ℕ) → length tickets ≡ jobs → (j : ℕ) → ticket_at tickets j ≡ entry tickets j
ticket_there tickets sized j = by (ltb j jobs) refl
  where
    by : (b : Bool) → ltb j jobs ≡ b → ticket_at tickets j ≡ entry tickets j
    by true e = sym (ticket_below tickets j (ltb-true j jobs e))
    by false e =
        let l : jobs ≤ j = ltb-false j jobs e in
        rw (← ticket_beyond tickets j l) (sym (get_or-eq_default tickets 0 (omega (arith, sized))))
