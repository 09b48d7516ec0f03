-- The tickets of an answer, and zeros after them. Assumes nothing.
use Prim.Native.Nat.{ℕ, zero, suc, ◌≤◌}
use mathlib.Core.Path.{◌≡◌, refl, sym, ◌∙◌}
use mathlib.Core.Bool.{Bool, true, false}
use mathlib.Core.List.{List, [], ◌∷◌}
use Rattle.std.specs.Prelude.{Option, None, Some, Result, Err}
use native.Mathlib.Omega.{arith}
use lib.Dec.{eqb}
use lib.ListN.{get_or, take, replicate}
use lib.Seq.{get_or-set_other}
use Rattle.coordinator.specs.declared.Coordinator.{Coordinator}
use Rattle.coordinator.specs.Limits.{jobs}
use Rattle.coordinator.specs.Views.{ticket}
use Rattle.coordinator.specs.Holder.{holder}
use Rattle.coordinator.specs.Refusal.{close_refusal_tested}
use Rattle.coordinator.specs.Release.{may_close, may_close_now, first_of}
use Rattle.coordinator.specs.Answer.{close_values}
use Rattle.coordinator.specs.Close.{Closing, close_one, close_held, closing, closed_at, after_close_tested}
use Rattle.coordinator.specs.declared.answers.After.{After}
use Rattle.coordinator.specs.declared.answers.Closed.{Closed as Declared}
use Rattle.refusals.specs.declared.refusal.Refusal.{Refusal}
use Rattle.record.specs.Row.{tickets_of}

-- no tickets, and an array of zeros
pub none_there : (n i : ℕ) → ◌≡◌ {A = ℕ} (get_or [] i 0) (get_or (replicate n 0) i 0)
none_there zero i = refl
none_there (suc n) zero = refl
none_there (suc n) (suc i) = none_there n i

-- zeros from index n on
abbrev Blank : ℕ → List ℕ → Type 0
Blank n l = (i : ℕ) → n ≤ i → get_or l i 0 ≡ 0

front : (n : ℕ) (l : List ℕ) → Blank n l → (i : ℕ) → get_or (take n l) i 0 ≡ get_or l i 0
front zero l h i = sym (h i (omega arith))
front (suc n) [] h i = refl
front (suc n) (x ∷ l) h zero = refl
front (suc n) (x ∷ l) h (suc i) = front n l (λ j m. h (suc j) (omega arith)) i

either : {S : Type 0} (P : S → Type 0) (b : Bool) (x y : S) → P x → P y → P (elim b [ true ↦ x | false ↦ y ])
either P true x y p q = p
either P false x y p q = q

abbrev Closed : Closing → Type 0
Closed c = Blank c.count c.tickets

one_closed : (c : Closing) (j : ℕ) → Closed c → Closed (close_one c j)
unfolding close_one
one_closed c j h i m = get_or-set_other c.tickets c.count i (ticket c.state j) 0 (omega arith) ∙ h i (omega arith)

held_closed : (left : ℕ) (c : Closing) → Closed c → Closed (close_held left c)
unfolding close_held
held_closed zero c h = h
held_closed (suc left) c h =
    either Closed (eqb (may_close_now c.state) 0) c _ h (held_closed left (close_one c (first_of c.state (may_close_now c.state))) (one_closed c (first_of c.state (may_close_now c.state)) h))

all_closed : (s : Coordinator) (j : ℕ) → Closed (closing s j)
unfolding closing
all_closed s j = held_closed jobs _ (one_closed (record { count = 0; tickets = replicate jobs 0; state = s }) j (λ i m. sym (none_there jobs i)))

-- the tickets of a close's answer are those that it tells, and zeros
abbrev pub Told : Result (Option Declared) Refusal → Type 0
Told a = (i : ℕ) → get_or (close_values a).tickets i 0 ≡ get_or (tickets_of a) i 0

closed_told : (s : Coordinator) (j : ℕ) → Told (closed_at s j).answer
unfolding closed_at
closed_told s j = either (λ (r : After (Option Declared)). Told r.answer) (may_close s j) _ _ (front (closing s j).count (closing s j).tickets (all_closed s j)) (none_there jobs)

refused_told : (s : Coordinator) (o : Option Refusal) (r : After (Option Declared)) → Told r.answer → let x : After (Option Declared) = elim o [ None ↦ r | Some n ↦ record { answer = Err n; state = s } ] in Told x.answer
refused_told s None r h = h
refused_told s (Some n) r h = none_there jobs

pub close_told : (b : Bool) (s : Coordinator) (t : ℕ) → Told (after_close_tested b s t).answer
unfolding after_close_tested
close_told b s t = refused_told s (close_refusal_tested b s t) (closed_at s (holder s t)) (closed_told s (holder s t))
