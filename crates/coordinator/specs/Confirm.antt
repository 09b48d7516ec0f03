-- Confirming a step. Assumes nothing: these are definitions.
use Rattle.std.specs.Prelude.{ℕ, Bool, true, false, eqb, Option, None, Some, Ok, Err}
use Rattle.coordinator.specs.declared.Coordinator.{Coordinator}
use Rattle.coordinator.specs.Views.{ticket}
use Rattle.coordinator.specs.Holder.{holder}
use Rattle.coordinator.specs.Refusal.{confirm_refusal, confirm_refusal_tested}
use Rattle.coordinator.specs.Change.{mark_confirmed}
use Rattle.coordinator.specs.Release.{release, may_go_at, first_of}
use Rattle.coordinator.specs.declared.answers.After.{After}
use Rattle.numbers.specs.declared.Ticket.{Ticket}
use Rattle.refusals.specs.declared.refusal.Refusal.{Refusal}

-- release the step of slot j at database k, and say whose it is
unfoldable pub released_one : Coordinator → ℕ → ℕ → After (Option Ticket)
released_one s j k = record { answer = Ok (Some (record { 0 = ticket s j })); state = release s j k }

-- mark the step confirmed; then, among asked and unreleased steps at that database that may go, release the first
unfoldable pub confirmed_at : Coordinator → ℕ → ℕ → After (Option Ticket)
confirmed_at s j k =
    let t : Coordinator = mark_confirmed s j k in
    elim (eqb (may_go_at t k) 0) [
      | true ↦ record { answer = Ok None; state = t }
      | false ↦ released_one t (first_of t (may_go_at t k)) k
    ]

-- refused, or done
abbrev pub confirm_answered : Option Refusal → Coordinator → ℕ → ℕ → After (Option Ticket)
confirm_answered refusal s t k = elim refusal [ None ↦ confirmed_at s (holder s t) k | Some r ↦ record { answer = Err r; state = s } ]

unfoldable pub after_confirm : Coordinator → ℕ → ℕ → After (Option Ticket)
after_confirm s t k = confirm_answered (confirm_refusal s t k) s t k

-- the same, given whether the state is sound
unfoldable pub after_confirm_tested : Bool → Coordinator → ℕ → ℕ → After (Option Ticket)
after_confirm_tested is_sound s t k = confirm_answered (confirm_refusal_tested is_sound s t k) s t k
