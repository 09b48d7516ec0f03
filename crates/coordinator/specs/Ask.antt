-- Asking for a step. Assumes nothing: these are definitions.
use Rattle.std.specs.Prelude.{ℕ, Bool, true, false, Option, None, Some, Ok, Err}
use Rattle.coordinator.specs.declared.Coordinator.{Coordinator}
use Rattle.coordinator.specs.Holder.{holder}
use Rattle.coordinator.specs.Refusal.{ask_refusal, ask_refusal_tested}
use Rattle.coordinator.specs.Change.{mark_asked}
use Rattle.coordinator.specs.Release.{may_go, release}
use Rattle.coordinator.specs.declared.answers.After.{After}
use Rattle.coordinator.specs.declared.answers.Asked.{Asked}
use Rattle.refusals.specs.declared.refusal.Refusal.{Refusal}

-- mark the step asked; if it may go, release it
unfoldable pub asked_for : Coordinator → ℕ → ℕ → After Asked
asked_for s j k =
    let t : Coordinator = mark_asked s j k in
    elim (may_go t j k) [
      | true ↦ record { answer = Ok Asked.Released; state = release t j k }
      | false ↦ record { answer = Ok Asked.Held; state = t }
    ]

-- refused, or done
abbrev pub ask_answered : Option Refusal → Coordinator → ℕ → ℕ → After Asked
ask_answered refusal s t k = elim refusal [ None ↦ asked_for s (holder s t) k | Some r ↦ record { answer = Err r; state = s } ]

unfoldable pub after_ask : Coordinator → ℕ → ℕ → After Asked
after_ask s t k = ask_answered (ask_refusal s t k) s t k

-- the same, given whether the state is sound
unfoldable pub after_ask_tested : Bool → Coordinator → ℕ → ℕ → After Asked
after_ask_tested is_sound s t k = ask_answered (ask_refusal_tested is_sound s t k) s t k
