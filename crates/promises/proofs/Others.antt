-- The release of a confirm holds the others. Assumes nothing.
use Prim.Native.Nat.{ℕ}
use native.Mathlib.Omega.{arith}
use mathlib.Core.Bool.{Bool, true, false}
use Rattle.std.specs.Prelude.{Option, None}
use mathlib.Core.Path.{◌≡◌, refl, sym, subst}
use borrow.Author.Tests.{eqb-false}
use lib.Dec.{eqb}
use Rattle.numbers.specs.declared.Ticket.{Ticket}
use Rattle.coordinator.specs.declared.Coordinator.{Coordinator}
use Rattle.coordinator.specs.Shape.{Shape}
use Rattle.coordinator.specs.Sound.{Sound}
use Rattle.coordinator.specs.Holder.{holder}
use Rattle.coordinator.specs.Change.{mark_confirmed}
use Rattle.coordinator.specs.Release.{may_go_at, first_of}
use Rattle.coordinator.specs.Refusal.{confirm_refusal}
use Rattle.coordinator.specs.Confirm.{released_one, confirmed_at}
use Rattle.coordinator.specs.Answer.{confirm_values}
use Rattle.coordinator.specs.Call.{confirm_step, Played, play}
use Rattle.coordinator.specs.declared.answers.After.{After}
use Rattle.effects.proofs.Tests.{first_to_go}
use Rattle.soundness.proofs.Marks.{confirmed_sound}
use Rattle.soundness.proofs.Accepted.{confirm_accepted}
use Rattle.soundness.proofs.Arms.{confirm_taken, confirm_none, confirm_one}
use Rattle.soundness.proofs.Holds.{release_holds}

module _ (s : Coordinator) (t k : ℕ) (S : Shape s) (X : Sound s) (e : confirm_refusal s t k ≡ None) where
  abbrev j : ℕ
  j = holder s t

  abbrev c : Coordinator
  c = mark_confirmed s j k

  abbrev f : ℕ
  f = first_of c (may_go_at c k)

  abbrev left : After (Option Ticket) → Played
  left r = record { values = confirm_values r.answer; state = r.state }

  abbrev pub Settled : Played → Type 0
  Settled r = r.values.released ≡ 1 → may_go_at r.state k ≡ 0

  one : ¬ (may_go_at c k ≡ 0) → Settled (left (released_one c f k))
  unfolding released_one
  one ne r =
      let A = confirm_accepted s t k e in
      let C = confirmed_sound s S X j k A.holder_of.slot A.database A.is_released in
      let F = first_to_go c k ne in
      release_holds c C.shape C.sound f k F.slot A.database F.asks F.unreleased

  by_arm : (b : Bool) → eqb (may_go_at c k) 0 ≡ b → Settled (left (confirmed_at s j k))
  by_arm true g = subst (λ (a : After (Option Ticket)). Settled (left a)) (sym (confirm_none s j k g)) (λ r. absurd (omega arith))
  by_arm false g = subst (λ (a : After (Option Ticket)). Settled (left a)) (sym (confirm_one s j k g)) (one (eqb-false (may_go_at c k) 0 g))

  pub holds_others : Settled (play s (confirm_step t k))
  unfolding play
  holds_others = subst (λ (a : After (Option Ticket)). Settled (left a)) (sym (confirm_taken s t k e)) (by_arm (eqb (may_go_at c k) 0) refl)
