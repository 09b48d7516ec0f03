-- Of every state that its type allows, damaged or not: a damaged state is refused, and the test says after a call what it said before. Assumes nothing.
use mathlib.Core.Bool.{Bool, true, false}
use Rattle.std.specs.Prelude.{Some}
use mathlib.Core.Path.{◌≡◌, refl, sym, ap, subst, ◌∙◌}
use Rattle.loops.proofs.Tests.{both, untrue}
use Rattle.refusals.specs.declared.refusal.Refusal.TheVariants.{Unsound}
use Rattle.coordinator.specs.declared.Coordinator.{Coordinator}
use Rattle.coordinator.specs.Shape.{Shape}
use Rattle.coordinator.specs.Sound.{Sound}
use Rattle.coordinator.specs.Test.{sound}
use Rattle.coordinator.specs.Refusal.{first_row, open_refusal, ask_refusal, confirm_refusal, close_refusal, job_refusal, slot_refusal, step_refusal}
use Rattle.coordinator.specs.Call.{Call, open_job, ask_step, confirm_step, close_job, Played, play}
use Rattle.decision.proofs.Decides.{sound_iff}
use Rattle.soundness.specs.Kept.{MaskFits}
use Rattle.soundness.specs.Refused.{refusal_of}
use Rattle.soundness.proofs.Calls.{play_sound}
use Rattle.soundness.proofs.Refused.{refused_play}

module _ (s : Coordinator) (h : Shape s) where
  pub damaged_refused : ¬ Sound s → (c : Call) → refusal_of s c ≡ Some Unsound
  unfolding refusal_of open_refusal ask_refusal confirm_refusal close_refusal first_row slot_refusal step_refusal job_refusal
  damaged_refused damaged c = refuses c (untrue (sound s) (λ e. damaged ((sound_iff s h).0 e)))
    where
      refuses : (c : Call) → sound s ≡ false → refusal_of s c ≡ Some Unsound
      refuses (open_job mask) e = rw (refusal_of, open_refusal, first_row, e)
      refuses (ask_step t k) e = rw (refusal_of, ask_refusal, first_row, e)
      refuses (confirm_step t k) e = rw (refusal_of, confirm_refusal, first_row, e)
      refuses (close_job t) e = rw (refusal_of, close_refusal, first_row, e)

  -- so that calls one after another need one test
  pub test_stays : (c : Call) → MaskFits c → Shape (play s c).state × (sound (play s c).state ≡ sound s)
  test_stays c fits = by (sound s) refl
    where
      by : (b : Bool) → sound s ≡ b → Shape (play s c).state × (sound (play s c).state ≡ sound s)
      by true e =
          let k = play_sound s c fits h ((sound_iff s h).0 e) in
          (k.0, (sound_iff (play s c).state k.0).1 k.1 ∙ sym e)
      by false e =
          let r : (play s c).state ≡ s = ap (λ (p : Played). p.state) (refused_play s c Unsound (damaged_refused (λ S. both ((sound_iff s h).1 S) e) c)) in
          (subst Shape (sym r) h, ap sound r)
