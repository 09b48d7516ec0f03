-- All that is promised holds. Assumes nothing.
use Prim.Native.Nat.{ℕ, ◌^◌, ◌<◌}
use mathlib.Core.Bool.{true}
use mathlib.Core.List.{List}
use mathlib.Core.Path.{◌≡◌, refl}
use Rattle.rings.proofs.Progress.{promise}
use Rattle.coordinator.specs.declared.Coordinator.{Coordinator}
use Rattle.coordinator.specs.Shape.{Shape}
use Rattle.coordinator.specs.Sound.{Sound}
use Rattle.coordinator.specs.Test.{sound}
use Rattle.coordinator.specs.Call.{Call, open_job, ask_step, confirm_step, close_job}
use Rattle.effects.proofs.Fresh.{fresh_view}
use Rattle.decision.proofs.Decides.{sound_iff}
use Rattle.soundness.specs.Kept.{MaskFits}
use Rattle.soundness.proofs.Accepted.{open_accepted, confirm_accepted, close_accepted}
use Rattle.soundness.proofs.Calls.{play_sound}
use Rattle.soundness.proofs.Every.{test_stays}
use Rattle.soundness.proofs.Fresh.{fresh_sound}
use Rattle.soundness.proofs.Room.{closed_went, room_after_close}
use Rattle.promises.specs.Moment.{Fits, AllFit, begin, after}
use Rattle.promises.specs.Tied.{history}
use Rattle.promises.specs.Everywhere.{Soundness, Calls}
use Rattle.promises.specs.Promises.{AfterAll, Promises}
use Rattle.promises.proofs.History.{invariant}
use Rattle.promises.proofs.Cycles.{no_cycle_of_slots}
use Rattle.promises.proofs.Answers.{refusals}
use Rattle.promises.proofs.Searches.{opened}
use Rattle.promises.proofs.Sheet.{job_sheet}
use Rattle.promises.proofs.Determined.{determined}
use Rattle.promises.proofs.Others.{holds_others}

mask_fits : (c : Call) → Fits c → MaskFits c
mask_fits (open_job mask) h = h
mask_fits (ask_step t k) h = tt
mask_fits (confirm_step t k) h = tt
mask_fits (close_job t) h = tt

soundness : Soundness
soundness = record {
  test = sound_iff;
  kept = λ s c S fits X. play_sound s c (mask_fits c fits) S X;
  stays = λ s c S fits. (test_stays s S c (mask_fits c fits)).1;
  start = λ n h. ((fresh_sound n h).1, (fresh_view n h).is_open, refl);
}

-- what passed the test is sound
tested : (s : Coordinator) → Shape s → sound s ≡ true → Sound s
tested s S e = (sound_iff s S).0 e

calls : Calls
calls = record {
  opening = λ s mask S fits e. opened s mask S (tested s S (open_accepted s S mask e).tested) fits e;
  holds_others = λ s t k S e. holds_others s t k S (tested s S (confirm_accepted s t k e).tested) e;
  room_again = λ s t mask c S e. room_after_close s S (tested s S (close_accepted s S t (closed_went s t c e).0).tested) t mask c e;
}

after_all : (n : ℕ) → n < 2 ^ 16 → (calls : List Call) → AllFit calls → AfterAll n calls
after_all n h calls fit =
    let I = invariant n h calls fit in
    let P = promise (history (after (begin n) calls).told I.dep) I.kept in
    record {
      no_ring = P.no_ring;
      no_return = P.irreflexive;
      all_confirmed = P.all_confirmed;
      none_open = P.none_open;
      no_cycle = no_cycle_of_slots (after (begin n) calls).state I.shape I.tied I.kept.ordered.walkless;
    }

pub promises : Promises
promises = record { refusals = refusals; soundness = soundness; calls = calls; job_sheet = job_sheet; determined = determined; histories = after_all }
