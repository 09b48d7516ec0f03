-- The invariant holds after every history. Assumes nothing.
use Prim.Native.Nat.{ℕ, ◌^◌, ◌<◌}
use native.Mathlib.Nat.{not-suc-le-zero}
use mathlib.Core.List.{List, [], ◌∷◌}
use mathlib.Core.Path.{refl}
use Rattle.loops.proofs.Tests.{both}
use Rattle.rings.proofs.Calls.{fresh_kept}
use Rattle.coordinator.specs.Call.{Call, open_job, ask_step, confirm_step, close_job}
use Rattle.effects.specs.Effect.{nothing_open}
use Rattle.effects.proofs.Fresh.{fresh_view}
use Rattle.soundness.proofs.Fresh.{fresh_sound}
use Rattle.promises.specs.Told.{nothing}
use Rattle.promises.specs.Moment.{Moment, Fits, AllFit, begin, next, after}
use Rattle.promises.specs.Tied.{Tied}
use Rattle.promises.specs.Invariant.{Invariant}
use Rattle.promises.proofs.Same.{tied_alike}
use Rattle.promises.proofs.Opening.{open_next}
use Rattle.promises.proofs.Asking.{ask_next}
use Rattle.promises.proofs.Confirming.{confirm_next}
use Rattle.promises.proofs.Closing.{close_next}

-- nothing is open, so nothing has to be tied
nothing_tied : (n : ℕ) → Tied nothing (λ k a b. ⊥) (λ i. 0) (nothing_open n)
nothing_tied n = record {
  inside = λ i o. both o refl;
  sits = λ i o. both o refl;
  apart = λ i j o p e. both o refl;
  seat = λ a o. absurd (not-suc-le-zero o.0);
  means = λ i o. both o refl;
  names = λ i k o. both o refl;
  asked = λ i k o. both o refl;
  released = λ i k o. both o refl;
  confirmed = λ i k o. both o refl;
  held = λ i o. both o refl;
  dep = λ k i j o p. both o refl;
  rising = λ i k h l. absurd (not-suc-le-zero l);
}

begun : (n : ℕ) → n < 2 ^ 16 → Invariant (begin n)
begun n h = record {
  dep = λ k a b. ⊥;
  job = λ i. 0;
  kept = fresh_kept;
  tied = tied_alike (fresh_view n h) (nothing_tied n);
  shape = (fresh_sound n h).0;
  sound = (fresh_sound n h).1;
}

next_keeps : (m : Moment) (c : Call) → Fits c → Invariant m → Invariant (next m c)
next_keeps m (open_job mask) h I = open_next m I mask h
next_keeps m (ask_step t k) h I = ask_next m I t k
next_keeps m (confirm_step t k) h I = confirm_next m I t k
next_keeps m (close_job t) h I = close_next m I t

after_keeps : (m : Moment) (calls : List Call) → AllFit calls → Invariant m → Invariant (after m calls)
unfolding after
after_keeps m [] h I = I
after_keeps m (c ∷ calls) h I = after_keeps (next m c) calls h.1 (next_keeps m c h.0 I)

pub invariant : (n : ℕ) → n < 2 ^ 16 → (calls : List Call) → AllFit calls → Invariant (after (begin n) calls)
invariant n h calls fit = after_keeps (begin n) calls fit (begun n h)
