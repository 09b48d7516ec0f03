-- A call that is refused leaves every byte of the state as it was. Assumes nothing.
use Prim.Native.Nat.{ℕ}
use Rattle.refusals.specs.declared.refusal.Refusal.{Refusal}
use mathlib.Core.Bool.{Bool, true, false}
use mathlib.Core.List.{List}
use Rattle.std.specs.Prelude.{Option, None, Some}
use mathlib.Core.Path.{◌≡◌, refl, ap, ◌∙◌}
use borrow.Author.Tests.{eq-eqb}
use lib.Dec.{eqb}
use lib.ListN.{length}
use Rattle.coordinator.specs.Shape.{Sized}
use Rattle.coordinator.specs.Call.{Call, Played}
use Rattle.soundness.specs.Refused.{refusal_of}
use Rattle.soundness.proofs.Refused.{refused_play}
use Rattle.record.specs.Answer.{answer}
use Rattle.boundary.specs.State.{state_size, encoded, decoded}
use Rattle.boundary.specs.Row.{row_size}
use Rattle.boundary.specs.Outcome.{outcome, played_one, called}
use Rattle.boundary.proofs.Coding.{bytes_back}

module _ (state answers : List ℕ) (bytes : Sized state_size 8 state) where
  same_bytes : (c : Option Call) → (answer (decoded state) c).state ≡ decoded state → (called c state answers).state ≡ state
  unfolding called outcome
  same_bytes c e = rw (called, eq-eqb (length state) state_size bytes.size) (by (eqb (length answers) row_size))
    where
      by : (b : Bool) → (outcome b (played_one c) state answers).state ≡ state
      by true = ap encoded e ∙ bytes_back state bytes
      by false = refl

  pub refused_leaves : (c : Call) (n : Refusal) → refusal_of (decoded state) c ≡ Some n → (called (Some c) state answers).state ≡ state
  unfolding answer
  refused_leaves c n e = same_bytes (Some c) (ap (λ (p : Played). p.state) (refused_play (decoded state) c n e))

  pub no_call_leaves : (called None state answers).state ≡ state
  unfolding answer
  no_call_leaves = same_bytes None refl
