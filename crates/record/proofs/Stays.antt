-- A record leaves a state as sound as it was: one test serves many records. Assumes nothing.
use Prim.Native.Nat.{ℕ, ◌^◌, ◌<◌}
use mathlib.Core.Bool.{Bool}
use Rattle.std.specs.Prelude.{Option, None, Some, Result, Ok, Err}
use mathlib.Core.Path.{◌≡◌, refl, sym, ap, subst, ◌∙◌}
use Rattle.coordinator.specs.declared.Coordinator.{Coordinator}
use Rattle.coordinator.specs.Shape.{Shape}
use Rattle.coordinator.specs.Test.{sound}
use Rattle.coordinator.specs.Call.{Call}
use Rattle.soundness.specs.Kept.{MaskFits}
use Rattle.soundness.proofs.Every.{test_stays}
use Rattle.record.specs.declared.request.Request.{Request}
use Rattle.record.specs.declared.request.UnknownKind.{UnknownKind}
use Rattle.record.specs.Request.{requested}
use Rattle.record.specs.Answer.{answer}

abbrev Fits : Option Call → Type 0
Fits None = Unit {0}
Fits (Some c) = MaskFits c

-- the mask's type says how long it is
request_fits : (asked : Result Request UnknownKind) → ((mask : ℕ) → asked ≡ Ok (Request.Open mask) → mask < 2 ^ 16) → Fits (requested asked)
request_fits (Err e) h = tt
request_fits (Ok (Request.Open mask)) h = h mask refl
request_fits (Ok (Request.Ask t k)) h = tt
request_fits (Ok (Request.Confirm t k)) h = tt
request_fits (Ok (Request.Close t)) h = tt

left_stays : (s : Coordinator) → Shape s → (o : Option Call) → Fits o → Shape (answer s o).state × (sound (answer s o).state ≡ sound s)
unfolding answer
left_stays s h None fits = (h, refl)
left_stays s h (Some c) fits = test_stays s h c fits

-- b is what the test says of s, and then of the state left
pub record Known (b : Bool) (s : Coordinator) : Type 0 where
  pub is_told : b ≡ sound s
  pub has_shape : Shape s

pub known_next : (b : Bool) (s r : Coordinator) (asked : Result Request UnknownKind) → ((mask : ℕ) → asked ≡ Ok (Request.Open mask) → mask < 2 ^ 16) → b ≡ sound s → Shape s
    → r ≡ (answer s (requested asked)).state → Known b r
known_next b s r asked l e h p =
    let k = left_stays s h (requested asked) (request_fits asked l) in
    record { is_told = e ∙ sym k.1 ∙ ap sound (sym p); has_shape = subst Shape (sym p) k.0 }
