-- What a free slot of a sound state shows: nothing. Assumes nothing.
use Prim.Native.Nat.{ℕ, ◌<◌}
use mathlib.Core.Bool.{false}
use mathlib.Core.Path.{◌≡◌}
use Rattle.loops.proofs.Tests.{both, untrue}
use Rattle.coordinator.specs.declared.Coordinator.{Coordinator}
use Rattle.coordinator.specs.Limits.{jobs}
use Rattle.coordinator.specs.Shape.{Shape}
use Rattle.coordinator.specs.Sound.{Sound}
use Rattle.coordinator.specs.Views.{names, asked, released, confirmed, is_open, held, dep}
use Rattle.effects.proofs.Bounds.{open_names}

module _ (s : Coordinator) (h : Shape s) (S : Sound s) (n : ℕ) (free : is_open s n ≡ false) where
  pub free_names : (k : ℕ) → names s n k ≡ false
  free_names k = untrue (names s n k) (λ e. both (open_names s h n k e) free)

  pub free_asked : (k : ℕ) → asked s n k ≡ false
  free_asked = (S.free_zeros n free).not_asked

  pub free_released : (k : ℕ) → released s n k ≡ false
  free_released = (S.free_zeros n free).not_released

  pub free_confirmed : (k : ℕ) → confirmed s n k ≡ false
  free_confirmed = (S.free_zeros n free).not_confirmed

  pub free_held : held s n ≡ false
  free_held = (S.free_zeros n free).not_held

  -- no dependency goes from it or into it
  pub free_from_lem : (k b : ℕ) → b < jobs → dep s k n b ≡ false
  free_from_lem k b l = untrue (dep s k n b) (λ e. both (S.joins k n b l e).from_open free)

  pub free_into : (k a : ℕ) → n < jobs → dep s k a n ≡ false
  free_into k a l = untrue (dep s k a n) (λ e. both (S.joins k a n l e).to_open free)
