-- The fresh start is sound. Assumes nothing.
use Prim.Native.Nat.{ℕ, ◌^◌, ◌<◌}
use native.Mathlib.Nat.{not-suc-le-zero}
use mathlib.Core.Path.{refl}
use Rattle.loops.proofs.Tests.{both}
use Rattle.coordinator.specs.Fresh.{fresh}
use Rattle.coordinator.specs.Shape.{Shape}
use Rattle.coordinator.specs.Sound.{Sound}
use Rattle.effects.specs.Effect.{nothing_open}
use Rattle.effects.proofs.Fresh.{shape_fresh, fresh_view}
use Rattle.soundness.specs.SoundView.{SoundView}
use Rattle.soundness.proofs.Seen.{changed}

nothing_sound : (n : ℕ) → SoundView (nothing_open n)
nothing_sound n = record {
  tickets_differ = λ a b e f q. both e refl;
  masks_nonzero = λ j e. both e refl;
  confirmed_released = λ j k e. e;
  released_asked = λ j k e. e;
  asked_named = λ j k e. e;
  ordered = record {
    only = λ i l. absurd (not-suc-le-zero l);
    once = λ i k l. absurd (not-suc-le-zero l);
    each = λ j e. both e refl;
    end = λ i l. refl;
  };
  joins = λ k a b l e. both e refl;
  under_way = λ k a b e c d o n w. e;
  held_confirmed = λ j k e n. e;
  free_zeros = λ j e. record {
    no_ticket = refl;
    not_held = refl;
    not_asked = λ k. refl;
    not_released = λ k. refl;
    not_confirmed = λ k. refl;
  };
}

pub fresh_sound : (n : ℕ) → n < 2 ^ 16 → Shape (fresh n) × Sound (fresh n)
fresh_sound n small = (shape_fresh n small, (changed (fresh n) (shape_fresh n small) (nothing_open n) (fresh_view n small) (nothing_sound n)).sound)
