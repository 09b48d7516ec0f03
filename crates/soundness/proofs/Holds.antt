-- The release of one step holds the others at its database: so a confirm releases at most one. Assumes nothing.
use Prim.Native.Nat.{ℕ, ◌<◌}
use mathlib.Core.Bool.{true, false, not, ◌&&◌}
use mathlib.Core.Path.{◌≡◌, refl, ◌∙◌}
use borrow.Author.Tests.{eq-eqb, not-true}
use Rattle.loops.proofs.Tests.{both, and_left, and_right, untrue}
use Rattle.coordinator.specs.declared.Coordinator.{Coordinator}
use Rattle.coordinator.specs.Limits.{jobs, databases}
use Rattle.coordinator.specs.Shape.{Shape}
use Rattle.coordinator.specs.Sound.{Sound}
use Rattle.coordinator.specs.Views.{names, asked, released, confirmed}
use Rattle.coordinator.specs.Release.{may_go, release, may_go_at}
use Rattle.effects.specs.View.{view}
use Rattle.effects.specs.Effect.{released_at}
use Rattle.effects.proofs.Bounds.{open_names}
use Rattle.effects.proofs.Tests.{may_go_iff, none_may_go}
use Rattle.soundness.specs.Changed.{Changed}
use Rattle.soundness.proofs.Release.{released_sound}

-- while a step is under way at a database, no other goes there
pub held_back : (s : Coordinator) → Shape s → Sound s → (j b k : ℕ) → released s j k ≡ true → confirmed s j k ≡ false → asked s b k ≡ true → released s b k ≡ false → may_go s b k ≡ false
held_back s h S j b k r c a w =
    untrue (may_go s b k) (λ e. both ((may_go_iff s h b k).0 e j (S.under_way k j b r c other (open_names s h b k n) n w)) c)
  where
    n : names s b k ≡ true
    n = S.asked_named b k a

    other : ¬ (b ≡ j)
    other e = both (rw e r) w

pub release_holds : (s : Coordinator) → Shape s → Sound s → (j k : ℕ) → j < jobs → k < databases → asked s j k ≡ true → released s j k ≡ false → may_go_at (release s j k) k ≡ 0
release_holds s h S j k slot database a w = (none_may_go (release s j k) k).1 (λ b l. untrue _ (λ e. goes b e))
  where
    c : Changed (release s j k) (released_at (view s) j k)
    c = released_sound s h S j k slot database a w

    under : released (release s j k) j k ≡ true
    under = c.shows.released j k ∙ rw (eq-eqb j j refl, eq-eqb k k refl)

    still : confirmed (release s j k) j k ≡ false
    still = c.shows.confirmed j k ∙ untrue (confirmed s j k) (λ e. both (S.confirmed_released j k e) w)

    goes : (b : ℕ) → asked (release s j k) b k && not (released (release s j k) b k) && may_go (release s j k) b k ≡ true → ⊥
    goes b e =
        let p = and_left (asked (release s j k) b k && not (released (release s j k) b k)) (may_go (release s j k) b k) e in
        both (and_right (asked (release s j k) b k && not (released (release s j k) b k)) (may_go (release s j k) b k) e)
        (held_back (release s j k) c.shape c.sound j b k under still (and_left (asked (release s j k) b k) _ p)
        (not-true (released (release s j k) b k) (and_right (asked (release s j k) b k) _ p)))
