-- What the tables' tests say of jobs. Assumes nothing.
use Prim.Native.Nat.{ℕ}
use mathlib.Core.Bool.{true, false}
use mathlib.Core.Path.{◌≡◌, sym, ap, ◌∙◌, subst}
use Rattle.loops.proofs.Tests.{both}
use Rattle.rings.specs.Rule.{MayGo, StepWaits, MayClose, CloseWaits}
use Rattle.coordinator.specs.declared.Coordinator.{Coordinator}
use Rattle.coordinator.specs.Shape.{Shape}
use Rattle.coordinator.specs.Sound.{Sound}
use Rattle.coordinator.specs.Views.{is_open, dep}
use Rattle.coordinator.specs.Holder.{holder}
use Rattle.coordinator.specs.Release.{may_go, may_close}
use Rattle.effects.specs.View.{view}
use Rattle.effects.proofs.Bounds.{dep_range}
use Rattle.effects.proofs.Tests.{may_go_iff, may_not_go, may_close_iff, may_not_close}
use Rattle.soundness.specs.Accepted.{HolderOf}
use Rattle.promises.specs.Told.{Told}
use Rattle.promises.specs.Promise.{Open}
use Rattle.promises.specs.Tied.{history, Tied}

module _ {T : Told} {d : ℕ → ℕ → ℕ → Type 0} {J : ℕ → ℕ} (s : Coordinator) (S : Shape s) (K : Tied T d J (view s)) where
  -- the ticket of a call means the job in its holder's slot
  pub holder_means : (t : ℕ) → HolderOf s t → T.latest t ≡ J (holder s t)
  holder_means t h = ap T.latest (sym h.holds) ∙ K.means (holder s t) h.is_open

  -- a dependency into the job of an open slot comes from an open slot
  from_slot : ((k x y : ℕ) → d k x y → Open T x) → (k x j : ℕ) → is_open s j ≡ true → d k x (J j) → (i : ℕ) × (is_open s i ≡ true) × (J i ≡ x) × (dep s k i j ≡ true)
  from_slot D k x j o e =
      let (i, p, q) = K.seat x (D k x (J j) e) in
      (i, p, q, (K.dep k i j p o).1 (subst (λ (y : ℕ). d k y (J j)) (sym q) e))

  module _ (D : (k x y : ℕ) → d k x y → Open T x) (j : ℕ) (o : is_open s j ≡ true) where
    pub may_go_job : (k : ℕ) → may_go s j k ≡ true → MayGo (history T d) (J j) k
    may_go_job k m x e =
        let (i, p, q, r) = from_slot D k x j o e in
        subst (λ (y : ℕ). T.confirmed y k) q ((K.confirmed i k p).0 ((may_go_iff s S j k).0 m i r))

    pub may_close_job : may_close s j ≡ true → MayClose (history T d) (J j)
    may_close_job m k x e =
        let (i, p, q, r) = from_slot D k x j o e in
        both r ((may_close_iff s S j).0 m k (dep_range s S k i j (K.inside j o) r).1 i)

  module _ (X : Sound s) (j : ℕ) (o : is_open s j ≡ true) where
    pub step_waits_job : (k : ℕ) → may_go s j k ≡ false → StepWaits (history T d) (J j) k
    step_waits_job k m =
        let (i, r, c) = may_not_go s S j k m in
        let p : is_open s i ≡ true = (X.joins k i j (K.inside j o) r).from_open in
        (J i, (K.dep k i j p o).0 r, λ z. both ((K.confirmed i k p).1 z) c)

    pub close_waits_job : may_close s j ≡ false → CloseWaits (history T d) (J j)
    close_waits_job m =
        let (k, l, (i, r)) = may_not_close s S j m in
        let p : is_open s i ≡ true = (X.joins k i j (K.inside j o) r).from_open in
        (k, J i, (K.dep k i j p o).0 r)
