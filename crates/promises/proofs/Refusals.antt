-- What the number of a refusal tells, and what a refused call leaves of a history. Assumes nothing.
use Prim.Native.Nat.{ℕ}
use mathlib.Core.List.{[], ◌∷◌}
use mathlib.Core.Path.{◌≡◌, refl, sym, ap, ◌∙◌, subst}
use Rattle.std.specs.Prelude.{Option, None, Some, get_or}
use borrow.Author.Tests.{ne_eqb}
use Rattle.refusals.specs.declared.refusal.Refusal.{Refusal}
use Rattle.refusals.specs.declared.refusal.Refusal.TheVariants.{NamesNone, Full, NoJob, NoDatabase, NotNamed, AskedBefore, Settled, Unfinished, CloseHeld, Unsound}
use Rattle.refusals.specs.Number.{number}
use Rattle.coordinator.specs.Call.{Call, Played}
use Rattle.soundness.specs.Refused.{refusal_of}
use Rattle.soundness.proofs.Refused.{refused_play}
use Rattle.promises.specs.Told.{tell}
use Rattle.promises.specs.Moment.{Moment, next}
use Rattle.promises.specs.Invariant.{Invariant}

-- the refusal that has a number
abbrev refusal_numbered : ℕ → Option Refusal
refusal_numbered n =
    get_or
    (None ∷ Some NamesNone ∷ Some Full ∷ Some NoJob ∷ Some NoDatabase ∷ Some NotNamed ∷ Some AskedBefore ∷ Some Settled ∷ Some Unfinished ∷ Some CloseHeld ∷ Some Unsound ∷ [])
    n None

number_back : (r : Refusal) → refusal_numbered (number r) ≡ Some r
number_back NamesNone = refl
number_back Full = refl
number_back NoJob = refl
number_back NoDatabase = refl
number_back NotNamed = refl
number_back AskedBefore = refl
number_back Settled = refl
number_back Unfinished = refl
number_back CloseHeld = refl
number_back Unsound = refl

-- a refusal's number is not 0, and no two refusals have the same
pub not_zero : (r : Refusal) → ¬ (number r ≡ 0)
not_zero r e = let p : ◌≡◌ {A = Option Refusal} (Some r) None = sym (number_back r) ∙ ap refusal_numbered e in absurd (cc)

pub told_apart : (q r : Refusal) → number q ≡ number r → q ≡ r
told_apart q r e = let p : ◌≡◌ {A = Option Refusal} (Some q) (Some r) = sym (number_back q) ∙ ap refusal_numbered e ∙ number_back r in cc

-- a refused call tells nothing and leaves the state as it was
pub refused_next : (m : Moment) → Invariant m → (c : Call) (r : Refusal) → refusal_of m.state c ≡ Some r → Invariant (next m c)
unfolding next tell
refused_next m I c r e =
    subst (λ (p : Played). Invariant (record { told = tell m.told c p.values; state = p.state })) (sym (refused_play m.state c r e))
    (rw (tell, ne_eqb (number r) 0 (not_zero r)) I)
