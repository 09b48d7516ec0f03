-- One job after another closes, as long as some held close may go: what holds all the way, and at the end no held close may go. Assumes nothing.
use Prim.Native.Nat.{ℕ, zero, suc, ◌+◌, ◌≤◌, ◌<◌}
use native.Mathlib.Omega.{arith}
use mathlib.Core.Bool.{Bool, true, false, ◌&&◌}
use mathlib.Core.List.{List, [], ◌∷◌, ◌++◌}
use mathlib.Core.Path.{◌≡◌, refl, sym, ap, ◌∙◌, subst}
use borrow.Author.Tests.{eqb-true, eqb-false}
use lib.Dec.{eqb}
use lib.ListN.{length, take, length-set}
use lib.Seq.{take-suc-set}
use Rattle.loops.proofs.Tests.{and_both, both, untrue}
use Rattle.rings.specs.Change.{closing as closes}
use Rattle.rings.specs.History.{History}
use Rattle.rings.specs.Rule.{AllConfirmed, CloseWaits}
use Rattle.rings.specs.Kept.{Ordered, StepsWait, ClosesWait}
use Rattle.rings.proofs.Closing.{closing_ordered, closing_steps_wait}
use Rattle.coordinator.specs.declared.Coordinator.{Coordinator}
use Rattle.coordinator.specs.Limits.{jobs}
use Rattle.coordinator.specs.Shape.{Shape}
use Rattle.coordinator.specs.Sound.{Sound}
use Rattle.coordinator.specs.Views.{is_open, open_count, held, ticket, names, confirmed}
use Rattle.coordinator.specs.Change.{removed, place}
use Rattle.coordinator.specs.Release.{may_close, may_close_now, first_of}
use Rattle.coordinator.specs.Close.{Closing, close_one, close_held}
use Rattle.effects.specs.View.{view}
use Rattle.effects.specs.Effect.{removed_at}
use Rattle.effects.proofs.Tests.{none_may_close, first_to_close}
use Rattle.soundness.specs.Changed.{Changed}
use Rattle.soundness.proofs.Calls.{held_open}
use Rattle.soundness.proofs.Remove.{removed_sound}
use Rattle.soundness.proofs.Arms.{cascade_none, cascade_one}
use Rattle.promises.specs.Told.{Told, closed_told, all_closed_told}
use Rattle.promises.specs.Promise.{Open}
use Rattle.promises.specs.Tied.{history, Tied}
use Rattle.promises.proofs.Same.{tied_alike}
use Rattle.promises.proofs.Removal.{tied_removed}
use Rattle.promises.proofs.Reading.{may_close_job, close_waits_job}

-- what has been told when the first of a list of jobs are closed
abbrev pub closed_so_far : Told → Closing → Told
closed_so_far T c = all_closed_told T (take c.count c.tickets)

-- one more ticket at the end
one_more : (T : Told) (l : List ℕ) (x : ℕ) → all_closed_told T (l ++ (x ∷ [])) ≡ closed_told (all_closed_told T l) ((all_closed_told T l).latest x)
one_more T [] x = refl
one_more T (t ∷ l) x = one_more (closed_told T (T.latest t)) l x

pub record Going (T : Told) (c : Closing) : Type 1 where
  pub dep : ℕ → ℕ → ℕ → Type 0
  pub job : ℕ → ℕ
  pub ordered : Ordered (history (closed_so_far T c) dep)
  pub steps_wait : StepsWait (history (closed_so_far T c) dep)
  pub tied : Tied (closed_so_far T c) dep job (view c.state)
  pub shape : Shape c.state
  pub sound : Sound c.state
  pub room : c.count + open_count c.state ≤ jobs
  pub slots : length c.tickets ≡ jobs

-- an open slot is counted
pub some_open : (s : Coordinator) → Sound s → (i : ℕ) → is_open s i ≡ true → 0 < open_count s
some_open s X i o = let (p, l, e) = X.ordered.each i o in omega arith

module _ {T : Told} (c : Closing) (I : Going T c) (i : ℕ) (o : is_open c.state i ≡ true) (may : may_close c.state i ≡ true)
    (all : (k : ℕ) → names c.state i k ≡ true → confirmed c.state i k ≡ true) where
  abbrev s : Coordinator
  s = c.state

  C : Changed (removed s i) (removed_at (view s) i (place s i))
  C = removed_sound s I.shape I.sound i o

  -- what is told then
  told_then : closed_so_far T (close_one c i) ≡ closed_told (closed_so_far T c) (I.job i)
  unfolding close_one
  told_then =
      ap (all_closed_told T) (take-suc-set c.tickets c.count (ticket s i) (omega (arith, I.room, I.slots, some_open s I.sound i o)))
      ∙ one_more T (take c.count c.tickets) (ticket s i)
      ∙ ap (closed_told (closed_so_far T c)) (I.tied.means i o)

  all_confirmed : AllConfirmed (history (closed_so_far T c) I.dep) (I.job i)
  all_confirmed k n = (I.tied.confirmed i k o).0 (all k ((I.tied.names i k o).1 n))

  pub one_closed : Going T (close_one c i)
  unfolding close_one
  one_closed = record {
    dep = d;
    job = I.job;
    ordered = subst (λ (U : Told). Ordered (history U d)) (sym told_then) (closing_ordered H (I.tied.sits i o) I.ordered (may_close_job s I.shape I.tied (λ k x y e. (I.ordered.depends.dep_open e).0) i o may));
    steps_wait = subst (λ (U : Told). StepsWait (history U d)) (sym told_then) (closing_steps_wait H (I.tied.sits i o) I.ordered.depends all_confirmed I.steps_wait);
    tied = subst (λ (U : Told). Tied U d I.job (view (removed s i))) (sym told_then) (tied_alike C.shows (tied_removed I.tied i (place s i) o));
    shape = C.shape;
    sound = C.sound;
    room = omega (arith, I.room, C.shows.count, some_open s I.sound i o);
    slots = length-set c.tickets c.count (ticket s i) ∙ I.slots;
  }
    where
      H : History
      H = history (closed_so_far T c) I.dep

      d : ℕ → ℕ → ℕ → Type 0
      d = (closes H (I.job i)).dep

module _ (T : Told) where
  pub record Ended (c : Closing) : Type 1 where
    pub going : Going T c
    pub none_left : may_close_now c.state ≡ 0

  pub cascade : (left : ℕ) (c : Closing) → Going T c → open_count c.state ≤ left → Ended (close_held left c)
  unfolding close_held close_one
  cascade zero c I h = record { going = I; none_left = (none_may_close c.state).1 (λ j l. shut j (is_open c.state j) refl) }
    where
      shut : (j : ℕ) (b : Bool) → is_open c.state j ≡ b → held c.state j && may_close c.state j ≡ false
      shut j true e = absurd (omega (arith, some_open c.state I.sound j e))
      shut j false e = rw (I.sound.free_zeros j e).not_held
  cascade (suc left) c I h = by (eqb (may_close_now c.state) 0) refl (cascade left)
    where
      f : ℕ
      f = first_of c.state (may_close_now c.state)

      fewer : (i : ℕ) → is_open c.state i ≡ true → open_count (close_one c i).state ≤ left
      fewer i o = omega (arith, h, (removed_sound c.state I.shape I.sound i o).shows.count, some_open c.state I.sound i o)

      by : (b : Bool) → eqb (may_close_now c.state) 0 ≡ b → ((e : Closing) → Going T e → open_count e.state ≤ left → Ended (close_held left e)) → Ended (close_held (suc left) c)
      by true e go = subst Ended (sym (cascade_none left c e)) (record { going = I; none_left = eqb-true (may_close_now c.state) 0 e })
      by false e go =
          let F = first_to_close c.state (eqb-false (may_close_now c.state) 0 e) in
          let o = held_open c.state I.sound f F.is_held in
          let J = one_closed c I f o F.goes (λ k n. I.sound.held_confirmed f k F.is_held n) in
          subst Ended (sym (cascade_one left c e)) (go (close_one c f) J (fewer f o))

  -- at the end every held close waits
  pub closes_wait : (c : Closing) (E : Ended c) → ClosesWait (history (closed_so_far T c) E.going.dep)
  closes_wait c E = record { close_waits = λ {a} o h. waits a o h }
    where
      I : Going T c
      I = E.going

      stuck : (i : ℕ) → is_open c.state i ≡ true → held c.state i ≡ true → may_close c.state i ≡ false
      stuck i o h = untrue (may_close c.state i) (λ e. both (and_both h e) ((none_may_close c.state).0 E.none_left i (I.tied.inside i o)))

      waits : (a : ℕ) → Open (closed_so_far T c) a → (closed_so_far T c).close_asked a → CloseWaits (history (closed_so_far T c) I.dep) a
      waits a o h =
          let (i, p, e) = I.tied.seat a o in
          let hold = (I.tied.held i p).1 (subst (closed_so_far T c).close_asked (sym e) h) in
          subst (CloseWaits (history (closed_so_far T c) I.dep)) e (close_waits_job c.state I.shape I.tied I.sound i p (stuck i p hold))
