-- A close that goes, with those that it lets go as long as some held close may go, leaves all that is kept, under every lawful profile.
use Prim.Native.Nat.{ℕ}
use mathlib.Core.List.{List, [], ◌∷◌}
use Rattle.histories.specs.History.{History, Open, AllConfirmed}
use Rattle.histories.specs.Change.{asking_close, closing, closings}
use Rattle.histories.specs.Past.{Past}
use Rattle.histories.specs.Profile.{Profile, StepsWait, ClosesWait, Kept, all_closed, InTurn}
use Rattle.histories.specs.Lawful.{Lawful}
use Rattle.histories.proofs.Marking.{marked_past, asking_close_marks}
use Rattle.histories.proofs.Closing.{was_open, another, closing_past}

module _ (P : Profile) (L : Lawful P) where
  -- one close, where held closes may be free for a while
  module _ (H : History) (S : P.State) (a : ℕ) (F : Past H) (K : P.Ordered H S) (o : Open H a) (may : P.MayClose S a) (all : AllConfirmed H a) where
    pub close_past : Past (closing H a)
    close_past = closing_past H a F o (λ k x q b. L.orderly.closes_after H S k x a K q o b may)

    pub close_ordered : P.Ordered (closing H a) (P.closed S a)
    close_ordered = L.orderly.closing_job H S a F K o all may

    pub close_steps_wait : StepsWait P H S → StepsWait P (closing H a) (P.closed S a)
    close_steps_wait Q = record {
      step_waits = λ (p, q, u). L.waits.waits_closed H S a _ _ F K all (another H a p) (Q.step_waits (was_open H a p, q, u));
    }

  closings_kept : (H : History) (S : P.State) (l : List ℕ) → Past H → P.Ordered H S → StepsWait P H S → InTurn P H S l →
      ClosesWait P (closings H l) (all_closed P S l) → Kept P (closings H l) (all_closed P S l)
  closings_kept H S [] F K Q turns C = record { past = F; ordered = K; steps_wait = Q; closes_wait = C }
  closings_kept H S (a ∷ l) F K Q (o, may, all, turns) C =
      closings_kept (closing H a) (P.closed S a) l
      (close_past H S a F K o may all) (close_ordered H S a F K o may all) (close_steps_wait H S a F K o may all Q) turns C

  -- job a has asked to close, and the jobs of the list are closed by that
  pub close_kept : (H : History) (S : P.State) (a : ℕ) (l : List ℕ) → Kept P H S → Open H a → AllConfirmed H a → InTurn P (asking_close H a) S l →
      ClosesWait P (closings (asking_close H a) l) (all_closed P S l) → Kept P (closings (asking_close H a) l) (all_closed P S l)
  close_kept H S a l K o all =
      closings_kept (asking_close H a) S l (marked_past H K.past _ _ _ (asking_close_marks H K.past a o all))
      (L.orderly.marking H S _ _ _ (asking_close_marks H K.past a o all) K.ordered) (record { step_waits = K.steps_wait.step_waits })
