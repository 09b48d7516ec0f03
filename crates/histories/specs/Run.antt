-- The calls of a profile that are accepted, and sequences of them. A refused call changes nothing, so it is left out.
-- Which of those that may go is released, and which held close goes first, is left open here: nothing that is proved needs it.
use Rattle.std.specs.Prelude.{ℕ, List}
use Rattle.histories.specs.History.{History, Open, Released, Pending, AllConfirmed}
use Rattle.histories.specs.Change.{opening, asking, confirming, asking_close, releasing, closings}
use Rattle.histories.specs.Profile.{Profile, ClosesWait, all_closed, InTurn}

module _ (P : Profile) where
  -- `Accepted H S G R`: what an accepted call has seen to at history H and state S, and that it leaves G and R
  pub data Accepted (H : History) (S : P.State) : History → P.State → Type 1 where
    opens : (named : ℕ → Type 0) (found : P.Finding H S named) → Accepted H S (opening H named) (P.opened H S named found)
    -- the step is held, or released
    ask_held : (a k : ℕ) → H.names a k → P.StepWaits H.confirmed S a k → Accepted H S (asking H a k) S
    ask_released : (a k : ℕ) → Open H a → H.names a k → ¬ Released H a k → P.MayGo H.confirmed S a k →
        Accepted H S (releasing (asking H a k) a k) (P.released (asking H a k) S a k)
    -- all others wait on, or one that may go is released
    confirm : (a k : ℕ) → Released H a k → ((x : ℕ) → Pending H x k → P.StepWaits (confirming H a k).confirmed S x k) → Accepted H S (confirming H a k) S
    confirm_released : (a k b : ℕ) → Released H a k → Pending H b k → P.MayGo (confirming H a k).confirmed S b k →
        Accepted H S (releasing (confirming H a k) b k) (P.released (confirming H a k) S b k)
    -- the close is held, or goes, and others after it until no held close may go
    close_held : (a : ℕ) → Open H a → AllConfirmed H a → P.CloseWaits S a → Accepted H S (asking_close H a) S
    close : (a : ℕ) (l : List ℕ) → Open H a → AllConfirmed H a → InTurn P (asking_close H a) S l →
        ClosesWait P (closings (asking_close H a) l) (all_closed P S l) → Accepted H S (closings (asking_close H a) l) (all_closed P S l)

  -- calls one after another
  pub data Run : History → P.State → History → P.State → Type 1 where
    stop : {H : History} {S : P.State} → Run H S H S
    then : {H G E : History} {S R Q : P.State} → Accepted H S G R → Run G R E Q → Run H S E Q
