-- Demand 3, for every lawful profile at once: it follows from what is arranged at a moment, so from what is kept, so of every run.
use Rattle.histories.specs.History.{History}
use Rattle.histories.specs.Columns.{fresh}
use Rattle.histories.specs.Past.{Past}
use Rattle.histories.specs.Promise.{Promise}
use Rattle.histories.specs.Arranged.{Arranged}
use Rattle.histories.specs.Profile.{Profile, Kept}
use Rattle.histories.specs.Lawful.{Lawful}
use Rattle.histories.specs.Run.{Accepted, opens, ask_held, ask_released, confirm, confirm_released, close_held, close, Run, stop, then}
use Rattle.histories.proofs.Rings.{no_return, no_ring}
use Rattle.histories.proofs.Progress.{all_confirmed, none_open}
use Rattle.histories.proofs.Calls.{fresh_kept, open_kept, ask_held_kept, ask_released_kept, confirm_kept, confirm_released_kept, close_held_kept}
use Rattle.histories.proofs.Cascade.{close_kept}

pub arranged_promise : (H : History) → Past H → Arranged H → Promise H
arranged_promise H P A = record {
  no_ring = no_ring H P A.released_order A.preceded;
  no_return = no_return H P A.released_order A.preceded;
  all_confirmed = all_confirmed H P A.waiting_order A.awaited;
  none_open = λ asked none. none_open H A.released_order A.preceded (all_confirmed H P A.waiting_order A.awaited asked none);
}

module _ (P : Profile) (L : Lawful P) where
  pub promise : (H : History) (S : P.State) → Kept P H S → Promise H
  promise H S K = arranged_promise H K.past (L.arranged H S K)

  module _ (H : History) (S : P.State) (K : Kept P H S) where
    accepted_kept : {G : History} {R : P.State} → Accepted P H S G R → Kept P G R
    accepted_kept (opens named found) = open_kept P L H S named found K
    accepted_kept (ask_held a k n w) = ask_held_kept P L H S K a k n w
    accepted_kept (ask_released a k o n u may) = ask_released_kept P L H S K a k o n u may
    accepted_kept (confirm a k q all) = confirm_kept P L H S K a k q all
    accepted_kept (confirm_released a k b q p may) = confirm_released_kept P L H S K a k b q p may
    accepted_kept (close_held a o all w) = close_held_kept P L H S K a o all w
    accepted_kept (close a l o all turns C) = close_kept P L H S a l K o all turns C

  run_kept : {H G : History} {S R : P.State} → Kept P H S → Run P H S G R → Kept P G R
  run_kept K stop = K
  run_kept K (then c r) = run_kept (accepted_kept _ _ K c) r

  -- after every sequence of calls from a fresh start
  pub all_kept : {H : History} {S : P.State} → Run P fresh P.begun H S → Kept P H S
  all_kept r = run_kept (fresh_kept P L) r
