-- All that is promised, in one place. It imports definitions only: no proof is needed to judge what is promised.
-- Demands 1 and 2 are said of every state, sound or not, and every call; demand 3 and the rule on cycles of every history from a fresh start.
use Rattle.std.specs.Prelude.{ℕ, ◌^◌, ◌<◌, List}
use Rattle.coordinator.specs.Call.{Call}
use Rattle.promises.specs.Moment.{AllFit, begin, after}
use Rattle.promises.specs.Promise.{NoRing, NoReturn, AllConfirmed, NoneOpen}
use Rattle.promises.specs.Tables.{NoCycle}
use Rattle.promises.specs.Sheet.{AllHold, sheet}
use Rattle.promises.specs.Determined.{Determined}
use Rattle.promises.specs.Everywhere.{Refusals, Soundness, Calls}

-- after the calls from a fresh start at n
pub record AfterAll (n : ℕ) (calls : List Call) : Type 0 where
  -- no ring of jobs over all databases, closed jobs counted; the same said without a list
  pub no_ring : NoRing (after (begin n) calls).told
  pub no_return : NoReturn (after (begin n) calls).told
  -- nothing stands still
  pub all_confirmed : AllConfirmed (after (begin n) calls).told
  pub none_open : NoneOpen (after (begin n) calls).told
  -- no reachable state holds a cycle
  pub no_cycle : NoCycle (after (begin n) calls).state

pub record Promises : Type 1 where
  pub refusals : Refusals
  pub soundness : Soundness
  pub calls : Calls
  -- every P line of the job sheet; any two results that meet a contract are equal
  pub job_sheet : AllHold sheet
  pub determined : Determined
  pub histories : (n : ℕ) → n < 2 ^ 16 → (calls : List Call) → AllFit calls → AfterAll n calls
