-- For the callers: what the functions that are lent a table say of it is what the definitions say of the state. Assumes nothing.
use Prim.Native.Nat.{ℕ}
use mathlib.Core.Path.{◌≡◌, refl}
use Rattle.mask.specs.Member.{lowest}
use Rattle.tables.specs.Tables.{open_in, holders_in}
use Rattle.coordinator.specs.declared.Coordinator.{Coordinator}
use Rattle.coordinator.specs.Limits.{jobs}
use Rattle.coordinator.specs.Views.{open_slots, held, into}
use Rattle.coordinator.specs.Holder.{holders, holder}
use Rattle.coordinator.specs.Release.{may_close, may_close_now}
use Rattle.coordinator.specs.Tables.{may_close_in, may_close_now_in}

pub open_slots_are : (s : Coordinator) (r : ℕ) → r ≡ open_in s.named → r ≡ open_slots s
unfolding open_slots
open_slots_are s r e = e

pub holders_are : (s : Coordinator) (t r : ℕ) → r ≡ holders_in s.tickets (open_in s.named) t → r ≡ holders s t
unfolding holders open_slots
holders_are s t r e = e

pub holder_is : (s : Coordinator) (t h r : ℕ) → h ≡ holders_in s.tickets (open_in s.named) t → r ≡ lowest jobs h → r ≡ holder s t
unfolding holder
holder_is s t h r p e = rw (holders_are s t h p) at e

pub may_close_is : (s : Coordinator) (j : ℕ) → may_close_in s.dependencies j ≡ may_close s j
unfolding may_close_in may_close into
may_close_is s j = refl

pub may_close_now_is : (s : Coordinator) → may_close_now_in s.dependencies s.held ≡ may_close_now s
unfolding may_close_now_in may_close_in may_close_now held may_close into
may_close_now_is s = refl
