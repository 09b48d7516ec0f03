-- What ask and confirm read of a state before they change it, and what it tells that no row applies. Assumes nothing.
use mathlib.Core.Path.{◌≡◌, ◌∙◌}
use mathlib.Core.Bool.{Bool, not, ◌||◌}
use Prim.Native.Nat.{ℕ, ◌<◌}
use native.Mathlib.Omega.{arith}
use Rattle.std.specs.Prelude.{None}
use Rattle.mask.specs.Member.{holds, lowest}
use Rattle.mask.proofs.Lowest.{trailing_lowest}
use Rattle.tables.specs.Tables.{open_in, holders_in}
use Rattle.tables.proofs.Owning.{holders_lt}
use Rattle.refusals.specs.declared.refusal.Refusal.{Refusal}
use Rattle.refusals.specs.declared.refusal.Refusal.TheVariants.{AskedBefore, Settled}
use Rattle.refusals.proofs.Rows.{rows_same}
use Rattle.refusals.proofs.Passed.{step_passed}
use Rattle.coordinator.specs.declared.Coordinator.{Coordinator}
use Rattle.coordinator.specs.Limits.{jobs, databases}
use Rattle.coordinator.specs.Views.{open_slots, in_mask, asked, released, confirmed}
use Rattle.coordinator.specs.Holder.{holders, holder}
use Rattle.coordinator.specs.Refusal.{step_refusal, ask_refusal_tested, confirm_refusal_tested}
use Rattle.coordinator.specs.Tables.{set_at}
use Rattle.coordinator.proofs.Reach.{set_below}
use Rattle.coordinator.proofs.Tables.{holders_are, holder_is}

-- the slots whose job holds the ticket, and the one of them that is meant
pub record Read (s : Coordinator) (t f j : ℕ) : Type 0 where
  pub found : f ≡ holders s t
  pub slot : j ≡ holder s t

pub read : (s : Coordinator) (t f j : ℕ) → f ≡ holders_in s.tickets (open_in s.named) t → j ≡ lowest jobs f → Read s t f j
read s t f j q r = record { found = holders_are s t f q; slot = holder_is s t f j q r }

-- a ticket that some open job holds has a slot
holder_below : (s : Coordinator) (t : ℕ) → ¬ (holders s t ≡ 0) → holder s t < jobs
unfolding holder holders
holder_below s t n = (trailing_lowest jobs (holders s t) (omega arith) (holders_lt s.tickets (open_slots s) t)).within

module _ {s : Coordinator} {t f j : ℕ} (r : Read s t f j) where
  pub slot_below : ¬ (f ≡ 0) → j < jobs
  slot_below n = rw r.slot (holder_below s t (λ q. n (r.found ∙ q)))

  -- the rows that the code goes down are the call's
  module _ (b : Bool) (k : ℕ) (names applies : Bool) (p : names ≡ holds (set_at s.named k) j) where
    pub ask_rows : applies ≡ holds (set_at s.asked k) j → step_refusal b f k names applies AskedBefore ≡ ask_refusal_tested b s t k
    unfolding in_mask asked
    ask_rows q =
        rows_same b f k names applies (in_mask s (holder s t) k) (asked s (holder s t) k) AskedBefore (λ l. p ∙ rw (← set_below s.named k l, r.slot))
        (λ l. q ∙ rw (← set_below s.asked k l, r.slot)) ∙ rw r.found

    pub confirm_rows : applies ≡ not (holds (set_at s.released k) j) || holds (set_at s.confirmed k) j → step_refusal b f k names applies Settled ≡ confirm_refusal_tested b s t k
    unfolding in_mask released confirmed
    confirm_rows q =
        rows_same b f k names applies (in_mask s (holder s t) k) (not (released s (holder s t) k) || confirmed s (holder s t) k) Settled
        (λ l. p ∙ rw (← set_below s.named k l, r.slot)) (λ l. q ∙ rw (← set_below s.released k l, ← set_below s.confirmed k l, r.slot)) ∙ rw r.found

  -- a call that is not refused finds its step in range
  pub step_fits : (b : Bool) (k : ℕ) (names applies : Bool) (own : Refusal) → step_refusal b f k names applies own ≡ None → (j < jobs) × (k < databases)
  step_fits b k names applies own e = let p = step_passed b f k names applies own e in (slot_below p.1, p.0)
