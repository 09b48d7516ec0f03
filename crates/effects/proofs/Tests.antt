-- What the tests of the calls say in views: which step may go, which job may close, and which of them goes. Assumes nothing.
use Prim.Native.Nat.{ℕ, ◌^◌, ◌<◌}
use native.Mathlib.Omega.{arith}
use mathlib.Core.Bool.{true, false, not, ◌&&◌}
use mathlib.Core.Logic.{◌↔◌}
use mathlib.Core.Path.{◌≡◌, sym, ◌∙◌}
use borrow.Author.Tests.{eq-eqb, eqb-true, eqb-false, not-true}
use Rattle.loops.proofs.Tests.{and_left, and_right}
use Rattle.loops.proofs.Turns.{every_at, every_of, every_not}
use Rattle.mask.specs.Member.{holds}
use Rattle.mask.proofs.Equal.{empty_iff, within_iff}
use Rattle.mask.proofs.Gather.{holds_gather, gathered_lt, gathered_none}
use Rattle.mask.proofs.Lowest.{trailing_lowest, lowest_holds, some_member, within_not}
use Rattle.coordinator.specs.declared.Coordinator.{Coordinator}
use Rattle.coordinator.specs.Limits.{jobs, databases}
use Rattle.coordinator.specs.Shape.{Shape}
use Rattle.coordinator.specs.Views.{entry, asked, released, confirmed, held, into, dep}
use Rattle.coordinator.specs.Release.{may_go, may_go_at, may_close, may_close_now, first_of}
use Rattle.effects.proofs.Bounds.{into_small}

module _ (s : Coordinator) (h : Shape s) where
  -- a step may go where whatever leads into it is confirmed

  pub may_go_iff : (j k : ℕ) → (may_go s j k ≡ true) ↔ ((a : ℕ) → dep s k a j ≡ true → confirmed s a k ≡ true)
  unfolding may_go dep confirmed
  may_go_iff j k = within_iff jobs (into s k j) (entry s.confirmed k) (into_small s h k j) (h.confirmed.fits k)

  pub may_not_go : (j k : ℕ) → may_go s j k ≡ false → (a : ℕ) × (dep s k a j ≡ true) × (confirmed s a k ≡ false)
  unfolding may_go dep confirmed
  may_not_go j k e = within_not jobs (into s k j) (entry s.confirmed k) (into_small s h k j) (h.confirmed.fits k) e

  -- a job may close where nothing leads into it

  none_into : (j k : ℕ) → (into s k j ≡ 0) ↔ ((a : ℕ) → dep s k a j ≡ false)
  unfolding dep
  none_into j k = empty_iff jobs (into s k j) (into_small s h k j)

  pub may_close_iff : (j : ℕ) → (may_close s j ≡ true) ↔ ((k : ℕ) → k < databases → (a : ℕ) → dep s k a j ≡ false)
  unfolding may_close
  may_close_iff j = (
    λ e k l. (none_into j k).0 (eqb-true (into s k j) 0 (every_at databases _ e k l)),
    λ e. every_of databases _ (λ k l. eq-eqb (into s k j) 0 ((none_into j k).1 (e k l))),
  )

  pub may_not_close : (j : ℕ) → may_close s j ≡ false → (k : ℕ) × (k < databases) × ((a : ℕ) × (dep s k a j ≡ true))
  unfolding may_close dep
  may_not_close j e =
      let (k, l, p) = every_not databases _ e in
      let (a, m, q) = some_member jobs (into s k j) (into_small s h k j) (eqb-false (into s k j) 0 p) in
      (k, l, (a, q))

-- who may go now, and who goes: one of them

-- in slot f, the step at database k that goes; the held close that goes
pub record ToGo (s : Coordinator) (k f : ℕ) : Type 0 where
  pub slot : f < jobs
  pub asks : asked s f k ≡ true
  pub unreleased : released s f k ≡ false
  pub goes : may_go s f k ≡ true

pub record ToClose (s : Coordinator) (f : ℕ) : Type 0 where
  pub slot : f < jobs
  pub is_held : held s f ≡ true
  pub goes : may_close s f ≡ true

module _ (s : Coordinator) where
  pub may_go_at_lem : (k j : ℕ) → j < jobs → holds (may_go_at s k) j ≡ asked s j k && not (released s j k) && may_go s j k
  unfolding may_go_at
  may_go_at_lem k j l = holds_gather (λ j. asked s j k && not (released s j k) && may_go s j k) jobs j l

  pub may_go_at_small : (k : ℕ) → may_go_at s k < 2 ^ jobs
  unfolding may_go_at
  may_go_at_small k = gathered_lt (λ j. asked s j k && not (released s j k) && may_go s j k) jobs

  pub none_may_go : (k : ℕ) → (may_go_at s k ≡ 0) ↔ ((j : ℕ) → j < jobs → asked s j k && not (released s j k) && may_go s j k ≡ false)
  unfolding may_go_at
  none_may_go k = gathered_none (λ j. asked s j k && not (released s j k) && may_go s j k) jobs

  pub may_close_now_lem : (j : ℕ) → j < jobs → holds (may_close_now s) j ≡ held s j && may_close s j
  unfolding may_close_now
  may_close_now_lem j l = holds_gather (λ j. held s j && may_close s j) jobs j l

  pub may_close_now_small : may_close_now s < 2 ^ jobs
  unfolding may_close_now
  may_close_now_small = gathered_lt (λ j. held s j && may_close s j) jobs

  pub none_may_close : (may_close_now s ≡ 0) ↔ ((j : ℕ) → j < jobs → held s j && may_close s j ≡ false)
  unfolding may_close_now
  none_may_close = gathered_none (λ j. held s j && may_close s j) jobs

  -- whichever goes, it is one of them: only this is used of the choice
  pub first_of_lem : (m : ℕ) → m < 2 ^ jobs → ¬ (m ≡ 0) → (first_of s m < jobs) × (holds m (first_of s m) ≡ true)
  unfolding first_of
  first_of_lem m b ne =
      let l = trailing_lowest jobs m (omega arith) b in
      (l.within, lowest_holds l)

  pub first_to_go : (k : ℕ) → ¬ (may_go_at s k ≡ 0) → ToGo s k (first_of s (may_go_at s k))
  first_to_go k any =
      let f : ℕ = first_of s (may_go_at s k) in
      let (l, m) = first_of_lem (may_go_at s k) (may_go_at_small k) any in
      let all = sym (may_go_at_lem k f l) ∙ m in
      let waits = and_left (asked s f k && not (released s f k)) (may_go s f k) all in
      record {
        slot = l;
        asks = and_left (asked s f k) (not (released s f k)) waits;
        unreleased = not-true (released s f k) (and_right (asked s f k) (not (released s f k)) waits);
        goes = and_right (asked s f k && not (released s f k)) (may_go s f k) all;
      }

  pub first_to_close : ¬ (may_close_now s ≡ 0) → ToClose s (first_of s (may_close_now s))
  first_to_close any =
      let f : ℕ = first_of s (may_close_now s) in
      let (l, m) = first_of_lem (may_close_now s) may_close_now_small any in
      let all = sym (may_close_now_lem f l) ∙ m in
      record { slot = l; is_held = and_left (held s f) (may_close s f) all; goes = and_right (held s f) (may_close s f) all }
