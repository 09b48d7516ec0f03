-- The test of a database decides what the marks of its steps and the dependencies there have to be. Assumes nothing.
use Prim.Native.Nat.{ℕ, ◌*◌, ◌^◌, ◌<◌}
use native.Mathlib.Nat.{lt_of_le_of_lt}
use mathlib.Core.Bool.{Bool, true, false, not, ◌&&◌}
use mathlib.Core.Logic.{◌↔◌}
use mathlib.Core.Path.{◌≡◌, refl, sym, ap, ◌∙◌}
use borrow.Author.Tests.{eqb-false, ne_eqb, not-true}
use lib.Bits.{bit_and, and_le_l}
use lib.Dec.{eqb}
use lib.ListN.{drop}
use lib.Pow.{pow_pos}
use lib.Seq.{get_or-drop}
use Rattle.loops.specs.Loop.{every}
use Rattle.loops.proofs.Tests.{and_left, and_right, and_both}
use Rattle.loops.proofs.Turns.{every_at, every_of}
use Rattle.mask.specs.Member.{holds, excluding, less, within}
use Rattle.mask.proofs.Change.{excluding_lt, less_lt}
use Rattle.mask.proofs.Holds.{holds_none, holds_and, holds_excluding, holds_less_any}
use Rattle.mask.proofs.Equal.{within_iff}
use Rattle.tables.specs.Test.{marks_sound, partners, pressing, row_sound, rows_sound, steps_sound, database_sound}
use Rattle.coordinator.specs.declared.Coordinator.{Coordinator}
use Rattle.coordinator.specs.Limits.{jobs}
use Rattle.coordinator.specs.Shape.{Shape}
use Rattle.coordinator.specs.Views.{entry, in_mask, names, asked, released, confirmed, held, into, dep}
use Rattle.effects.proofs.Bounds.{into_small}
use Rattle.decision.specs.Clause.{Marks, Row}

-- who may go before slot b, and who has to

partners_small : (named b : ℕ) → named < 2 ^ jobs → partners named b < 2 ^ jobs
unfolding partners
partners_small named b h = by (holds named b)
  where
    by : (t : Bool) → elim t [ true ↦ excluding named b | false ↦ 0 ] < 2 ^ jobs
    by true = excluding_lt jobs named b h
    by false = pow_pos jobs

holds_partners : (named b a : ℕ) → holds (partners named b) a ≡ holds named b && (not (eqb a b) && holds named a)
unfolding partners
holds_partners named b a = by (holds named b)
  where
    by : (t : Bool) → holds (elim t [ true ↦ excluding named b | false ↦ 0 ]) a ≡ t && (not (eqb a b) && holds named a)
    by true = holds_excluding named b a
    by false = holds_none a

pressing_small : (waiting under b : ℕ) → under < 2 ^ jobs → pressing waiting under b < 2 ^ jobs
unfolding pressing
pressing_small waiting under b h = by (holds waiting b)
  where
    by : (t : Bool) → elim t [ true ↦ under | false ↦ 0 ] < 2 ^ jobs
    by true = h
    by false = pow_pos jobs

holds_pressing : (waiting under b a : ℕ) → holds (pressing waiting under b) a ≡ holds waiting b && holds under a
unfolding pressing
holds_pressing waiting under b a = by (holds waiting b)
  where
    by : (t : Bool) → holds (elim t [ true ↦ under | false ↦ 0 ]) a ≡ t && holds under a
    by true = refl
    by false = holds_none a

-- the test of a database, of a state

abbrev pub sound_at : Coordinator → ℕ → Bool
sound_at s = database_sound s.held s.named s.asked s.released s.confirmed s.dependencies

module _ (s : Coordinator) (h : Shape s) (k : ℕ) where
  abbrev named : ℕ
  named = entry s.named k

  abbrev waiting : ℕ
  waiting = less jobs named (entry s.released k)

  abbrev under : ℕ
  under = less jobs (entry s.released k) (entry s.confirmed k)

  -- the marks

  abbrev MarksPass : Type 0
  MarksPass = marks_sound named (entry s.asked k) (entry s.released k) (entry s.confirmed k) s.held ≡ true

  both_small : bit_and s.held named < 2 ^ jobs
  both_small = lt_of_le_of_lt (and_le_l s.held named) h.held

  marks_to : MarksPass → Marks s k
  unfolding marks_sound asked names in_mask released confirmed held
  marks_to e =
      let first : within jobs (entry s.asked k) named && within jobs (entry s.released k) (entry s.asked k) && within jobs (entry s.confirmed k) (entry s.released k) ≡ true = and_left _ (within jobs (bit_and s.held named) (entry s.confirmed k)) e in
      let second : within jobs (entry s.asked k) named && within jobs (entry s.released k) (entry s.asked k) ≡ true = and_left _ (within jobs (entry s.confirmed k) (entry s.released k)) first in
      record {
        asked_named = (within_iff jobs _ _ (h.asked.fits k) (h.named.fits k)).0 (and_left _ (within jobs (entry s.released k) (entry s.asked k)) second);
        released_asked = (within_iff jobs _ _ (h.released.fits k) (h.asked.fits k)).0 (and_right (within jobs (entry s.asked k) named) _ second);
        confirmed_released = (within_iff jobs _ _ (h.confirmed.fits k) (h.released.fits k)).0
            (and_right (within jobs (entry s.asked k) named && within jobs (entry s.released k) (entry s.asked k)) _ first);
        held_confirmed = λ j p q. (within_iff jobs _ _ both_small (h.confirmed.fits k)).0
            (and_right (within jobs (entry s.asked k) named && within jobs (entry s.released k) (entry s.asked k) && within jobs (entry s.confirmed k) (entry s.released k)) _ e)
            j (holds_and s.held named j ∙ and_both p q);
      }

  marks_from : Marks s k → MarksPass
  unfolding marks_sound asked names in_mask released confirmed held
  marks_from m =
      and_both
      (and_both
      (and_both ((within_iff jobs _ _ (h.asked.fits k) (h.named.fits k)).1 m.asked_named) ((within_iff jobs _ _ (h.released.fits k) (h.asked.fits k)).1 m.released_asked))
      ((within_iff jobs _ _ (h.confirmed.fits k) (h.released.fits k)).1 m.confirmed_released))
      ((within_iff jobs _ _ both_small (h.confirmed.fits k)).1
      (λ j p.
      let q : holds s.held j && holds named j ≡ true = sym (holds_and s.held named j) ∙ p in
      m.held_confirmed j (and_left (holds s.held j) (holds named j) q) (and_right (holds s.held j) (holds named j) q)))

  -- a row of dependencies

  module _ (b : ℕ) where
    abbrev RowPasses : Type 0
    RowPasses = row_sound named waiting under b (into s k b) ≡ true

    under_small : under < 2 ^ jobs
    under_small = less_lt jobs (entry s.released k) (entry s.confirmed k) (h.released.fits k)

    may_within : (within jobs (into s k b) (partners named b) ≡ true) ↔ ((a : ℕ) → holds (into s k b) a ≡ true → holds (partners named b) a ≡ true)
    may_within = within_iff jobs (into s k b) (partners named b) (into_small s h k b) (partners_small named b (h.named.fits k))

    has_within : (within jobs (pressing waiting under b) (into s k b) ≡ true) ↔ ((a : ℕ) → holds (pressing waiting under b) a ≡ true → holds (into s k b) a ≡ true)
    has_within = within_iff jobs (pressing waiting under b) (into s k b) (pressing_small waiting under b under_small) (into_small s h k b)

    is_partner : (a : ℕ) → holds (partners named b) a ≡ true → (holds named b ≡ true) × ¬ (a ≡ b) × (holds named a ≡ true)
    is_partner a e =
        let p : holds named b && (not (eqb a b) && holds named a) ≡ true = sym (holds_partners named b a) ∙ e in
        let q : not (eqb a b) && holds named a ≡ true = and_right (holds named b) (not (eqb a b) && holds named a) p in
        (and_left (holds named b) _ p, eqb-false a b (not-true (eqb a b) (and_left (not (eqb a b)) (holds named a) q)), and_right (not (eqb a b)) (holds named a) q)

    partner_is : (a : ℕ) → holds named b ≡ true → ¬ (a ≡ b) → holds named a ≡ true → holds (partners named b) a ≡ true
    partner_is a p ne q = holds_partners named b a ∙ rw (p, ne_eqb a b ne, q)

    -- a presses on b: b waits, a is under way
    press : (a : ℕ) → holds (pressing waiting under b) a ≡ (holds named b && not (holds (entry s.released k) b)) && (holds (entry s.released k) a && not (holds (entry s.confirmed k) a))
    press a =
        holds_pressing waiting under b a
        ∙ rw (holds_less_any jobs named (entry s.released k) b (h.named.fits k) (h.released.fits k), holds_less_any jobs (entry s.released k) (entry s.confirmed k) a (h.released.fits k) (h.confirmed.fits k))

    row_to : RowPasses → Row s k b
    unfolding row_sound dep names in_mask released confirmed
    row_to e = record {
      may = λ a p. is_partner a (may_within.0 (and_left (within jobs (into s k b) (partners named b)) _ e) a p);
      has_to = λ a p q r t. has_within.0 (and_right (within jobs (into s k b) (partners named b)) _ e) a (press a ∙ rw (p, q, r, t));
    }

    row_from : Row s k b → RowPasses
    unfolding row_sound dep names in_mask released confirmed
    row_from r =
        and_both
        (may_within.1 (λ a p. let (q, ne, o) = r.may a p in partner_is a q ne o))
        (has_within.1
        (λ a p.
        let q : (holds named b && not (holds (entry s.released k) b)) && (holds (entry s.released k) a && not (holds (entry s.confirmed k) a)) ≡ true = sym (press a) ∙ p in
        let w : holds named b && not (holds (entry s.released k) b) ≡ true = and_left _ (holds (entry s.released k) a && not (holds (entry s.confirmed k) a)) q in
        let u : holds (entry s.released k) a && not (holds (entry s.confirmed k) a) ≡ true = and_right (holds named b && not (holds (entry s.released k) b)) _ q in
        r.has_to a
        (and_left (holds named b) _ w)
        (not-true _ (and_right (holds named b) _ w))
        (and_left (holds (entry s.released k) a) _ u)
        (not-true _ (and_right (holds (entry s.released k) a) _ u))))

  -- all of it

  rows_are : rows_sound (drop (k * jobs) s.dependencies) named waiting under ≡ every jobs (λ b. row_sound named waiting under b (entry (drop (k * jobs) s.dependencies) b))
  unfolding rows_sound
  rows_are = refl

  row_at : (b : ℕ) → row_sound named waiting under b (entry (drop (k * jobs) s.dependencies) b) ≡ row_sound named waiting under b (into s k b)
  unfolding into
  row_at b = ap (row_sound named waiting under b) (get_or-drop (k * jobs) s.dependencies b 0)

  pub database_iff : (sound_at s k ≡ true) ↔ (Marks s k × ((b : ℕ) → b < jobs → Row s k b))
  unfolding database_sound steps_sound
  database_iff = (
    λ e. (
      marks_to (and_left _ (rows_sound (drop (k * jobs) s.dependencies) named waiting under) e),
      λ b l. row_to b (sym (row_at b) ∙ every_at jobs _ (sym rows_are ∙ and_right (marks_sound named (entry s.asked k) (entry s.released k) (entry s.confirmed k) s.held) _ e) b l),
    ),
    λ e. and_both (marks_from e.0) (rows_are ∙ every_of jobs _ (λ b l. row_at b ∙ row_from b (e.1 b l))),
  )
