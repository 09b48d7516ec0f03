-- The test for soundness, as the code makes it over lent arrays, is the definition's. Assumes nothing.
use Prim.Native.Nat.{ℕ, ◌+◌, ◌-◌, ◌*◌, ◌%◌, ◌^◌, ◌<◌, ◌≤◌}
use native.Mathlib.Nat.{le_antisymm}
use native.Mathlib.Omega.{arith}
use mathlib.Core.Bool.{Bool, true, false, ◌&&◌}
use mathlib.Core.List.{List, []}
use mathlib.Core.Path.{◌≡◌, refl, sym, ap, ◌∙◌}
use borrow.Author.Tests.{ltb-true, ltb-false, eqb-true}
use lib.Bits.{bit_and, bit_or}
use lib.Dec.{eqb, ltb}
use lib.ListN.{get_or, drop}
use lib.Seq.{get_or-drop}
use Rattle.std.specs.Simd.{first_chunks}
use Rattle.loops.specs.Loop.{every}
use Rattle.loops.proofs.Chunks.{piece_at}
use Rattle.loops.proofs.Tests.{and_left}
use Rattle.loops.proofs.Turns.{over_none, over_more, every_none, every_on, every_fails, every_same}
use Rattle.mask.specs.Member.{holds, excluding, less, size}
use Rattle.mask.specs.Members.{union_of}
use Rattle.mask.proofs.Holds.{holds_beyond}
use Rattle.mask.proofs.Words.{or_shl, meets_shl, misses_shl, and_not_shl}
use Rattle.mask.proofs.Union.{or_empty, union_empty}
use Rattle.tables.specs.Limits.{jobs}
use Rattle.tables.specs.Tables.{entry}
use Rattle.tables.specs.Test.{listed, place_sound, marks_sound, partners, pressing, row_sound, rows_sound, steps_sound}
use Rattle.tables.specs.Parts.{place_in, row_wrong}

-- the opening order

pub place_open : (left n i o : ℕ) → left < 2 ^ jobs → ltb i n ≡ true → holds left o ≡ place_in left n i o
unfolding place_in
place_open left n i o h e = rw (place_in, e) (by (ltb o jobs) refl)
  where
    by : (b : Bool) → ltb o jobs ≡ b → holds left o ≡ b && holds left o
    by true e = refl
    by false e = holds_beyond jobs left o h (ltb-false o jobs e)

pub place_end : (left n i o : ℕ) → ltb i n ≡ false → eqb o 0 ≡ place_in left n i o
unfolding place_in
place_end left n i o e = rw (place_in, e)

-- what stands at a sound place is a slot
pub place_below : (left n i o : ℕ) → place_in left n i o ≡ true → o < jobs
unfolding place_in
place_below left n i o = by (ltb i n)
  where
    by : (b : Bool) → elim b [ true ↦ ltb o jobs && holds left o | false ↦ eqb o 0 ] ≡ true → o < jobs
    by true e = ltb-true o jobs (and_left (ltb o jobs) (holds left o) e)
    by false e = omega (arith, eqb-true o 0 e)

pub place_at : (order : List ℕ) (slots i left m n : ℕ) → left ≡ less jobs slots m → m ≡ listed order i → n ≡ size jobs slots
    → place_in left n i (entry order i) ≡ place_sound order slots i
unfolding place_in place_sound
place_at order slots i left m n l p q = rw (l, p, q)

pub listed_none : (order : List ℕ) → 0 ≡ listed order 0
unfolding listed
listed_none order = over_none _ _

pub listed_more : (order : List ℕ) (i m : ℕ) → entry order i < jobs → m ≡ listed order i
    → bit_or m (1 * 2 ^ entry order i % 2 ^ 32) ≡ listed order (i + 1)
unfolding listed
listed_more order i m l p = or_shl 32 m (entry order i) l ∙ over_more _ _ _ p

pub place_fails : (order : List ℕ) (slots i left m n : ℕ) → left ≡ less jobs slots m → m ≡ listed order i → n ≡ size jobs slots → i < jobs
    → place_in left n i (entry order i) ≡ false → false ≡ every jobs (place_sound order slots)
place_fails order slots i left m n l p q below e = every_fails _ jobs i below (sym (place_at order slots i left m n l p q) ∙ e)

-- for the code: one place, and the loop over them
pub ruleset one_place = (place_open, place_end)

pub ruleset places = (place_at, place_below, place_fails, listed_none, listed_more, every_none, every_on)

-- the steps at one database

pub marks_are : (named asked released confirmed held : ℕ)
    → eqb (bit_or (bit_or (bit_or (less jobs asked named) (less jobs released asked)) (less jobs confirmed released)) (less jobs (bit_and held named) confirmed)) 0
    ≡ marks_sound named asked released confirmed held
unfolding marks_sound
marks_are named asked released confirmed held = rw (or_empty, or_empty, or_empty)

pub without_slot : (m b : ℕ) → m < 2 ^ 32 → b < 32 → bit_and m (4294967295 - 1 * 2 ^ b % 4294967296) ≡ excluding m b
without_slot m b h l = and_not_shl 32 m b h l

-- for the code: slot b as a set
pub ruleset shifts = (meets_shl, misses_shl, without_slot)

row_is : (named waiting under b into : ℕ) → eqb (row_wrong named waiting under b into) 0 ≡ row_sound named waiting under b into
unfolding row_wrong row_sound
row_is named waiting under b into = or_empty (less jobs into (partners named b)) (less jobs (pressing waiting under b) into)

pub rows_are : (rows : List ℕ) (named waiting under : ℕ)
    → eqb (union_of jobs (λ b. row_wrong named waiting under b (entry rows b))) 0 ≡ rows_sound rows named waiting under
unfolding rows_sound
rows_are rows named waiting under =
    union_empty (λ b. row_wrong named waiting under b (entry rows b)) jobs
    ∙ every_same jobs _ _ (λ b l. row_is named waiting under b (entry rows b))

-- the loop that gathers what is wrong: its start, a turn and its end
module _ (rows : List ℕ) (named waiting under : ℕ) where
  abbrev pub wrong_before : ℕ → ℕ
  wrong_before b = union_of b (λ i. row_wrong named waiting under i (entry rows i))

  pub wrong_none : 0 ≡ wrong_before 0
  unfolding union_of
  wrong_none = over_none _ _

  pub wrong_more : (b wrong here : ℕ) → wrong ≡ wrong_before b → here ≡ row_wrong named waiting under b (entry rows b) → bit_or wrong here ≡ wrong_before (b + 1)
  unfolding union_of
  wrong_more b wrong here p q = rw q (over_more _ _ _ p)

  pub wrong_all : (b wrong : ℕ) → wrong ≡ wrong_before b → b ≤ jobs → jobs ≤ b → eqb wrong 0 ≡ rows_sound rows named waiting under
  wrong_all b wrong p u v = rw (p, le_antisymm u v) (rows_are rows named waiting under)

pub ruleset gathered_rows = (wrong_none, wrong_more, wrong_all)

-- the rows at database k among all the dependencies

rows_at : (dependencies : List ℕ) (n k named waiting under : ℕ) → k < n
    → rows_sound (get_or (first_chunks jobs n dependencies) k []) named waiting under ≡ rows_sound (drop (k * jobs) dependencies) named waiting under
unfolding rows_sound
rows_at dependencies n k named waiting under h =
    every_same jobs _ _ (λ b l. ap (row_sound named waiting under b) (piece_at jobs n dependencies k b 0 h l ∙ sym (get_or-drop (k * jobs) dependencies b 0)))

pub steps_at : (named asked released confirmed held : ℕ) (dependencies : List ℕ) (n k : ℕ) (rows : List (List ℕ)) → rows ≡ first_chunks jobs n dependencies → k < n
    → steps_sound named asked released confirmed held (get_or rows k []) ≡ steps_sound named asked released confirmed held (drop (k * jobs) dependencies)
unfolding steps_sound
steps_at named asked released confirmed held dependencies n k rows e l =
    rw e (ap (λ (b : Bool). marks_sound named asked released confirmed held && b) (rows_at dependencies n k named _ _ l))
