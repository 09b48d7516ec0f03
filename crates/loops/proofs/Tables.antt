-- The laws of tables, and of the loop that fills one. Assumes nothing.
use Prim.Native.Nat.{ℕ, zero, suc, ◌+◌, ◌≤◌, ◌<◌}
use mathlib.Core.Path.{◌≡◌, refl, sym, ap, ◌∙◌}
use mathlib.Core.List.{List, [], ◌∷◌}
use mathlib.Core.Logic.{⊎_elim}
use native.Mathlib.Omega.{arith}
use native.Mathlib.Nat.{le_antisymm, eq-or-lt_of_le, le_of_suc-le-suc}
use native.Mathlib.Numerals.{add-one}
use lib.ListN.{length, take, set, get_or, length-append, get_or-append}
use lib.Seq.{take-suc, take_all, take-suc-set, get_or_at}
use Rattle.std.specs.Fn.{Mut, Called}
use Rattle.std.specs.Array.{IsFromFnResult, IsFromFnResultFrom}
use Rattle.loops.specs.Table.{table}

pub length_table : {A : Type 0} (n : ℕ) (f : ℕ → A) → length (table n f) ≡ n
unfolding table
length_table zero f = refl
length_table (suc n) f = simp length-append (omega (arith, length_table n f))

pub table_same : {A : Type 0} (n : ℕ) (f g : ℕ → A) → ((i : ℕ) → i < n → f i ≡ g i) → table n f ≡ table n g
unfolding table
table_same zero f g e = refl
table_same (suc n) f g e = rw (table_same n f g (λ i l. e i (omega arith)), e n (omega arith))

pub table_at : {A : Type 0} (n : ℕ) (f : ℕ → A) (i : ℕ) (d : A) → i < n → get_or (table n f) i d ≡ f i
unfolding table
table_at zero f i d l = absurd (omega arith)
table_at (suc n) f i d l =
    ⊎_elim (λ q. rw q (get_or_at (table n f) (f n) [] d n (length_table n f)))
    (λ m. get_or-append (table n f) (f n ∷ []) d i (rw (length_table n f) m) ∙ table_at n f i d m)
    (eq-or-lt_of_le (le_of_suc-le-suc l))

-- a list is the table of its elements
pub table_take : {A : Type 0} (l : List A) (d : A) (n : ℕ) → n ≤ length l → table n (λ i. get_or l i d) ≡ take n l
unfolding table
table_take l d zero h = refl
table_take l d (suc n) h = rw (table_take l d n (omega arith)) (sym (take-suc l n d h))

pub table_of : {A : Type 0} (l : List A) (d : A) (n : ℕ) → length l ≡ n → table n (λ i. get_or l i d) ≡ l
table_of l d n e = table_take l d n (omega arith) ∙ take_all n l (omega arith)

-- the loop that fills one: its start, a turn, its end at n, and its end where the list has no more
pub table_none : {A : Type 0} (f : ℕ → A) → [] ≡ table 0 f
unfolding table
table_none f = refl

pub table_turn : {A : Type 0} (a : List A) (f : ℕ → A) (i n : ℕ) (x : A) → x ≡ f i → length a ≡ n → i < n → take i a ≡ table i f → take (i + 1) (set a i x) ≡ table (i + 1) f
unfolding table
table_turn a f i n x q l h e = rw (add-one, q) (take-suc-set a i (f i) (omega arith) ∙ rw e)

pub table_filled : {A : Type 0} (a : List A) (f : ℕ → A) (i n : ℕ) → i ≤ n → n ≤ i → take i a ≡ table i f → take n a ≡ table n f
table_filled a f i n h h₂ e = ap (λ (k : ℕ). take k a) (sym (le_antisymm h h₂)) ∙ e ∙ ap (λ (k : ℕ). table k f) (le_antisymm h h₂)

pub table_done : {A : Type 0} (a : List A) (f : ℕ → A) (i n : ℕ) → length a ≡ n → i ≤ n → n ≤ i → take i a ≡ table i f → a ≡ table n f
table_done a f i n l h h₂ e = sym (take_all i a (omega arith)) ∙ e ∙ ap (λ (k : ℕ). table k f) (le_antisymm h h₂)

-- the list that `array::from_fn` makes, where each call of its closure gives f and changes nothing
made_at : {A F : Type 0} {g : Mut F (ℕ × Unit {0}) A} (f : ℕ → A) (c : F) (l : List A) (d : A) → ((i : ℕ) (y : A) (q : F) → Called g c (i, tt) y q → (q ≡ c) × (y ≡ f i))
    → (n i j : ℕ) → IsFromFnResultFrom g c l i n → i ≤ j → j < i + n → get_or l j d ≡ f j
made_at f c l d each zero i j made h b = absurd (omega arith)
made_at {g = g} f c l d each (suc n) i j made h b =
    let here = each i made.1 made.0 made.3 in
    ⊎_elim (λ e. rw (← e) (made.2.1 d ∙ here.1)) (λ m. made_at f c l d each n (i + 1) j (rw here.0 at made.4) (omega arith) (omega arith)) (eq-or-lt_of_le h)

pub table_made : {A F : Type 0} {g : Mut F (ℕ × Unit {0}) A} (f : ℕ → A) (c : F) (l : List A) (n : ℕ) (d : A) → IsFromFnResult g c l n
    → ((i : ℕ) (y : A) (q : F) → Called g c (i, tt) y q → (q ≡ c) × (y ≡ f i)) → l ≡ table n f
table_made f c l n d made each = sym (table_of l d n made.long) ∙ table_same n _ _ (λ i b. made_at f c l d each n 0 i made.each (omega arith) (omega (arith, b)))
