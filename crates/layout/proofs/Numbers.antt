-- Pieces of one length, and the loops that write and read numbers one after another. Assumes nothing.
use Prim.Native.Nat.{ℕ, zero, suc, ◌+◌, ◌*◌, ◌≤◌, ◌<◌}
use mathlib.Core.Path.{◌≡◌, refl, sym, ap, ◌∙◌}
use mathlib.Core.List.{List, [], ◌++◌, append_assoc, map}
use mathlib.Core.Logic.{⊎_elim}
use native.Mathlib.Omega.{arith}
use native.Mathlib.Nat.{mul-suc, mul-le-mul_left, eq-or-lt_of_le, le_of_suc-le-suc, le_antisymm}
use native.Mathlib.Numerals.{add-one}
use lib.ListN.{length, take, drop, set, get_or, length-append}
use lib.Seq.{take_at, drop_at}
use Rattle.std.proofs.lemmas.List.{get_or-map, length-map, map-id, map-set}
use Rattle.loops.proofs.Tables.{table_none, table_turn, table_done}
use Rattle.layout.specs.Put.{put}
use Rattle.layout.specs.Bytes.{bytes_of, number_at, pieces, bytes_of_all, numbers_at}
use Rattle.layout.proofs.Put.{Filled, filled_none, filled_on}
use Rattle.layout.proofs.Number.{length_bytes}

pub pieces_same : (n : ℕ) (f g : ℕ → List ℕ) → ((i : ℕ) → i < n → f i ≡ g i) → pieces n f ≡ pieces n g
unfolding pieces
pieces_same zero f g e = refl
pieces_same (suc n) f g e = rw (pieces_same n f g (λ i l. e i (omega arith)), e n (omega arith))

module _ (k : ℕ) (f : ℕ → List ℕ) (lf : (i : ℕ) → length (f i) ≡ k) where
  pub length_pieces : (n : ℕ) → length (pieces n f) ≡ k * n
  unfolding pieces
  length_pieces zero = omega arith
  length_pieces (suc n) = simp length-append (omega (arith, length_pieces n, lf n, mul-suc k n))

  pub piece_at : (n i : ℕ) (z : List ℕ) → i < n → take k (drop (k * i) (pieces n f ++ z)) ≡ f i
  unfolding pieces
  piece_at zero i z h = absurd (omega arith)
  piece_at (suc n) i z h =
      ap (λ (l : List ℕ). take k (drop (k * i) l)) (append_assoc (pieces n f) (f n) z)
      ∙ ⊎_elim (λ e. rw e (ap (take k) (drop_at (pieces n f) (f n ++ z) (k * n) (length_pieces n)) ∙ take_at (f n) z k (lf n)))
      (λ l. piece_at n i (f n ++ z) l) (eq-or-lt_of_le (le_of_suc-le-suc h))

  -- the loop that puts them: its start, a turn
  pub pieces_none : (o : List ℕ) (at : ℕ) → at ≤ length o → Filled o at (pieces 0 f) (at + k * 0) o
  unfolding pieces
  pieces_none o at h = let e : at + k * 0 ≡ at = omega arith in rw e (filled_none o at h)

  pub pieces_turn : (o : List ℕ) (at i p : ℕ) (o₁ o₂ : List ℕ) → Filled o at (pieces i f) (at + k * i) o₁ → at + k * i + k ≤ length o → p ≡ at + k * i → o₂ ≡ put o₁ p (f i) →
      Filled o at (pieces (i + 1) f) (at + k * (i + 1)) o₂
  unfolding pieces
  pieces_turn o at i p o₁ o₂ g h q e =
      let m : at + k * (i + 1) ≡ at + k * i + k = omega (arith, mul-suc k i) in
      rw (m, add-one) (filled_on o at (pieces i f) (at + k * i) o₁ (f i) k o₂ g (lf i) h (rw q at e))

-- numbers written
pub length_all : (k n : ℕ) (a : List ℕ) → length (bytes_of_all k n a) ≡ k * n
unfolding bytes_of_all
length_all k n a = length_pieces k (λ i. bytes_of k (get_or a i 0)) (λ i. length_bytes k (get_or a i 0)) n

pub same_all : (k n : ℕ) (a b : List ℕ) → ((i : ℕ) → get_or a i 0 ≡ get_or b i 0) → bytes_of_all k n a ≡ bytes_of_all k n b
unfolding bytes_of_all
same_all k n a b h = pieces_same n _ _ (λ i l. ap (bytes_of k) (h i))

-- k bytes more, of the number at index i
room : (k at i n m : ℕ) → at + k * n ≤ m → i < n → at + k * i + k ≤ m
room k at i n m h l = omega (arith, mul-suc k i, mul-le-mul_left k l)

-- the loop that writes them, each element by its number: its start, a turn, its end
module _ {A : Type 0} (value : A → ℕ) (k : ℕ) (a : List A) (o : List ℕ) (at : ℕ) (h : at + k * length a ≤ length o) where
  pub write_none : Filled o at (bytes_of_all k 0 (map value a)) (at + k * 0) o
  unfolding bytes_of_all
  write_none = pieces_none k (λ i. bytes_of k (get_or (map value a) i 0)) (λ i. length_bytes k (get_or (map value a) i 0)) o at (omega (arith, h))

  pub write_turn : (i p : ℕ) (x : A) (o₁ o₂ : List ℕ) → Filled o at (bytes_of_all k i (map value a)) (at + k * i) o₁ → i < length a → p ≡ at + k * i → x ≡ get_or a i x →
      o₂ ≡ put o₁ p (bytes_of k (value x)) → Filled o at (bytes_of_all k (i + 1) (map value a)) (at + k * (i + 1)) o₂
  unfolding bytes_of_all
  write_turn i p x o₁ o₂ g l q v e =
      let same : value x ≡ get_or (map value a) i 0 = ap value v ∙ sym (get_or-map value a i x 0 l) in
      pieces_turn k (λ j. bytes_of k (get_or (map value a) j 0)) (λ j. length_bytes k (get_or (map value a) j 0)) o at i p o₁ o₂ g (room k at i (length a) (length o) h l) q (rw same at e)

  pub write_done : (i : ℕ) (o₁ : List ℕ) → i ≤ length a → length a ≤ i → Filled o at (bytes_of_all k i (map value a)) (at + k * i) o₁ → o₁ ≡ put o at (bytes_of_all k (length a) (map value a))
  write_done i o₁ h₁ h₂ g = g.is ∙ ap (λ (j : ℕ). put o at (bytes_of_all k j (map value a))) (le_antisymm h₁ h₂)

-- a number, and n numbers that are their own values, after a text
pub filled_number : (o : List ℕ) (at : ℕ) (t : List ℕ) (p : ℕ) (o₁ : List ℕ) (k x : ℕ) (o₂ : List ℕ) → Filled o at t p o₁ → p + k ≤ length o → o₂ ≡ put o₁ p (bytes_of k x) →
    Filled o at (t ++ bytes_of k x) (p + k) o₂
filled_number o at t p o₁ k x o₂ f h e = filled_on o at t p o₁ (bytes_of k x) k o₂ f (length_bytes k x) h e

pub filled_numbers : (o : List ℕ) (at : ℕ) (t : List ℕ) (p : ℕ) (o₁ : List ℕ) (k n : ℕ) (a o₂ : List ℕ) → Filled o at t p o₁ → length a ≡ n → p + k * n ≤ length o →
    o₂ ≡ put o₁ p (bytes_of_all k (length a) (map (λ x. x) a)) → Filled o at (t ++ bytes_of_all k n a) (p + k * n) o₂
filled_numbers o at t p o₁ k n a o₂ f l h e =
    filled_on o at t p o₁ (bytes_of_all k n a) (k * n) o₂ f (length_all k n a) h (e ∙ rw (map-id a, l))

-- the loop that reads numbers, each element by its number: its start, a turn, its end
module _ {A : Type 0} (value : A → ℕ) (k : ℕ) (b : List ℕ) (at : ℕ) where
  pub read_none : [] ≡ numbers_at k 0 b at
  unfolding numbers_at
  read_none = table_none (λ j. number_at k b (at + k * j))

  pub read_turn : (a : List A) (i p : ℕ) (x : A) → i < length a → p ≡ at + k * i → value x ≡ number_at k b p → take i (map value a) ≡ numbers_at k i b at
      → take (i + 1) (map value (set a i x)) ≡ numbers_at k (i + 1) b at
  unfolding numbers_at
  read_turn a i p x l q v e =
      rw (map-set value a i x) (table_turn (map value a) (λ j. number_at k b (at + k * j)) i (length a) (value x) (v ∙ ap (number_at k b) q) (length-map a value) l e)

  pub read_done : (a : List A) (i n : ℕ) → length a ≡ n → i ≤ n → n ≤ i → take i (map value a) ≡ numbers_at k i b at → map value a ≡ numbers_at k n b at
  unfolding numbers_at
  read_done a i n l h h₂ e = table_done (map value a) (λ j. number_at k b (at + k * j)) i n (length-map a value ∙ l) h h₂ e
