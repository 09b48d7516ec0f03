-- Numbers written and read back, and bytes read and written back, between whatever else stands in the buffer. Assumes nothing.
use Prim.Native.Nat.{ℕ, zero, suc, ◌+◌, ◌*◌, ◌^◌, ◌≤◌, ◌<◌}
use mathlib.Core.Path.{◌≡◌, sym, ap, ◌∙◌}
use mathlib.Core.List.{List, [], ◌∷◌, ◌++◌}
use native.Mathlib.Omega.{arith}
use native.Mathlib.Nat.{mul-suc, mul-le-mul_left}
use lib.ListN.{length, take, drop, get_or, length-drop, take-append-drop}
use lib.Seq.{take_at, drop_at, drop-drop, take-add, take_all, length-take-le, get_or-drop}
use Rattle.loops.proofs.Tables.{table_same, table_of, table_at}
use Rattle.layout.specs.Bytes.{bytes_of, number_of, number_at, pieces, bytes_of_all, numbers_at}
use Rattle.layout.proofs.Number.{length_bytes, number_bytes_lem, bytes_number}
use Rattle.layout.proofs.Numbers.{pieces_same, piece_at}

-- where the bytes from index at on begin with a text, they go on with the rest after it
pub next_part : (b : List ℕ) (at : ℕ) (t z : List ℕ) (n : ℕ) → length t ≡ n → drop at b ≡ t ++ z → drop (at + n) b ≡ z
next_part b at t z n l e = sym (drop-drop n at b) ∙ ap (drop n) e ∙ drop_at t z n l

-- a number that stands at index at, and n of them
pub number_there : (k x : ℕ) (b : List ℕ) (at : ℕ) (z : List ℕ) → x < 256 ^ k → drop at b ≡ bytes_of k x ++ z → number_at k b at ≡ x
unfolding number_at
number_there k x b at z h e = ap (λ (l : List ℕ). number_of (take k l)) e ∙ ap number_of (take_at (bytes_of k x) z k (length_bytes k x)) ∙ number_bytes_lem k x h

pub numbers_there : (k n : ℕ) (a b : List ℕ) (at : ℕ) (z : List ℕ) → length a ≡ n → ((i : ℕ) → get_or a i 0 < 256 ^ k) → drop at b ≡ bytes_of_all k n a ++ z → numbers_at k n b at ≡ a
unfolding number_at numbers_at bytes_of_all
numbers_there k n a b at z l h e =
    table_same n _ (λ i. get_or a i 0)
    (λ i lt.
    ap (λ (r : List ℕ). number_of (take k r)) (sym (drop-drop (k * i) at b) ∙ ap (drop (k * i)) e)
    ∙ ap number_of (piece_at k (λ j. bytes_of k (get_or a j 0)) (λ j. length_bytes k (get_or a j 0)) n i z lt)
    ∙ number_bytes_lem k (get_or a i 0) (h i))
    ∙ table_of a 0 n l

small_front : (k : ℕ) (l : List ℕ) → ((i : ℕ) → get_or l i 0 < 256) → (i : ℕ) → get_or (take k l) i 0 < 256
small_front zero l h i = omega arith
small_front (suc k) [] h i = omega arith
small_front (suc k) (x ∷ l) h zero = h 0
small_front (suc k) (x ∷ l) h (suc i) = small_front k l (λ j. h (suc j)) i

-- n pieces of k bytes are the bytes that they are cut from
cut : (k n : ℕ) (b : List ℕ) (at : ℕ) → pieces n (λ i. take k (drop (at + k * i) b)) ≡ take (k * n) (drop at b)
unfolding pieces
cut k zero b at = let e : k * 0 ≡ 0 = omega arith in rw e
cut k (suc n) b at = rw (mul-suc k n, take-add (k * n) k (drop at b), drop-drop (k * n) at b, cut k n b at)

module _ (b : List ℕ) (small : (i : ℕ) → get_or b i 0 < 256) where
  -- the k bytes at index at, and n times k
  pub bytes_there : (k at : ℕ) → at + k ≤ length b → bytes_of k (number_at k b at) ≡ take k (drop at b)
  unfolding number_at
  bytes_there k at h =
      bytes_number k (take k (drop at b)) (length-take-le k (drop at b) (rw (length-drop at b) (omega arith)))
      (small_front k (drop at b) (λ i. rw (get_or-drop at b i 0) (small (at + i))))

  pub all_there : (k n at : ℕ) → at + k * n ≤ length b → bytes_of_all k n (numbers_at k n b at) ≡ take (k * n) (drop at b)
  unfolding bytes_of_all numbers_at
  all_there k n at h =
      pieces_same n _ (λ i. take k (drop (at + k * i) b))
      (λ i l. ap (bytes_of k) (table_at n (λ j. number_at k b (at + k * j)) i 0 l) ∙ bytes_there k (at + k * i) (omega (arith, mul-suc k i, mul-le-mul_left k l)))
      ∙ cut k n b at

-- a part and the rest
pub rejoin : (b : List ℕ) (at n : ℕ) (x y : List ℕ) → x ≡ take n (drop at b) → y ≡ drop (at + n) b → x ++ y ≡ drop at b
rejoin b at n x y p q = rw (p, q) (ap (λ (r : List ℕ). take n (drop at b) ++ r) (sym (drop-drop n at b)) ∙ take-append-drop n (drop at b))

-- the last part
pub last_part : (b : List ℕ) (at n : ℕ) (x : List ℕ) → length b ≤ at + n → x ≡ take n (drop at b) → x ≡ drop at b
last_part b at n x h p = p ∙ take_all n (drop at b) (rw (length-drop at b) (omega arith))
