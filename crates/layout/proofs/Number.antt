-- One number as bytes. Assumes nothing.
use Prim.Native.Nat.{ℕ, zero, suc, ◌+◌, ◌-◌, ◌*◌, ◌/◌, ◌%◌, ◌^◌, ◌≤◌, ◌<◌}
use mathlib.Core.Path.{◌≡◌, refl, ap, ◌∙◌}
use mathlib.Core.List.{List, [], ◌∷◌}
use native.Mathlib.Omega.{arith}
use native.Mathlib.Nat.{pow-suc}
use native.Mathlib.Numerals.{add-one}
use lib.ListN.{length, set, get_or}
use mir.Syntax.{w32}
use borrow.Rule.Slice.PartMut.{put_mid}
use Rattle.std.specs.Int.{to_le_bytes}
use lib.Seq.{drop-cons, drop-drop}
use Rattle.layout.specs.Put.{put}
use Rattle.layout.specs.Bytes.{bytes_of, number_of, number_at}
use Rattle.layout.proofs.Put.{put_one}

pub length_bytes : (k x : ℕ) → length (bytes_of k x) ≡ k
unfolding bytes_of
length_bytes zero x = refl
length_bytes (suc k) x = ap suc (length_bytes k (x / 256))

-- a byte is its own only byte
pub put_byte : (o : List ℕ) (at x : ℕ) → at < length o → x < 256 → set o at x ≡ put o at (bytes_of 1 x)
unfolding bytes_of
put_byte o at x l h = let e : x ≡ x % 256 = omega arith in put_one o at x l ∙ ap (λ (y : ℕ). put o at (y ∷ [])) e

-- bytes that are written to a part of a buffer
pub put_bytes : (k x : ℕ) (o u : List ℕ) (at j : ℕ) → u ≡ bytes_of k x → j ≡ at + k → put_mid at (j - at) o u ≡ put o at (bytes_of k x)
unfolding put
put_bytes k x o u at j q e =
    let n : j - at ≡ k = omega (arith, e) in
    rw (q, n, length_bytes k x, drop-drop k at o)

-- there and back
pub number_bytes_lem : (k x : ℕ) → x < 256 ^ k → number_of (bytes_of k x) ≡ x
unfolding bytes_of number_of
number_bytes_lem zero x h = omega arith
number_bytes_lem (suc k) x h =
    let e : 256 ^ suc k ≡ 256 ^ k * 256 = pow-suc 256 k in
    omega (arith, number_bytes_lem k (x / 256) (omega arith))

-- back and there
pub bytes_number : (k : ℕ) (l : List ℕ) → length l ≡ k → ((i : ℕ) → get_or l i 0 < 256) → bytes_of k (number_of l) ≡ l
unfolding bytes_of number_of
bytes_number zero [] e h = refl
bytes_number zero (x ∷ l) e h = absurd (omega arith)
bytes_number (suc k) [] e h = absurd (omega arith)
bytes_number (suc k) (x ∷ l) e h =
    let small : x < 256 = h 0 in
    let low : (x + 256 * number_of l) % 256 ≡ x = omega arith in
    let high : (x + 256 * number_of l) / 256 ≡ number_of l = omega arith in
    rw (low, high, bytes_number k l (omega arith) (λ i. h (suc i)))

-- bytes read one by one
number_none : (b : List ℕ) (at : ℕ) → number_at 0 b at ≡ 0
unfolding number_at number_of
number_none b at = refl

number_more : (k : ℕ) (b : List ℕ) (at j : ℕ) → j ≡ at + 1 → at < length b → number_at (suc k) b at ≡ get_or b at 0 + 256 * number_at k b j
unfolding number_at number_of
number_more k b at j e h = rw (e, add-one, drop-cons b at 0 h)

pub number_one : (b : List ℕ) (at : ℕ) → at < length b → number_at 1 b at ≡ get_or b at 0
number_one b at h = omega (arith, number_more 0 b at (at + 1) refl h, number_none b (at + 1))

pub number_two : (b : List ℕ) (at : ℕ) → at + 2 ≤ length b → number_at 2 b at ≡ get_or b at 0 + 256 * get_or b (at + 1) 0
number_two b at h = omega (arith, number_more 1 b at (at + 1) refl (omega arith), number_one b (at + 1) (omega arith))

pub number_four : (b : List ℕ) (at : ℕ) → at + 4 ≤ length b → number_at 4 b at ≡ get_or b at 0 + 256 * get_or b (at + 1) 0 + 65536 * get_or b (at + 2) 0 + 16777216 * get_or b (at + 3) 0
number_four b at h =
    omega (arith, number_more 3 b at (at + 1) refl (omega arith), number_more 2 b (at + 1) (at + 2) (omega arith) (omega arith), number_more 1 b (at + 2) (at + 3) (omega arith) (omega arith), number_one b (at + 3) (omega arith))

-- what std's `to_le_bytes` writes of four bytes; of two it is the same by its definition
pub le_bytes_four : (x : ℕ) → to_le_bytes w32 x ≡ bytes_of 4 x
unfolding bytes_of
le_bytes_four x =
    let two : x / 65536 % 256 ≡ x / 256 / 256 % 256 = omega arith in
    let three : x / 16777216 % 256 ≡ x / 256 / 256 / 256 % 256 = omega arith in
    rw (two, three)

-- the two low bytes of a number are those of its low half
pub bytes_low : (x y : ℕ) → y ≡ x % 2 ^ 16 → bytes_of 2 y ≡ bytes_of 2 x
unfolding bytes_of
bytes_low x y e =
    let low : y % 256 ≡ x % 256 = omega (arith, e) in
    let high : y / 256 % 256 ≡ x / 256 % 256 = omega (arith, e) in
    rw (low, high)
