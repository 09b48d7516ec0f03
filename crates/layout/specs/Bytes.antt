-- Numbers as bytes, low byte first, alone and one after another. Assumes nothing: these are definitions.
use Rattle.std.specs.Prelude.{ℕ, zero, suc, ◌+◌, ◌*◌, ◌/◌, ◌%◌, List, [], ◌∷◌, ◌++◌, take, drop, get_or}
use Rattle.loops.specs.Table.{table}

-- the k low bytes of x
unfoldable pub bytes_of : ℕ → ℕ → List ℕ
bytes_of zero x = []
bytes_of (suc k) x = x % 256 ∷ bytes_of k (x / 256)

-- the number that some bytes are, and the one of the k bytes from index at on
unfoldable pub number_of : List ℕ → ℕ
number_of [] = 0
number_of (x ∷ r) = x + 256 * number_of r

unfoldable pub number_at : ℕ → List ℕ → ℕ → ℕ
number_at k b at = number_of (take k (drop at b))

-- f 0 ++ f 1 ++ .. ++ f (n - 1)
unfoldable pub pieces : ℕ → (ℕ → List ℕ) → List ℕ
pieces zero f = []
pieces (suc n) f = pieces n f ++ f n

-- the first n numbers of a, k bytes each; and n numbers of k bytes each from index at on
unfoldable pub bytes_of_all : ℕ → ℕ → List ℕ → List ℕ
bytes_of_all k n a = pieces n (λ i. bytes_of k (get_or a i 0))

unfoldable pub numbers_at : ℕ → ℕ → List ℕ → ℕ → List ℕ
numbers_at k n b at = table n (λ i. number_at k b (at + k * i))
