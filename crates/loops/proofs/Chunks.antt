-- A list in pieces of n elements. Assumes nothing.
use Rattle.std.proofs.Common.{◌≡◌, ◌<◌, ℕ, zero, suc, ◌+◌, ◌*◌, List, [], get_or, take, drop, ap, ◌∙◌, arith}
use lib.Seq.{drop-drop, get_or-drop}
use Rattle.std.specs.Simd.{first_chunks}
use Rattle.std.proofs.lemmas.List.{get_or-take}

-- piece i begins at i * n
piece : {X : Type 0} (n m : ℕ) (l : List X) (i : ℕ) → i < m → get_or (first_chunks n m l) i [] ≡ take n (drop (i * n) l)
piece n zero l i h = absurd (omega arith)
piece n (suc m) l zero h = let e : 0 * n ≡ 0 = omega arith in rw e
piece n (suc m) l (suc i) h = piece n m (drop n l) i (omega arith) ∙ ap (take n) (drop-drop (i * n) n l ∙ ap (λ (j : ℕ). drop j l) (omega arith))

-- its element j
pub piece_at : {X : Type 0} (n m : ℕ) (l : List X) (i j : ℕ) (d : X) → i < m → j < n → get_or (get_or (first_chunks n m l) i []) j d ≡ get_or l (i * n + j) d
piece_at n m l i j d h k = ap (λ xs. get_or xs j d) (piece n m l i h) ∙ get_or-take n (drop (i * n) l) j d k ∙ get_or-drop (i * n) l j d
