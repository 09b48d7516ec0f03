-- Pieces join: records may be read in pieces of whole records. Assumes nothing.
use Prim.Native.Nat.{ℕ, zero, suc, ◌+◌, ◌*◌, ◌%◌}
use mathlib.Core.Path.{◌≡◌, refl, sym, ap, ◌∙◌}
use mathlib.Core.List.{List, [], ◌∷◌, ◌++◌, append_assoc, append-nil}
use native.Mathlib.Omega.{arith}
use lib.ListN.{length}
use Rattle.coordinator.specs.declared.Coordinator.{Coordinator}
use Rattle.lines.specs.Lines.{answer, line_of, lines_of, state_after, lines_in}
use Rattle.lines.specs.Pieces.{joined, Whole, lines_of_pieces, state_after_pieces}

-- the lines of n whole records a, then those of b from the index and the state that a leaves
lines_join_at : (a b : List ℕ) (n j index : ℕ) (s : Coordinator) → length a ≡ 4 * n → j ≡ index + n →
    lines_of index s (a ++ b) ≡ lines_of index s a ++ lines_of j (state_after s a) b
unfolding lines_of state_after
lines_join_at [] b n j index s l e = let z : index ≡ j = omega arith in ap (λ (i : ℕ). lines_of i s b) z
lines_join_at (x ∷ []) b n j index s l e = absurd (omega arith)
lines_join_at (x ∷ y ∷ []) b n j index s l e = absurd (omega arith)
lines_join_at (x ∷ y ∷ z ∷ []) b n j index s l e = absurd (omega arith)
lines_join_at (x ∷ y ∷ z ∷ w ∷ a) b zero j index s l e = absurd (omega arith)
lines_join_at (x ∷ y ∷ z ∷ w ∷ a) b (suc n) j index s l e =
    ap (λ (t : List ℕ). line_of index (answer s x y z w) ++ t) (lines_join_at a b n j (index + 1) (answer s x y z w).state (omega arith) (omega arith))
    ∙ sym (append_assoc (line_of index (answer s x y z w)) (lines_of (index + 1) (answer s x y z w).state a) (lines_of j (state_after (answer s x y z w).state a) b))

pub lines_join : (a b : List ℕ) (index : ℕ) (s : Coordinator) → length a % 4 ≡ 0 → lines_of index s (a ++ b) ≡ lines_of index s a ++ lines_of (index + lines_in a) (state_after s a) b
lines_join a b index s h = lines_join_at a b (lines_in a) (index + lines_in a) index s (omega arith) refl

state_join_at : (a b : List ℕ) (n : ℕ) (s : Coordinator) → length a ≡ 4 * n → state_after s (a ++ b) ≡ state_after (state_after s a) b
unfolding state_after
state_join_at [] b n s l = refl
state_join_at (x ∷ []) b n s l = absurd (omega arith)
state_join_at (x ∷ y ∷ []) b n s l = absurd (omega arith)
state_join_at (x ∷ y ∷ z ∷ []) b n s l = absurd (omega arith)
state_join_at (x ∷ y ∷ z ∷ w ∷ a) b zero s l = absurd (omega arith)
state_join_at (x ∷ y ∷ z ∷ w ∷ a) b (suc n) s l = state_join_at a b n (answer s x y z w).state (omega arith)

pub state_join : (a b : List ℕ) (s : Coordinator) → length a % 4 ≡ 0 → state_after s (a ++ b) ≡ state_after (state_after s a) b
state_join a b s h = state_join_at a b (lines_in a) s (omega arith)

-- so playing the pieces one after another is playing the whole
pub pieces_lines : (ps : List (List ℕ)) (index : ℕ) (s : Coordinator) → Whole ps → lines_of_pieces index s ps ≡ lines_of index s (joined ps)
unfolding lines_of_pieces lines_of joined
pieces_lines [] index s h = refl
pieces_lines (p ∷ []) index s h = append-nil (lines_of index s p) ∙ ap (lines_of index s) (sym (append-nil p))
pieces_lines (p ∷ q ∷ ps) index s h =
    ap (λ (t : List ℕ). lines_of index s p ++ t) (pieces_lines (q ∷ ps) (index + lines_in p) (state_after s p) h.1)
    ∙ sym (lines_join p (joined (q ∷ ps)) index s h.0)

pub pieces_state : (ps : List (List ℕ)) (s : Coordinator) → Whole ps → state_after_pieces s ps ≡ state_after s (joined ps)
unfolding state_after_pieces state_after joined
pieces_state [] s h = refl
pieces_state (p ∷ []) s h = ap (state_after s) (sym (append-nil p))
pieces_state (p ∷ q ∷ ps) s h = pieces_state (q ∷ ps) (state_after s p) h.1 ∙ sym (state_join p (joined (q ∷ ps)) s h.0)
