-- The laws of texts put into a buffer. Assumes nothing.
use Prim.Native.Nat.{ℕ, ◌+◌, ◌≤◌, ◌<◌}
use mathlib.Core.Path.{◌≡◌, sym, ap, subst, ◌∙◌}
use mathlib.Core.List.{List, [], ◌∷◌, ◌++◌, append_assoc, append-nil}
use native.Mathlib.Omega.{arith}
use native.Mathlib.Nat.{add_assoc, add-zero}
use native.Mathlib.Numerals.{add-one}
use lib.ListN.{length, take, drop, set, length-append, length-drop, take-append-drop}
use lib.Seq.{set_split, take_at, drop_at, drop-drop, drop-length, length-take-le}
use Rattle.layout.specs.Put.{put, Counts}

pub put_none : (o : List ℕ) (at : ℕ) → put o at [] ≡ o
unfolding put
put_none o at = rw (add-zero at) (take-append-drop at o)

pub put_one : (o : List ℕ) (at x : ℕ) → at < length o → set o at x ≡ put o at (x ∷ [])
unfolding put
put_one o at x h = rw add-one (set_split o at x h)

pub length_put : (o : List ℕ) (at : ℕ) (t : List ℕ) → at + length t ≤ length o → length (put o at t) ≡ length o
unfolding put
length_put o at t h = simp (length-append, length-drop, length-take-le at o (omega arith)) (omega arith)

-- two pieces, one after the other
pub put_put : (o : List ℕ) (at : ℕ) (t u : List ℕ) → at + length t ≤ length o → put (put o at t) (at + length t) u ≡ put o at (t ++ u)
unfolding put
put_put o at t u h =
    let l : length (take at o ++ t) ≡ at + length t = length-append (take at o) t ∙ ap (λ (n : ℕ). n + length t) (length-take-le at o (omega arith)) in
    let e : take at o ++ (t ++ drop (at + length t) o) ≡ (take at o ++ t) ++ drop (at + length t) o = sym (append_assoc (take at o) t (drop (at + length t) o)) in
    let a : take (at + length t) (take at o ++ (t ++ drop (at + length t) o)) ≡ take at o ++ t = ap (take (at + length t)) e ∙ take_at (take at o ++ t) (drop (at + length t) o) (at + length t) l in
    let b : drop (at + length t + length u) (take at o ++ (t ++ drop (at + length t) o)) ≡ drop (at + length (t ++ u)) o =
    sym (drop-drop (length u) (at + length t) (take at o ++ (t ++ drop (at + length t) o)))
    ∙ ap (drop (length u)) (ap (drop (at + length t)) e ∙ drop_at (take at o ++ t) (drop (at + length t) o) (at + length t) l)
    ∙ drop-drop (length u) (at + length t) o
    ∙ ap (λ (n : ℕ). drop n o) (add_assoc at (length t) (length u) ∙ ap (λ (n : ℕ). at + n) (sym (length-append t u))) in
    rw (a, b) (simp append_assoc)

-- a byte after a text, and a text after a text
pub then_byte : (o : List ℕ) (at : ℕ) (t : List ℕ) (x p : ℕ) (o₁ : List ℕ) → p ≡ at + length t → p < length o → o₁ ≡ put o at t →
    (p + 1 ≡ at + length (t ++ (x ∷ []))) × (set o₁ p x ≡ put o at (t ++ (x ∷ [])))
then_byte o at t x p o₁ ep l eo =
    let lp : length (put o at t) ≡ length o = length_put o at t (omega arith) in
    (simp length-append (omega arith), rw (ep, eo) (put_one (put o at t) (at + length t) x (rw lp (omega arith)) ∙ put_put o at t (x ∷ []) (omega arith)))

pub then_text : (o : List ℕ) (at : ℕ) (t u : List ℕ) (p r : ℕ) (o₁ o₂ : List ℕ) → p ≡ at + length t → p ≤ length o → o₁ ≡ put o at t → r ≡ p + length u → o₂ ≡ put o₁ p u →
    (r ≡ at + length (t ++ u)) × (o₂ ≡ put o at (t ++ u))
then_text o at t u p r o₁ o₂ ep l eo er eo₂ = (simp length-append (omega arith), eo₂ ∙ rw (ep, eo) (put_put o at t u (omega arith)))

pub counts : (n : ℕ) (o : List ℕ) → n ≤ length o → Counts n o
counts n o h = (h, sym (length-take-le n o h))

-- a text that takes the place of the whole
pub put_all : (o t : List ℕ) → length t ≡ length o → put o 0 t ≡ t
unfolding put
put_all o t h = let e : 0 + length t ≡ length o = omega arith in rw (e, drop-length o, append-nil)

-- o₁ is o with the text t from index at on, and p is the index after it
pub record Filled (o : List ℕ) (at : ℕ) (t : List ℕ) (p : ℕ) (o₁ : List ℕ) : Type 0 where
  pub ends : p ≡ at + length t
  pub room : p ≤ length o
  pub is : o₁ ≡ put o at t

pub filled_none : (o : List ℕ) (at : ℕ) → at ≤ length o → Filled o at [] at o
filled_none o at h = record { ends = omega arith; room = h; is = sym (put_none o at) }

-- n bytes more
pub filled_on : (o : List ℕ) (at : ℕ) (t : List ℕ) (p : ℕ) (o₁ u : List ℕ) (n : ℕ) (o₂ : List ℕ) → Filled o at t p o₁ → length u ≡ n → p + n ≤ length o → o₂ ≡ put o₁ p u →
    Filled o at (t ++ u) (p + n) o₂
filled_on o at t p o₁ u n o₂ f l h e = record {
  ends = simp length-append (omega (arith, f.ends));
  room = h;
  is = (then_text o at t u p (p + n) o₁ o₂ f.ends f.room f.is (omega arith) e).1;
}

-- the index after it, said in another way
pub filled_to : (q : ℕ) {o : List ℕ} {at : ℕ} {t : List ℕ} {p : ℕ} {o₁ : List ℕ} → Filled o at t p o₁ → p ≡ q → Filled o at t q o₁
filled_to q {o} {at} {t} {p} {o₁} f e = subst (λ (x : ℕ). Filled o at t x o₁) e f

pub filled_long : (o : List ℕ) (at : ℕ) (t : List ℕ) (p : ℕ) (o₁ : List ℕ) → Filled o at t p o₁ → length o₁ ≡ length o
filled_long o at t p o₁ f = ap length f.is ∙ length_put o at t (omega (arith, f.ends, f.room))
