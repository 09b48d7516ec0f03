-- What a chain of iterators answers over a list's elements. Assumes nothing.
use Rattle.std.proofs.Common.{◌≡◌, ℕ, zero, suc, ◌+◌, ◌≤◌, Bool, ◌&&◌, List, length, take, get_or, refl, ap, sym, ◌∙◌, arith, add-one, zero-add}
use Rattle.std.specs.List.{list_all, enumerate_from, sum_by}
use Rattle.std.proofs.lemmas.List.{take_all}
use Rattle.std.proofs.lemmas.List.Sums.{fold_more}
use Rattle.std.proofs.lemmas.List.Folds.{list_all_more}
use Rattle.std.proofs.lemmas.List.FromFn.{length-enumerate_from, get_or-enumerate_from}
use Rattle.loops.specs.Loop.{every}
use Rattle.loops.specs.Sum.{sum}
use Rattle.loops.proofs.Turns.{every_same}

-- whether p holds of them all
all_take : {X : Type 0} (p : X → Bool) (d : X) (l : List X) (n : ℕ) → n ≤ length l → list_all p (take n l) ≡ every n (λ i. p (get_or l i d))
unfolding every
all_take p d l zero h = refl
all_take p d l (suc n) h = rw (← add-one) (list_all_more p l n d (omega arith) ∙ ap (λ (b : Bool). b && p (get_or l n d)) (all_take p d l n (omega arith)))

pub all_list : {X : Type 0} (p : X → Bool) (d : X) (l : List X) (n : ℕ) → length l ≡ n → list_all p l ≡ every n (λ i. p (get_or l i d))
all_list p d l n e = ap (list_all p) (sym (take_all n l (omega (arith, e)))) ∙ all_take p d l n (omega (arith, e))

-- and of them with their numbers
pub all_numbered : {X : Type 0} (p : ℕ × X → Bool) (d : X) (l : List X) (n : ℕ) → length l ≡ n → list_all p (enumerate_from 0 l) ≡ every n (λ i. p (i, get_or l i d))
all_numbered {X} p d l n e =
    all_list p (0, d) (enumerate_from 0 l) n (length-enumerate_from 0 l ∙ e)
    ∙ every_same n _ _ (λ i h. ap p (get_or-enumerate_from 0 l i (0, d) (omega (arith, e, h)) ∙ ap {B = ℕ × X} (λ k. (k, get_or l i d)) (zero-add i)))

-- the sum of what f makes of a list's elements
sum_take : (f : ℕ → ℕ) (l : List ℕ) (n : ℕ) → n ≤ length l → sum_by f (take n l) ≡ sum n (λ i. f (get_or l i 0))
unfolding sum
sum_take f l zero h = refl
sum_take f l (suc n) h = rw (← add-one) (fold_more (λ a x. a + f x) 0 l n 0 (omega arith) ∙ ap (λ (a : ℕ). a + f (get_or l n 0)) (sum_take f l n (omega arith)))

pub sum_list : (f : ℕ → ℕ) (l : List ℕ) (n : ℕ) → length l ≡ n → sum_by f l ≡ sum n (λ i. f (get_or l i 0))
sum_list f l n e = ap (sum_by f) (sym (take_all n l (omega (arith, e)))) ∙ sum_take f l n (omega (arith, e))
