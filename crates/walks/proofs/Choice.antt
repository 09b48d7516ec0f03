-- The machine's choice: the first pair that may be chosen, and what such a pair is to walks.
-- Assumes nothing.
use Prim.Native.Nat.{ℕ, ◌<◌, ◌≤◌}
use native.Mathlib.Omega.{arith}
use native.Mathlib.Decide.{dec_lt}
use Prim.{Dec, yes, no}
use mathlib.Core.Bool.{Bool, true, false, not, ◌&&◌, ◌||◌}
use mathlib.Core.Logic.{◌⊎◌, inl, inr}
use mathlib.Core.Option.{Option, none, some}
use mathlib.Core.Path.{◌≡◌, refl, subst}
use borrow.Author.Tests.{eqb-false, eq-eqb, ne_eqb, not-true}
use lib.Dec.{eqb}
use Rattle.walks.specs.Marks.{Marks}
use Rattle.walks.specs.Walk.{Graph, Link}
use Rattle.walks.specs.First.{first_of, given}
use Rattle.walks.specs.Machine.{Standing, may_be_chosen, chosen}
use Rattle.walks.specs.Promise.{FirstChoice}
use Rattle.walks.specs.Engine.{Made}
use Rattle.loops.proofs.Tests.{both, and_left, and_right, or_false}
use Rattle.walks.proofs.First.{given_some, given_none, first_none, First, first_some}

six : (a b c d e f : Bool) → a && b && c && d && e && f ≡ true
    → (a ≡ true) × (b ≡ true) × (c ≡ true) × (d ≡ true) × (e ≡ true) × (f ≡ true)
six a b c d e f h =
    let h₅ = and_left (a && b && c && d && e) f h in
    let h₄ = and_left (a && b && c && d) e h₅ in
    let h₃ = and_left (a && b && c) d h₄ in
    let h₂ = and_left (a && b) c h₃ in
    (and_left a b h₂, and_right a b h₂, and_right (a && b) c h₃, and_right (a && b && c) d h₄, and_right (a && b && c && d) e h₅, and_right (a && b && c && d && e) f h)

module _ (G : Graph) (K : Marks G.jobs G.databases) where
  -- what may be chosen at s
  abbrev pub may : Standing K → ℕ → ℕ → Bool
  may s = may_be_chosen G K s.place.job s.place.via s.reached s.found

  pub chosen_none : (s : Standing K) → chosen G K s ≡ none → (u w : ℕ) → u < G.databases → w < G.jobs → may s u w ≡ false
  unfolding chosen
  chosen_none s e u w hu hw = given_none (may s u w) (u, w) (first_none G.jobs _ (first_none G.databases _ e u hu) w hw)

  pub chosen_some : (s : Standing K) (c : ℕ × ℕ) → chosen G K s ≡ some c → FirstChoice G K s c
  unfolding chosen
  chosen_some s c e =
      let p = first_some G.databases _ c e in
      let q = first_some G.jobs _ c p.is in
      let g = given_some (may s p.at q.at) (p.at, q.at) c q.is in
      subst (FirstChoice G K s) g.1 (record {
        database = p.within;
        job = q.within;
        may = g.0;
        before = λ u w hu hw m. at_most p q u w hw m (dec_lt u p.at) (dec_lt p.at u) (dec_lt w q.at);
      })
    where
      row : ℕ → ℕ → Option (ℕ × ℕ)
      row u w = given (may s u w) (u, w)

      at_most : (p : First G.databases (λ u. first_of G.jobs (row u)) c) (q : First G.jobs (row p.at) c) (u w : ℕ) → w < G.jobs → may s u w ≡ true
          → Dec (u < p.at) → Dec (p.at < u) → Dec (w < q.at) → (p.at < u) ⊎ ((p.at ≡ u) × (q.at ≤ w))
      at_most p q u w hw m (yes h) a b = both m (given_none (may s u w) (u, w) (first_none G.jobs _ (p.before u h) w hw))
      at_most p q u w hw m (no h) (yes k) b = inl k
      at_most p q u w hw m (no h) (no k) (yes l) =
          let e : u ≡ p.at = omega arith in
          both m (given_none {A = ℕ × ℕ} (may s u w) (u, w) (rw e (q.before w l)))
      at_most p q u w hw m (no h) (no k) (no l) = inr (omega arith, omega arith)

  -- a pair that may be chosen is a link to go, and where there is none every choice has been made

  module _ (v t : ℕ) (R F : K.M) where
    pub record May (u w : ℕ) : Type 0 where
      pub link : Link G u v w
      pub turns : ¬ (u ≡ t)
      pub closing : w ≡ G.new → K.has F v u ≡ false
      pub forward : ¬ (w ≡ G.new) → K.has R w u ≡ false

    pub may_is : (u w : ℕ) → u < G.databases → w < G.jobs → may_be_chosen G K v t R F u w ≡ true → May u w
    unfolding may_be_chosen
    may_is u w hu hw e =
        let x = six (G.names v u) (G.names w u) (not (eqb w v)) (not (eqb u t)) _ _ e in
        let d = or_false (G.dep u v w) (eqb w G.new && K.has F v u) (not-true _ x.4) in
        let n : eqb w G.new || not (K.has R w u) ≡ true = x.5 in record {
          link = record {
            job = hw;
            database = hu;
            leaves = x.0;
            enters = x.1;
            differ = eqb-false w v (not-true (eqb w v) x.2);
            free = d.0;
          };
          turns = eqb-false u t (not-true (eqb u t) x.3);
          closing = λ q. rw (eq-eqb w G.new q) at d.1;
          forward = λ q. not-true (K.has R w u) (rw (ne_eqb w G.new q) at n);
        }

    pub may_made : ((u w : ℕ) → u < G.databases → w < G.jobs → may_be_chosen G K v t R F u w ≡ false) → Made G (K.has R) (K.has F) v t
    unfolding may_be_chosen
    may_made h = record {
      enters = λ u w turn l ne. forward u w turn l ne (K.has R w u) refl;
      closes = λ u turn l. closing u turn l (K.has F v u) refl;
    }
      where
        forward : (u w : ℕ) → ¬ (u ≡ t) → Link G u v w → ¬ (w ≡ G.new) → (b : Bool) → K.has R w u ≡ b → b ≡ true
        forward u w turn l ne true p = refl
        forward u w turn l ne false p =
            let a : may_be_chosen G K v t R F u w ≡ true = rw (l.leaves, l.enters, ne_eqb w v l.differ, ne_eqb u t turn, l.free, ne_eqb w G.new ne, p) in
            both a (h u w l.database l.job)

        closing : (u : ℕ) → ¬ (u ≡ t) → Link G u v G.new → (b : Bool) → K.has F v u ≡ b → b ≡ true
        closing u turn l true p = refl
        closing u turn l false p =
            let a : may_be_chosen G K v t R F u G.new ≡ true = rw (l.leaves, l.enters, ne_eqb G.new v l.differ, ne_eqb u t turn, l.free, eq-eqb G.new G.new refl, p) in
            both a (h u G.new l.database l.job)
