-- What holds wherever the machine stands: its marks are sound, what is reached is done or still on the trail, and the moves tally. Each move keeps it.
-- Assumes nothing.
use Prim.Native.Nat.{ℕ, suc, ◌+◌, ◌*◌, ◌<◌}
use native.Mathlib.Omega.{arith}
use mathlib.Core.Bool.{Bool, true}
use mathlib.Core.List.{List, [], ◌∷◌}
use mathlib.Core.Logic.{◌⊎◌, inl, inr}
use mathlib.Core.Path.{◌≡◌, refl}
use lib.ListN.{length}
use Rattle.walks.specs.Marks.{Marks, count}
use Rattle.walks.specs.Walk.{Graph, Reach, WalkEnd}
use Rattle.walks.specs.Machine.{Place, Standing, at_new}
use Rattle.walks.specs.Engine.{Made, Engine}
use Rattle.loops.proofs.Tests.{both}
use Rattle.walks.proofs.Marking.{count_none, put_more, put_only, count_put}
use Rattle.walks.proofs.Walk.{go_on, end_at}
use Rattle.walks.proofs.Choice.{May}
use Rattle.walks.proofs.Trail.{Trail, begin, on, trail_job, trail_come, trail_back, trail_end, Among}

made_more : (G : Graph) (R F R' F' : ℕ → ℕ → Bool) (v t : ℕ) → ((w u : ℕ) → R w u ≡ true → R' w u ≡ true) → ((w u : ℕ) → F w u ≡ true → F' w u ≡ true)
    → Made G R F v t → Made G R' F' v t
made_more G R F R' F' v t r f h = record {
  enters = λ u w turn l ne. r w u (h.enters u w turn l ne);
  closes = λ u turn l. f v u (h.closes u turn l);
}

module _ (G : Graph) (K : Marks G.jobs G.databases) where
  -- standing at p, with l to go back to
  pub record Inv (p : Place) (l : List Place) (R F : K.M) (m : ℕ) : Type 0 where
    pub good : K.Good R × K.Good F
    pub trail : Trail G p l
    pub walks : (w u : ℕ) → K.has R w u ≡ true → Reach G w u
    pub ends : (v u : ℕ) → K.has F v u ≡ true → WalkEnd G v u
    pub closed : (w u : ℕ) → K.has R w u ≡ true → Among w u (p ∷ l) ⊎ Made G (K.has R) (K.has F) w u
    pub tally : m + length l ≡ 2 * count K R + count K F

  abbrev pub InvOf : Standing K → Type 0
  InvOf s = Inv s.place s.trail s.reached s.found s.moves

  pub inv_new : InvOf (at_new G K)
  unfolding at_new
  inv_new = record {
    good = (K.good_none, K.good_none);
    trail = begin refl refl;
    walks = λ w u e. both e (K.has_none w u);
    ends = λ v u e. both e (K.has_none v u);
    closed = λ w u e. both e (K.has_none w u);
    tally = omega (arith, count_none K);
  }

  module _ (p : Place) (l : List Place) (R F : K.M) (m : ℕ) (i : Inv p l R F m) where
    pub inv_closing : G.new < G.jobs → (u : ℕ) → May G K p.job p.via R F u G.new → Inv p l R (K.put F p.job u) (suc m)
    inv_closing new u c =
        let hv = trail_job new i.trail in
        let hu = c.link.database in record {
          good = (i.good.0, K.good_put F p.job u i.good.1);
          trail = i.trail;
          walks = i.walks;
          ends = λ a b e. by a b (put_only K F p.job u i.good.1 hv hu a b e);
          closed = λ a b e. more hv hu a b (i.closed a b e);
          tally = omega (arith, i.tally, count_put K F p.job u i.good.1 hv hu (c.closing refl));
        }
      where
        by : (a b : ℕ) → ((a ≡ p.job) × (b ≡ u)) ⊎ (K.has F a b ≡ true) → WalkEnd G a b
        by a b (inl e) = rw (e.0, e.1) (end_at G p.job p.via u G.new c.turns c.link refl (trail_come i.trail))
        by a b (inr e) = i.ends a b e

        more : p.job < G.jobs → u < G.databases → (a b : ℕ) → Among a b (p ∷ l) ⊎ Made G (K.has R) (K.has F) a b
            → Among a b (p ∷ l) ⊎ Made G (K.has R) (K.has (K.put F p.job u)) a b
        more hv hu a b (inl e) = inl e
        more hv hu a b (inr e) = inr (made_more G _ _ _ _ a b (λ x y h. h) (put_more K F p.job u i.good.1 hv hu) e)

    pub inv_forward : (u w : ℕ) → May G K p.job p.via R F u w → ¬ (w ≡ G.new) → Inv (record { job = w; via = u }) (p ∷ l) (K.put R w u) F (suc m)
    inv_forward u w c ne =
        let hw = c.link.job in
        let hu = c.link.database in record {
          good = (K.good_put R w u i.good.0, i.good.1);
          trail = on i.trail c.turns c.link ne;
          walks = λ a b e. by a b (put_only K R w u i.good.0 hw hu a b e);
          ends = i.ends;
          closed = λ a b e. here hw hu a b (put_only K R w u i.good.0 hw hu a b e);
          tally = omega (arith, i.tally, count_put K R w u i.good.0 hw hu (c.forward ne));
        }
      where
        by : (a b : ℕ) → ((a ≡ w) × (b ≡ u)) ⊎ (K.has R a b ≡ true) → Reach G a b
        by a b (inl e) = rw (e.0, e.1) (go_on G p.job p.via u w c.turns c.link ne (trail_come i.trail))
        by a b (inr e) = i.walks a b e

        more : w < G.jobs → u < G.databases → (a b : ℕ) → Among a b (p ∷ l) ⊎ Made G (K.has R) (K.has F) a b
            → Among a b (record { job = w; via = u } ∷ p ∷ l) ⊎ Made G (K.has (K.put R w u)) (K.has F) a b
        more hw hu a b (inl e) = inl (inr e)
        more hw hu a b (inr e) = inr (made_more G _ _ _ _ a b (put_more K R w u i.good.0 hw hu) (λ x y h. h) e)

        here : w < G.jobs → u < G.databases → (a b : ℕ) → ((a ≡ w) × (b ≡ u)) ⊎ (K.has R a b ≡ true)
            → Among a b (record { job = w; via = u } ∷ p ∷ l) ⊎ Made G (K.has (K.put R w u)) (K.has F) a b
        here hw hu a b (inl e) = inl (inl e)
        here hw hu a b (inr e) = more hw hu a b (i.closed a b e)

    -- nothing is left to choose at p: all that is not behind it is done
    left_behind : Made G (K.has R) (K.has F) p.job p.via → (a b : ℕ) → K.has R a b ≡ true → Among a b l ⊎ Made G (K.has R) (K.has F) a b
    left_behind made a b e = by (i.closed a b e)
      where
        by : Among a b (p ∷ l) ⊎ Made G (K.has R) (K.has F) a b → Among a b l ⊎ Made G (K.has R) (K.has F) a b
        by (inl (inl q)) = inr (rw (q.0, q.1) made)
        by (inl (inr q)) = inl q
        by (inr d) = inr d

  pub inv_return : (p q : Place) (l : List Place) (R F : K.M) (m : ℕ) → Inv p (q ∷ l) R F m → Made G (K.has R) (K.has F) p.job p.via → Inv q l R F (suc m)
  inv_return p q l R F m i made = record {
    good = i.good;
    trail = trail_back i.trail;
    walks = i.walks;
    ends = i.ends;
    closed = left_behind p (q ∷ l) R F m i made;
    tally = omega (arith, i.tally);
  }

  pub inv_end : (p : Place) (R F : K.M) (m : ℕ) → Inv p [] R F m → Made G (K.has R) (K.has F) p.job p.via → Engine G (K.has R) (K.has F) m
  inv_end p R F m i made = record {
    walks = i.walks;
    ends = i.ends;
    begun = let e = trail_end i.trail in rw (e.0, e.1) at made;
    closed = λ w u e. by w u (left_behind p [] R F m i made w u e);
    tally = omega (arith, i.tally);
  }
    where
      by : (w u : ℕ) → ⊥ ⊎ Made G (K.has R) (K.has F) w u → Made G (K.has R) (K.has F) w u
      by w u (inl e) = absurd e
      by w u (inr d) = d
