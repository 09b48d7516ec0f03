-- What the moves of the nested search and its two functions leave behind.
-- Assumes nothing.
use Prim.Native.Nat.{ℕ, zero, suc, ◌<◌}
use native.Mathlib.Omega.{arith}
use mathlib.Core.Bool.{true, false, not, ◌&&◌}
use mathlib.Core.Logic.{◌⊎◌, inl, inr}
use mathlib.Core.Path.{◌≡◌}
use borrow.Author.Tests.{eqb-true, eqb-false, ne_eqb, not-true, not-false}
use lib.Dec.{eqb}
use Rattle.walks.specs.Marks.{Marks}
use Rattle.walks.specs.Walk.{Graph, Link, Reach, WalkEnd}
use Rattle.walks.specs.Search.{Seek, mark_reached, mark_found, back, closing, forward, opens, choose, across, pass, visit}
use Rattle.loops.proofs.Rules.{over_rule, guard_rule, choice_rule}
use Rattle.loops.proofs.Tests.{and_left, and_right, and_both, both}
use Rattle.walks.proofs.Marking.{count_le, put_same, put_more, put_only, count_put}
use Rattle.walks.proofs.Walk.{Come, go_on, end_at}
use Rattle.walks.proofs.Next.{Hit, Done, Sound, Good, Ok, Next, hit_on, stays, steps}

test_link : (G : Graph) (u v w : ℕ) → u < G.databases → w < G.jobs → G.names v u ≡ true → opens G u v w ≡ true → Link G u v w
test_link G u v w hu hw e t =
    let t₁ = and_left (not (eqb w v) && G.names w u) (not (G.dep u v w)) t in record {
      job = hw;
      database = hu;
      leaves = e;
      enters = and_right (not (eqb w v)) (G.names w u) t₁;
      differ = eqb-false w v (not-true (eqb w v) (and_left (not (eqb w v)) (G.names w u) t₁));
      free = not-true (G.dep u v w) (and_right (not (eqb w v) && G.names w u) (not (G.dep u v w)) t);
    }

link_test : (G : Graph) (u v w : ℕ) → Link G u v w → opens G u v w ≡ true
link_test G u v w l = rw (ne_eqb w v l.differ, l.enters, l.free)

module _ (G : Graph) (K : Marks G.jobs G.databases) where
  -- the two moves

  found_next : (C : Type 0) (v u : ℕ) (s : Seek K) → Good G K s → v < G.jobs → u < G.databases → K.has s.found v u ≡ false
      → (C → WalkEnd G v u) → Next G K C s (mark_found K v u s)
  unfolding mark_found
  found_next C v u s g hv hu absent end = record {
    good = λ h. (h.0, K.good_put s.found v u h.1);
    more_r = λ a b e. e;
    more_f = put_more K s.found v u g.1 hv hu;
    closed = λ a b e. inl e;
    sound = λ c h. record { walks = h.walks; ends = λ a b e. by c h a b (put_only K s.found v u g.1 hv hu a b e) };
    tally = omega (arith, count_put K s.found v u g.1 hv hu absent);
  }
    where
      by : C → Sound G K s.reached s.found → (a b : ℕ) → ((a ≡ v) × (b ≡ u)) ⊎ (K.has s.found a b ≡ true) → WalkEnd G a b
      by c h a b (inl e) = rw (e.0, e.1) (end c)
      by c h a b (inr e) = h.ends a b e

  -- (w, u) is marked, the search goes on from there and comes to r, and returns
  reached_next : (C : Type 0) (w u : ℕ) (s r : Seek K) → Good G K s → w < G.jobs → u < G.databases → K.has s.reached w u ≡ false
      → (C → Reach G w u) → Next G K (Come G w u) (mark_reached K w u s) r → Done G K r.reached r.found w u → Next G K C s (back K r)
  unfolding mark_reached back
  reached_next C w u s r g hw hu absent walk h done = record {
    good = λ k. h.good (K.good_put s.reached w u k.0, k.1);
    more_r = λ a b e. h.more_r a b (put_more K s.reached w u g.0 hw hu a b e);
    more_f = h.more_f;
    closed = λ a b e. old a b (h.closed a b e);
    sound = λ c k. h.sound (inr (walk c))
        (record { walks = λ a b e. by c k a b (put_only K s.reached w u g.0 hw hu a b e); ends = k.ends });
    tally = omega (arith, h.tally, count_put K s.reached w u g.0 hw hu absent);
  }
    where
      by : C → Sound G K s.reached s.found → (a b : ℕ) → ((a ≡ w) × (b ≡ u)) ⊎ (K.has s.reached a b ≡ true) → Reach G a b
      by c k a b (inl e) = rw (e.0, e.1) (walk c)
      by c k a b (inr e) = k.walks a b e

      this : (a b : ℕ) → ((a ≡ w) × (b ≡ u)) ⊎ (K.has s.reached a b ≡ true)
          → (K.has s.reached a b ≡ true) ⊎ Done G K r.reached r.found a b
      this a b (inl e) = inr (rw (e.0, e.1) done)
      this a b (inr e) = inl e

      old : (a b : ℕ) → (K.has (K.put s.reached w u) a b ≡ true) ⊎ Done G K r.reached r.found a b
          → (K.has s.reached a b ≡ true) ⊎ Done G K r.reached r.found a b
      old a b (inl e) = this a b (put_only K s.reached w u g.0 hw hu a b e)
      old a b (inr d) = inr d

  -- what each function does at v, reached through t: a step, and of the choices at v those that Q says
  abbrev To : ℕ → ℕ → (K.M → K.M → Type 0) → Seek K → Seek K → Type 0
  To v t Q s r = Next G K (Come G v t) s r × Q r.reached r.found

  closing_next : (v t u w : ℕ) (s : Seek K) → Good G K s → v < G.jobs → ¬ (u ≡ t) → Link G u v w → w ≡ G.new
      → To v t (λ R F. Hit G K R F v u w) s (closing K v u s)
  unfolding closing mark_found
  closing_next v t u w s g hv turn l e =
      guard_rule (To v t (λ R F. Hit G K R F v u w) s) _ _ s
      (λ p. (
        found_next _ v u s g hv l.database (not-true _ p) (end_at G v t u w turn l e),
        record { closes = λ q. put_same K s.found v u g.1 hv l.database; enters = λ q. absurd (q e) },
      ))
      (λ p. (stays G K _ s, record { closes = λ q. not-false _ p; enters = λ q. absurd (q e) }))

  -- what is asked of the opening_search from a job on
  abbrev pub Goes : ℕ → (ℕ → ℕ → Seek K → Seek K) → Type 0
  Goes f go = (v t : ℕ) → v < G.jobs → (s : Seek K) → Ok G K f s → To v t (λ R F. Done G K R F v t) s (go v t s)

  -- the mark takes one from the pairs not reached
  pub marked_ok : (f w u : ℕ) (s : Seek K) → w < G.jobs → u < G.databases → K.has s.reached w u ≡ false → Ok G K (suc f) s → Ok G K f (mark_reached K w u s)
  unfolding mark_reached
  marked_ok f w u s hw hu absent ok =
      ((K.good_put s.reached w u ok.0.0, ok.0.1), omega (arith, ok.1, count_put K s.reached w u ok.0.0 hw hu absent))

  module _ (f : ℕ) (go : ℕ → ℕ → Seek K → Seek K) (goes : Goes f go) (v t : ℕ) (hv : v < G.jobs) where
    forward_next : (u w : ℕ) (s : Seek K) → Ok G K (suc f) s → ¬ (u ≡ t) → Link G u v w → ¬ (w ≡ G.new)
        → To v t (λ R F. Hit G K R F v u w) s (forward K go w u s)
    unfolding forward back mark_reached
    forward_next u w s ok turn l ne =
        guard_rule (To v t (λ R F. Hit G K R F v u w) s) _ _ s
        (λ p.
        let absent = not-true (K.has s.reached w u) p in
        let h = goes w u l.job (mark_reached K w u s) (marked_ok f w u s l.job l.database absent ok) in (
          reached_next _ w u s _ ok.0 l.job l.database absent (go_on G v t u w turn l ne) h.0 h.1,
          record {
            closes = λ q. absurd (ne q);
            enters = λ q. h.0.more_r w u (put_same K s.reached w u ok.0.0 l.job l.database);
          },
        ))
        (λ p. (stays G K _ s, record { closes = λ q. absurd (ne q); enters = λ q. not-false _ p }))

    pub choose_next : (u : ℕ) → u < G.databases → ¬ (u ≡ t) → G.names v u ≡ true → (w : ℕ) → w < G.jobs → (s : Seek K) → Ok G K (suc f) s
        → To v t (λ R F. Link G u v w → Hit G K R F v u w) s (choose G K go v u w s)
    unfolding choose
    choose_next u hu turn e w hw s ok =
        guard_rule (To v t (λ R F. Link G u v w → Hit G K R F v u w) s) _ _ s
        (λ p.
        let l = test_link G u v w hu hw e p in
        choice_rule (To v t (λ R F. Link G u v w → Hit G K R F v u w) s) _ _ _ s
        (λ q. let h = closing_next v t u w s ok.0 hv turn l (eqb-true w G.new q) in (h.0, λ m. h.1))
        (λ q. let h = forward_next u w s ok turn l (eqb-false w G.new q) in (h.0, λ m. h.1)))
        (λ p. (stays G K _ s, λ l. both (link_test G u v w l) p))

    -- the two functions

    pub across_next : (u : ℕ) → u < G.databases → ¬ (u ≡ t) → G.names v u ≡ true → (s : Seek K) → Ok G K (suc f) s
        → To v t (λ R F. (w : ℕ) → w < G.jobs → Link G u v w → Hit G K R F v u w) s (across G K go v u s)
    unfolding across
    across_next u hu turn e =
        over_rule (steps G K (Come G v t) (suc f)) (λ w r. Link G u v w → Hit G K r.reached r.found v u w)
        (λ w s r h k l. hit_on G K v u w s r h (k l)) _ G.jobs (choose_next u hu turn e)

    pub pass_next : (u : ℕ) → u < G.databases → (s : Seek K) → Ok G K (suc f) s
        → To v t (λ R F. (w : ℕ) → ¬ (u ≡ t) → Link G u v w → Hit G K R F v u w) s (pass G K go v t u s)
    unfolding pass
    pass_next u hu s ok =
        guard_rule (To v t (λ R F. (w : ℕ) → ¬ (u ≡ t) → Link G u v w → Hit G K R F v u w) s) _ _ s
        (λ p.
        let e = and_left (G.names v u) (not (eqb u t)) p in
        let turn = eqb-false u t (not-true (eqb u t) (and_right (G.names v u) (not (eqb u t)) p)) in
        let h = across_next u hu turn e s ok in
        (h.0, λ w ne l. h.1 w l.job l))
        (λ p. (stays G K _ s, λ w turn l. both (and_both l.leaves (rw (ne_eqb u t turn))) p))

  pub visit_next : (f : ℕ) → Goes f (visit G K f)
  unfolding visit
  visit_next zero v t hv s ok = absurd (omega (arith, ok.1, count_le K s.reached))
  visit_next (suc f) v t hv s ok =
      let h = over_rule (steps G K (Come G v t) (suc f)) (λ u r. (w : ℕ) → ¬ (u ≡ t) → Link G u v w → Hit G K r.reached r.found v u w)
      (λ u s r h k w turn l. hit_on G K v u w s r h (k w turn l)) _ G.databases (pass_next f (visit G K f) (visit_next f) v t hv) s ok in
      (h.0, λ u w turn l. h.1 u l.database w turn l)
