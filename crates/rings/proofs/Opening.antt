-- An opening keeps every rule: its search leaves no walk of the new job.
use Prim.Native.Nat.{ℕ, ◌<◌}
use native.Mathlib.Omega.{arith}
use native.Mathlib.Nat.{le_step}
use mathlib.Core.Path.{◌≡◌, refl, sym, subst}
use mathlib.Core.Logic.{◌≢◌, ◌⊎◌, inl, inr}
use Rattle.rings.specs.History.{History, Open, Released, BeforeAt}
use Rattle.rings.specs.Walk.{Link, Walk, home, onward}
use Rattle.rings.specs.Change.{Leads, opening}
use Rattle.rings.specs.Rule.{unsearched, Reached, first, next, Searched}
use Rattle.rings.specs.Kept.{Formed, Depends, Walkless, Ordered, StepsWait, ClosesWait}
use Rattle.rings.proofs.Orders.{last_or_below}
use Rattle.rings.proofs.Later.{Follows, still_no_walk}

module _ (H : History) (named : ℕ → Type 0) (found : ℕ → ℕ → Type 0) where
  abbrev G : History
  G = opening H named found

  module _ (F : Formed H) where
    released_opened : {a k t : ℕ} → H.released a k t → a < H.count
    released_opened r = F.names_opened (F.asked_names (F.released_asked (_, r)))

    opened : {a k : ℕ} → G.names a k → a < G.count
    opened (inl n) = le_step (F.names_opened n)
    opened (inr (e, n)) = omega arith

    opening_formed : Formed G
    opening_formed = record {
      names_opened = opened;
      asked_names = λ q. inl (F.asked_names q);
      released_asked = F.released_asked;
      confirmed_released = F.confirmed_released;
      released_once = F.released_once;
      released_past = F.released_past;
      released_decided = F.released_decided;
      held_opened = λ h. le_step (F.held_opened h);
      closed_opened = λ c. le_step (F.closed_opened c);
      closed_once = F.closed_once;
      closed_past = F.closed_past;
      closed_decided = F.closed_decided;
    }

    new_unreleased : {b k : ℕ} → b ≡ H.count → ¬ Released H b k
    new_unreleased e r = omega (arith, released_opened r.1)

    old_open : {a : ℕ} → Open H a → Open G a
    old_open o = (le_step o.0, o.1)

    new_open : {b : ℕ} → b ≡ H.count → Open G b
    new_open e = (omega arith, λ c. omega (arith, F.closed_opened c))

  module _ (F : Formed H) (D : Depends H) (S : Searched H named found) where
    leads_open : {k a : ℕ} → Leads H named found k a → Open H a
    leads_open (inl (n, o, r)) = o
    leads_open (inr f) = S.found_open f

    leads_names : {k a : ℕ} → Leads H named found k a → H.names a k × named k
    leads_names (inl (n, o, r)) = (F.asked_names (F.released_asked r), n)
    leads_names (inr f) = (S.found_names f, S.found_named f)

    dep_open : {k a b : ℕ} → G.dep k a b → Open G a × Open G b
    dep_open (inl d) = (old_open F (D.dep_open d).0, old_open F (D.dep_open d).1)
    dep_open (inr (e, l)) = (old_open F (leads_open l), new_open F e)

    dep_names : {k a b : ℕ} → G.dep k a b → G.names a k × G.names b k
    dep_names (inl d) = (inl (D.dep_names d).0, inl (D.dep_names d).1)
    dep_names (inr (e, l)) = (inl (leads_names l).0, inr (e, (leads_names l).1))

    dep_first : {k a b : ℕ} → G.dep k a b → Released H b k → BeforeAt H k a b
    dep_first (inl d) r = D.dep_first d r
    dep_first (inr (e, l)) r = absurd (new_unreleased F e r)

    dep_confirmed : {k a b : ℕ} → G.dep k a b → Released H b k → H.confirmed a k
    dep_confirmed (inl d) r = D.dep_confirmed d r
    dep_confirmed (inr (e, l)) r = absurd (new_unreleased F e r)

    dep_older : {k a b : ℕ} → G.dep k a b → ¬ Released H a k → a < b
    dep_older (inl d) u = D.dep_older d u
    dep_older (inr (e, l)) u = omega (arith, (leads_open l).0)

    leads_unreleased : {k a b : ℕ} → Open G a → Open G b → Released H a k → G.names b k → ¬ Released H b k → G.dep k a b
    leads_unreleased o p r (inl n) u = inl (D.leads_unreleased (released_opened F r.1, o.1) (F.names_opened n, p.1) r n u)
    leads_unreleased o p r (inr (e, n)) u = inr (e, inl (n, (released_opened F r.1, o.1), r))

    opening_depends : Depends G
    opening_depends = record {
      dep_open = dep_open;
      dep_names = dep_names;
      dep_first = dep_first;
      dep_confirmed = dep_confirmed;
      dep_older = dep_older;
      leads_unreleased = leads_unreleased;
      leads_later = λ o p b. inl (D.leads_later (released_opened F b.2, o.1) (released_opened F b.3, p.1) b);
    }

  was_named : {a k : ℕ} → a < H.count → G.names a k → H.names a k
  was_named h (inl n) = n
  was_named h (inr (e, n)) = absurd (omega arith)

  opening_follows : Follows H G
  opening_follows = record {
    was_open = λ h o. (h, o.1);
    was_named = was_named;
    dep_kept = λ o p d. inl d;
  }

  -- a link that is free after the search was free before it
  was_free : {u v w : ℕ} → Link G u v w → Link (unsearched H named) u v w
  was_free {u} {v} {w} l = record { differ = l.differ; from_names = l.from_names; to_names = l.to_names; free = λ d. l.free (more d) }
    where
      more : (unsearched H named).dep u v w → G.dep u v w
      more (inl d) = inl d
      more (inr (e, inl r)) = inr (e, inl r)
      more (inr (e, inr f)) = absurd f

  -- so a walk that is left would end with a dependency that was found
  module _ (S : Searched H named found) where
    no_end : {t v u : ℕ} → Reached H named v t → u ≢ t → ¬ Walk G H.count v u
    no_end r n (home l) = l.free (inr (refl, inr (S.found_all r n (was_free l))))
    no_end r n (onward l o h d w) = no_end (next r n (was_free l) (h, o.1)) (λ e. d (sym e)) w

    no_walk : {u : ℕ} → ¬ Walk G H.count H.count u
    no_walk (home l) = l.differ refl
    no_walk (onward l o h d w) = no_end (first (was_free l) (h, o.1)) (λ e. d (sym e)) w

  opening_walkless : Walkless H → Searched H named found → Walkless G
  opening_walkless W S = record { no_walk = λ o w. cases (last_or_below o.0) o w }
    where
      cases : {n u : ℕ} → (n ≡ H.count) ⊎ (n < H.count) → Open G n → ¬ Walk G n n u
      cases {u = u} (inl e) o w = no_walk S (subst (λ (m : ℕ). Walk G m m u) e w)
      cases (inr h) o w = still_no_walk H G opening_follows W h o w

  module _ (K : Ordered H) where
    pub opening_ordered : Searched H named found → Ordered G
    opening_ordered S = record {
      formed = opening_formed K.formed;
      depends = opening_depends K.formed K.depends S;
      closed_in_order = record { closed_first = K.closed_in_order.closed_first };
      walkless = opening_walkless K.walkless S;
    }

    pub opening_steps_wait : StepsWait H → StepsWait G
    opening_steps_wait Q = record {
      step_waits = λ (o, q, u). let (x, d, v) = Q.step_waits ((K.formed.names_opened (K.formed.asked_names q), o.1), q, u) in (x, inl d, v);
    }

    pub opening_closes_wait : ClosesWait H → ClosesWait G
    opening_closes_wait C = record {
      close_waits = λ o h. let (k, x, d) = C.close_waits (K.formed.held_opened h, o.1) h in (k, x, inl d);
    }
