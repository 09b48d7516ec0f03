-- No ring of jobs exists. A ring with a closed job on it would go back through ever earlier closings; so all its jobs are open, and stand in an order.
use Prim.Native.Nat.{ℕ, ◌<◌}
use native.Mathlib.Omega.{arith}
use native.Mathlib.Nat.{lt_trans}
use mathlib.Core.List.{List, [], ◌∷◌}
use Rattle.histories.specs.Relation.{Ring, Plus, one, more}
use Rattle.histories.specs.History.{History, Open, Closed, BeforeAt, Before}
use Rattle.histories.specs.Past.{Past}
use Rattle.histories.specs.Arranged.{Preceded}
use Rattle.histories.proofs.Orders.{chain_plus}

module _ (H : History) (P : Past H) where
  -- the releases at a database stand in an order
  pub then_at : {k a b c : ℕ} → BeforeAt H k a b → BeforeAt H k b c → BeforeAt H k a c
  then_at (early, middle, p, q, h) (again, late, r, s, l) = (early, late, p, s, omega (arith, P.formed.released_once q r))

  pub never_at : {k a : ℕ} → ¬ BeforeAt H k a a
  never_at (early, late, p, q, h) = omega (arith, P.formed.released_once p q)

  pub released_opened : {a k time : ℕ} → H.released a k time → a < H.count
  released_opened r = P.formed.names_opened (P.formed.asked_names (P.formed.released_asked (_, r)))

  closed_chain : {a b late : ℕ} → Plus (Before H) a b → H.closed b late → (early : ℕ) × H.closed a early × (early < late)
  closed_chain (one p) c = P.closed_in_order.closed_first p.1 c
  closed_chain (more p q) c =
      let (middle, d, h) = closed_chain q c in
      let (early, e, l) = P.closed_in_order.closed_first p.1 d in
      (early, e, lt_trans l h)

  no_closed_ring : (a : ℕ) → Plus (Before H) a a → ¬ Closed H a
  no_closed_ring a p c = let (early, d, h) = closed_chain p c.1 in omega (arith, P.formed.closed_once d c.1)

  -- what is after an open job is open
  next_open : {a b : ℕ} → Before H a b → Open H a → Open H b
  next_open p o = (released_opened p.1.3, λ c. let (early, d, h) = P.closed_in_order.closed_first p.1 c.1 in o.1 (early, d))

  -- the two open ends of a link
  abbrev pub Onward : ℕ → ℕ → Type 0
  Onward a b = Open H a × Open H b × Before H a b

  all_open : {a b : ℕ} → Plus (Before H) a b → Open H a → Plus Onward a b
  all_open (one p) o = one (o, next_open p o, p)
  all_open (more p q) o = more (o, next_open p o, p) (all_open q (next_open p o))

  last_opened : {b c : ℕ} → Plus (Before H) b c → c < H.count
  last_opened (one q) = released_opened q.1.3
  last_opened (more q r) = last_opened r

  -- so a ring is one of open jobs
  pub ring_open : {a : ℕ} → Plus (Before H) a a → Plus Onward a a
  ring_open {a} p = all_open p (last_opened p, no_closed_ring a p)

module _ (H : History) (P : Past H) (R : ℕ → ℕ → Type 0) (C : Preceded H R) where
  in_order : {a b : ℕ} → Plus (Onward H P) a b → R a b
  in_order (one (o, p, q)) = C.before_precedes o p q
  in_order (more (o, p, q) r) = C.precedes_order.transitive (C.before_precedes o p q) (in_order r)

  pub no_return : (a : ℕ) → ¬ Plus (Before H) a a
  no_return a p = C.precedes_order.irreflexive a (in_order (ring_open H P p))

  pub no_ring : (jobs : List ℕ) → ¬ Ring (Before H) jobs
  no_ring [] r = r
  no_ring (a ∷ l) r = no_return a (chain_plus a l a r)
