-- A cycle of slots would be one of jobs, and there is none. Assumes nothing.
use Prim.Native.Nat.{ℕ}
use mathlib.Core.Bool.{Bool, true, false}
use mathlib.Core.List.{List, [], ◌∷◌, map}
use mathlib.Core.Logic.{◌⊎◌, inl, inr}
use mathlib.Core.Path.{◌≡◌, refl}
use lib.ListN.{length-map}
use Rattle.rings.specs.Relation.{Chain, Ring}
use Rattle.rings.specs.History.{Open}
use Rattle.rings.specs.Cycle.{Joint, Apart, Distinct, Joined, ClosedChain, FreeForward, FreeBackward}
use Rattle.rings.specs.Kept.{Walkless}
use Rattle.rings.proofs.Cycles.{no_cycle}
use Rattle.coordinator.specs.declared.Coordinator.{Coordinator}
use Rattle.coordinator.specs.Shape.{Shape}
use Rattle.coordinator.specs.Views.{is_open}
use Rattle.effects.specs.View.{view}
use Rattle.effects.proofs.Bounds.{open_names}
use Rattle.promises.specs.Told.{Told}
use Rattle.promises.specs.Tied.{history, Tied}
use Rattle.promises.specs.Tables.{tables, NoCycle}

module _ {A B : Type 0} (R : A → A → Type 0) (S : B → B → Type 0) (g : A → B) (f : (a b : A) → R a b → S (g a) (g b)) where
  chain_map : (a : A) (l : List A) (b : A) → Chain R a l b → Chain S (g a) (map g l) (g b)
  chain_map a [] b h = f a b h
  chain_map a (c ∷ l) b h = (f a c h.0, chain_map c l b h.1)

  ring_map : (l : List A) → Ring R l → Ring S (map g l)
  ring_map [] h = h
  ring_map (a ∷ l) h = chain_map a l a h

module _ {A : Type 0} (R S : A → A → Type 0) where
  chain_both : (a : A) (l : List A) (b : A) → Chain R a l b → Chain S a l b → Chain (λ x y. R x y × S x y) a l b
  chain_both a [] b h k = (h, k)
  chain_both a (c ∷ l) b h k = ((h.0, k.0), chain_both c l b h.1 k.1)

  ring_both : (l : List A) → Ring R l → Ring S l → Ring (λ x y. R x y × S x y) l
  ring_both [] h k = h
  ring_both (a ∷ l) h k = chain_both a l a h k

-- every member of a ring begins a link
abbrev Each : {A : Type 0} → (A → Type 0) → List A → Type 0
Each P [] = Unit {0}
Each P (a ∷ l) = P a × Each P l

chain_each : {A : Type 0} (P : A → Type 0) (R : A → A → Type 0) → ((a b : A) → R a b → P a) → (a : A) (l : List A) (b : A) → Chain R a l b → P a × Each P l
chain_each P R f a [] b h = (f a b h, tt)
chain_each P R f a (c ∷ l) b h = (f a c h.0, chain_each P R f c l b h.1)

ring_each : {A : Type 0} (P : A → Type 0) (R : A → A → Type 0) → ((a b : A) → R a b → P a) → (l : List A) → Ring R l → Each P l
ring_each P R f [] h = tt
ring_each P R f (a ∷ l) h = chain_each P R f a l a h

module _ {T : Told} {d : ℕ → ℕ → ℕ → Type 0} {J : ℕ → ℕ} (s : Coordinator) (S : Shape s) (K : Tied T d J (view s)) where
  abbrev seat : Joint → Joint
  seat x = record { job = J x.job; database = x.database }

  is_open_lem : (j : ℕ) → Open (tables s) j → is_open s j ≡ true
  is_open_lem j o = by (is_open s j) refl
    where
      by : (b : Bool) → is_open s j ≡ b → is_open s j ≡ true
      by true e = e
      by false e = absurd (o.1 (0, (e, refl)))

  apart : (x : Joint) (l : List Joint) → is_open s x.job ≡ true → Each (λ y. is_open s y.job ≡ true) l → Apart (λ y. y.job) x l → Apart (λ y. y.job) (seat x) (map seat l)
  apart x [] o h a = tt
  apart x (y ∷ l) o h a = (λ e. a.0 (K.apart x.job y.job o h.0 e), apart x l o h.1 a.1)

  distinct : (l : List Joint) → Each (λ y. is_open s y.job ≡ true) l → Distinct (λ y. y.job) l → Distinct (λ y. y.job) (map seat l)
  distinct [] h a = tt
  distinct (x ∷ l) h a = (apart x l h.0 h.1 a.0, distinct l h.1 a.1)

  same_apart : (x : Joint) (l : List Joint) → Apart (λ y. y.database) x l → Apart (λ y. y.database) (seat x) (map seat l)
  same_apart x [] a = tt
  same_apart x (y ∷ l) a = (a.0, same_apart x l a.1)

  same_distinct : (l : List Joint) → Distinct (λ y. y.database) l → Distinct (λ y. y.database) (map seat l)
  same_distinct [] a = tt
  same_distinct (x ∷ l) a = (same_apart x l a.0, same_distinct l a.1)

  module _ (x y : Joint) (h : Joined (tables s) x y) where
    from : is_open s x.job ≡ true
    from = is_open_lem x.job h.is_open

    to : is_open s y.job ≡ true
    to = open_names s S y.job x.database h.to_names

    joined : Joined (history T d) (seat x) (seat y)
    joined = record {
      is_open = K.sits x.job from;
      from_names = (K.names x.job x.database from).0 h.from_names;
      to_names = (K.names y.job x.database to).0 h.to_names;
    }

  module _ (l : List Joint) (c : ClosedChain (tables s) l) where
    chain : ClosedChain (history T d) (map seat l)
    chain = record {
      two = rw (length-map l seat) c.two;
      jobs = distinct l (ring_each (λ y. is_open s y.job ≡ true) (Joined (tables s)) (λ x y h. from x y h) l c.joined) c.jobs;
      databases = same_distinct l c.databases;
      joined = ring_map (Joined (tables s)) (Joined (history T d)) seat joined l c.joined;
    }

    free : FreeForward (tables s) l ⊎ FreeBackward (tables s) l → FreeForward (history T d) (map seat l) ⊎ FreeBackward (history T d) (map seat l)
    free (inl f) =
        inl (ring_map (λ x y. Joined (tables s) x y × ¬ (tables s).dep x.database x.job y.job) (λ x y. ¬ d x.database x.job y.job) seat
        (λ x y h e. h.1 ((K.dep x.database x.job y.job (from x y h.0) (to x y h.0)).1 e)) l (ring_both (Joined (tables s)) (λ x y. ¬ (tables s).dep x.database x.job y.job) l c.joined f))
    free (inr f) =
        inr (ring_map (λ x y. Joined (tables s) x y × ¬ (tables s).dep x.database y.job x.job) (λ x y. ¬ d x.database y.job x.job) seat
        (λ x y h e. h.1 ((K.dep x.database y.job x.job (to x y h.0) (from x y h.0)).1 e)) l (ring_both (Joined (tables s)) (λ x y. ¬ (tables s).dep x.database y.job x.job) l c.joined f))

  pub no_cycle_of_slots : Walkless (history T d) → NoCycle s
  no_cycle_of_slots W l c = no_cycle (history T d) W (map seat l) (record { chain = chain l c.chain; free = free l c.chain c.free })
