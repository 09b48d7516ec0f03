-- Demand 3, of every history, said of what the calls and their answers tell. Assumes nothing: these are definitions.
use Rattle.std.specs.Prelude.{ℕ, ◌<◌, List}
use Rattle.rings.specs.Relation.{Ring, Plus}
use Rattle.promises.specs.Told.{Told}

module _ (T : Told) where
  abbrev pub Open : ℕ → Type 0
  Open a = (a < T.count) × ¬ ((t : ℕ) × T.closed a t)

  abbrev pub Released : ℕ → ℕ → Type 0
  Released a k = (t : ℕ) × T.released a k t

  -- both jobs have had a step released at database k, that of a first; at some database
  abbrev pub BeforeAt : ℕ → ℕ → ℕ → Type 0
  BeforeAt k a b = (s : ℕ) × (t : ℕ) × T.released a k s × T.released b k t × (s < t)

  abbrev pub Before : ℕ → ℕ → Type 0
  Before a b = (k : ℕ) × BeforeAt k a b

  -- no ring of jobs, closed ones counted; the same said without a list
  abbrev pub NoRing : Type 0
  NoRing = (jobs : List ℕ) → ¬ Ring Before jobs

  abbrev pub NoReturn : Type 0
  NoReturn = (a : ℕ) → ¬ Plus Before a a

  -- every step of every open job has been asked for; none released awaits confirmation
  abbrev pub AllAsked : Type 0
  AllAsked = (a k : ℕ) → Open a → T.names a k → T.asked a k

  abbrev pub NoneAwaits : Type 0
  NoneAwaits = (a k : ℕ) → Open a → Released a k → T.confirmed a k

  -- nothing stands still
  abbrev pub AllConfirmed : Type 0
  AllConfirmed = AllAsked → NoneAwaits → (a k : ℕ) → Open a → T.names a k → T.confirmed a k

  abbrev pub NoneOpen : Type 0
  NoneOpen = AllAsked → NoneAwaits → ((a : ℕ) → Open a → T.close_asked a) → (a : ℕ) → ¬ Open a
