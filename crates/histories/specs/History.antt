-- What has happened up to some moment, as both profiles tell it. Jobs, databases and times are numbers.
-- Job a is the a-th opening, counted from 0: a later opening has a larger number, and no number comes back.
use Rattle.std.specs.Prelude.{ℕ, ◌<◌}

pub record History : Type 1 where
  -- how many jobs have been opened
  pub count : ℕ
  -- the time: how many releases and closings there have been
  pub now : ℕ
  -- `names a k`: job a has a step at database k; it has been asked for; it was released at a time; it has been confirmed
  pub names : ℕ → ℕ → Type 0
  pub asked : ℕ → ℕ → Type 0
  pub released : ℕ → ℕ → ℕ → Type 0
  pub confirmed : ℕ → ℕ → Type 0
  -- job a has asked to close without being refused; it was closed at a time
  pub close_asked : ℕ → Type 0
  pub closed : ℕ → ℕ → Type 0

-- These are abbreviations, so that a change of a history leaves those that it does not touch as they are.
module _ (H : History) where
  abbrev pub Closed : ℕ → Type 0
  Closed a = (time : ℕ) × H.closed a time

  abbrev pub Open : ℕ → Type 0
  Open a = (a < H.count) × ¬ Closed a

  abbrev pub Released : ℕ → ℕ → Type 0
  Released a k = (time : ℕ) × H.released a k time

  -- Both jobs have had a step released at database k, that of a first.
  abbrev pub BeforeAt : ℕ → ℕ → ℕ → Type 0
  BeforeAt k a b = (early : ℕ) × (late : ℕ) × H.released a k early × H.released b k late × (early < late)

  -- The same at some database.
  abbrev pub Before : ℕ → ℕ → Type 0
  Before a b = (k : ℕ) × BeforeAt k a b

  -- an asked step of an open job that is not yet released
  abbrev pub Pending : ℕ → ℕ → Type 0
  Pending a k = Open a × H.asked a k × ¬ Released a k

  abbrev pub AllConfirmed : ℕ → Type 0
  AllConfirmed a = (k : ℕ) → H.names a k → H.confirmed a k
