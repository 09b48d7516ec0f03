-- No ring of jobs exists, and nothing stands still: demand 3, under either profile.
use Rattle.std.specs.Prelude.{ℕ, List}
use Rattle.histories.specs.Relation.{Ring, Plus}
use Rattle.histories.specs.History.{History, Open, Released, Before}

module _ (H : History) where
  -- every step of every open job has been asked for; none released awaits confirmation
  abbrev pub AllAsked : Type 0
  AllAsked = (a k : ℕ) → Open H a → H.names a k → H.asked a k

  abbrev pub NoneAwaits : Type 0
  NoneAwaits = (a k : ℕ) → Open H a → Released H a k → H.confirmed a k

  pub record Promise : Type 0 where
    -- closed jobs counted; a list of one job is no ring either
    pub no_ring : (jobs : List ℕ) → ¬ Ring (Before H) jobs
    -- the same said without a list
    pub no_return : (a : ℕ) → ¬ Plus (Before H) a a
    pub all_confirmed : AllAsked → NoneAwaits → (a k : ℕ) → Open H a → H.names a k → H.confirmed a k
    pub none_open : AllAsked → NoneAwaits → ((a : ℕ) → Open H a → H.close_asked a) → (a : ℕ) → ¬ Open H a
