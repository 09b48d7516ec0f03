-- What the type of a state says by itself: every value of the code has it. Assumes nothing: these are definitions.
use Rattle.std.specs.Prelude.{ℕ, ◌^◌, ◌<◌, List, ◌≡◌, length, get_or}
use Rattle.coordinator.specs.declared.Coordinator.{Coordinator}
use Rattle.coordinator.specs.Limits.{jobs, databases, steps}

-- n numbers of w digits each
pub record Sized (n w : ℕ) (l : List ℕ) : Type 0 where
  pub size : length l ≡ n
  pub fits : (i : ℕ) → get_or l i 0 < 2 ^ w

pub record Shape (s : Coordinator) : Type 0 where
  pub tickets : Sized jobs 16 s.tickets
  pub held : s.held < 2 ^ jobs
  pub order : Sized jobs 8 s.order
  pub named : Sized databases jobs s.named
  pub asked : Sized databases jobs s.asked
  pub released : Sized databases jobs s.released
  pub confirmed : Sized databases jobs s.confirmed
  pub dependencies : Sized steps jobs s.dependencies
  pub candidate : s.maker.next < 2 ^ 16
