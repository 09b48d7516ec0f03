-- The fresh start. Assumes nothing: these are definitions.
use Rattle.std.specs.Prelude.{ℕ, replicate}
use Rattle.coordinator.specs.declared.Coordinator.{Coordinator}
use Rattle.coordinator.specs.Limits.{jobs, databases, steps}

-- no job is open, and n is the first candidate
abbrev pub fresh : ℕ → Coordinator
fresh n = record {
  tickets = replicate jobs 0;
  held = 0;
  order = replicate jobs 0;
  named = replicate databases 0;
  asked = replicate databases 0;
  released = replicate databases 0;
  confirmed = replicate databases 0;
  dependencies = replicate steps 0;
  maker = record { next = n };
}
