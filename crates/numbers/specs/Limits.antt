-- The limits. Assumes nothing: these are definitions.
use Rattle.std.specs.Prelude.{ℕ, ◌*◌}

abbrev pub jobs : ℕ
jobs = 32

abbrev pub databases : ℕ
databases = 16

-- a step for each job and database
abbrev pub steps : ℕ
steps = jobs * databases
