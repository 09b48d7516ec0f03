-- The limits of the tables are those of slots and databases. Assumes nothing: these are definitions.
pub use Rattle.numbers.specs.Limits.{jobs, databases, steps}
