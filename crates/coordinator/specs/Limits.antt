-- The limits of the coordinator are those of its tables. Assumes nothing: these are definitions.
pub use Rattle.tables.specs.Limits.{jobs, databases, steps}
