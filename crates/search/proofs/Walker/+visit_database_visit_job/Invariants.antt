use Rattle.std.proofs.Common.{◌+◌, ◌*◌}
use Rattle.search.specs.Visit.{unmarked}
use Rattle.search.proofs.Slots.{AtSlots}
use Rattle.search.proofs.Databases.{AtDatabases}
use Rattle.search.proofs.Walker.+visit_database_visit_job.Given as goal

-- a forward move leaves fewer pairs to reach; a visit of a job calls that of a database with as many
abbrev pub decreases-visit_database : goal.decreases-visit_database
decreases-visit_database l = 2 * unmarked l.self.now.reached

abbrev pub decreases-visit_job : goal.decreases-visit_job
decreases-visit_job l = 2 * unmarked l.self.now.reached + 1

abbrev pub invariant-visit_database-loop-left : goal.invariant-visit_database-loop-left
invariant-visit_database-loop-left l = AtSlots l.v.0 l.u.0 l.initial.self l.self l.left

abbrev pub decreases-visit_database-loop-left : goal.decreases-visit_database-loop-left
decreases-visit_database-loop-left l = l.left

abbrev pub invariant-visit_job-loop-u : goal.invariant-visit_job-loop-u
invariant-visit_job-loop-u l =
    AtDatabases l.v.0 l.taken l.initial.self l.self l.u-iterator.left
