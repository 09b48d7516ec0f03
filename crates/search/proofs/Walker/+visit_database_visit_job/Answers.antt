use Rattle.std.proofs.Common.{sym, ◌∙◌, arith, rules}
use Rattle.search.proofs.Onward.{unmarked_le}
use Rattle.search.proofs.Slots.{slots_start, slots_held, slots_closed, forward_asked, slots_forward, slots_done}
use Rattle.search.proofs.Databases.{databases_start, taking_ready, database_asked, databases_turn, databases_done}
use Rattle.search.proofs.Walker.+visit_database_visit_job.Goals as goal

-- visit_database: in each turn of its loop at w, the lowest of the slots to try

pub visit_database-loop-left-init : goal.visit_database-loop-left-init
visit_database-loop-left-init t c = slots_start c.requires.ready c.others-left.ensures

-- v goes before w
pub visit_database-loop-left-preserved-then-has : goal.visit_database-loop-left-preserved-then-has
visit_database-loop-left-preserved-then-has t c =
    slots_held c.loop-left.invariant c.loop-left-test.true c.lowest.ensures c.rest-left.ensures c.requires.standing (sym c.has.ensures ∙ c.if-has.true)

-- the new job
pub visit_database-loop-left-preserved-then-eq : goal.visit_database-loop-left-preserved-then-eq
visit_database-loop-left-preserved-then-eq t c =
    slots_closed c.loop-left.invariant c.loop-left-test.true c.lowest.ensures c.rest-left.ensures c.requires.standing (sym c.has.ensures ∙ c.if-has.false) (search rules)

-- another job: it is visited
pub visit_database-visit_job-requires : goal.visit_database-visit_job-requires
visit_database-visit_job-requires t c =
    let asked = forward_asked c.loop-left.invariant c.loop-left-test.true c.lowest.ensures c.requires.standing (sym c.has.ensures ∙ c.if-has.false) (search rules) in
    (omega (arith, asked.0, c.decreases), asked.1)

pub visit_database-loop-left-preserved : goal.visit_database-loop-left-preserved
visit_database-loop-left-preserved t c =
    slots_forward c.loop-left.invariant c.loop-left-test.true c.lowest.ensures c.rest-left.ensures c.requires.standing (sym c.has.ensures ∙ c.if-has.false) (search rules) c.visit_job.ensures c.others-left-else-eq.ensures

pub visit_database-returns : goal.visit_database-returns
visit_database-returns t c = slots_done c.loop-left.invariant c.loop-left-test.false

-- visit_job

pub visit_job-loop-u-init : goal.visit_job-loop-u-init
visit_job-loop-u-init t c =
    rw (c.into_iter-u-iterator.ensures.into_iter_gives, c.members-u-items.ensures) (databases_start (taking_ready c.requires c.without-taken.ensures c.less.ensures))

pub visit_job-visit_database-requires : goal.visit_job-visit_database-requires
visit_job-visit_database-requires t c =
    let asked = database_asked c.requires c.without-taken.ensures c.less.ensures c.loop-u.invariant c.in-Some.ensures.steps.0 in
    (omega (arith, unmarked_le c.loop-u.invariant.onward, c.decreases), asked)

pub visit_job-loop-u-preserved : goal.visit_job-loop-u-preserved
visit_job-loop-u-preserved t c =
    databases_turn c.loop-u.invariant c.in-Some.ensures.steps.1 _ c.visit_database.ensures

pub visit_job-returns : goal.visit_job-returns
visit_job-returns t c =
    databases_done c.requires c.without-taken.ensures c.less.ensures c.loop-u.invariant c.in-None.ensures.steps.0
