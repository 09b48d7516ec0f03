use Rattle.std.proofs.Common.{◌≡◌, ◌∙◌, ap, length, take, get_or-take, length-take-le, refl, rules, arith}
use lib.ListN.{length-set}
use Rattle.loops.proofs.Tables.{table_none, table_turn, table_filled}
use Rattle.coordinator.specs.Limits.{jobs}
use Rattle.coordinator.specs.Tables.{ticket_at}
use Rattle.coordinator.proofs.tickets.held_tickets.Goals as goal

pub loop-i-init : goal.loop-i-init
loop-i-init c = (refl, table_none _)

pub loop-i-preserved : goal.loop-i-preserved
loop-i-preserved c =
    let h = c.loop-i.invariant in
    let sized : length (take c.args.n c.args.order.now) ≡ c.args.n = length-take-le c.args.n c.args.order.now (search rules) in
    let read = get_or-take c.args.n c.args.order.now c.loop-i.i 0 (omega (arith, sized)) in
    (simp length-set h.0, table_turn _ _ _ jobs _ (c.ticket_at.ensures ∙ ap (ticket_at c.args.tickets.now) read) h.0 (omega (arith, sized)) h.1)

pub returns : goal.returns
returns c =
    let sized : length (take c.args.n c.args.order.now) ≡ c.args.n = length-take-le c.args.n c.args.order.now (search rules) in
    table_filled _ _ _ _ (rw (← sized) c.loop-i.auto.i-end) (rw (← sized) c.loop-i-test.false) c.loop-i.invariant.1
