use Rattle.std.proofs.Common.{◌≡◌, ◌∙◌, sym, ap, length, length-take-le, arith, rules}
use Rattle.numbers.specs.Ticket.{ticket_from}
use Rattle.coordinator.specs.Limits.{jobs}
use Rattle.coordinator.proofs.Tables.{open_slots_are}
use Rattle.coordinator.proofs.Opening.{room_left, slot_fits, opened_at}
use Rattle.coordinator.proofs.Coordinator.accept.Goals as goal

pub held_tickets-held-requires : goal.held_tickets-held-requires
held_tickets-held-requires c = omega (arith, c.size-count.ensures, room_left _ c.requires.1)

pub invariant_of-job : goal.invariant_of-job
invariant_of-job c = record { in_range = slot_fits _ c.requires.1 c.ranges.slots.fits _ c.lowest_of-slot.ensures }

pub bounds-self-slot : goal.bounds-self-slot
bounds-self-slot c = slot_fits _ c.requires.1 c.ranges.slots.fits _ c.lowest_of-slot.ensures

pub bounds-self-count : goal.bounds-self-count
bounds-self-count c = omega (arith, c.size-count.ensures, room_left _ c.requires.1)

pub returns : goal.returns
returns c =
    let s = c.args.self.now in
    let sized : length s.tickets ≡ jobs = search rules in
    opened_at s c.args.mask _ _ _ _ _ _ _ _ _ _ sized (open_slots_are s _ c.requires.0)
    (slot_fits _ c.requires.1 c.ranges.slots.fits _ c.lowest_of-slot.ensures) c.lowest_of-slot.ensures
    c.size-count.ensures (c.take-ticket.ensures.0 ∙ ap (λ l. ticket_from l s.maker.next) c.held_tickets-held.ensures) c.take-ticket.ensures.1 c.name_databases.ensures c.lead_released.ensures
    c.search-sought.ensures c.lead_found.ensures c.count_all-added.ensures.all

pub slice_bounds-held-end : goal.slice_bounds-held-end
slice_bounds-held-end c = omega (arith, c.size-count.ensures, room_left _ c.requires.1)

pub slice_bounds-take-end : goal.slice_bounds-take-end
slice_bounds-take-end c = sym (length-take-le c.size-count.result c.held_tickets-held.result (omega (arith, c.size-count.ensures, room_left _ c.requires.1)))
