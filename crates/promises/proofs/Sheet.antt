-- Every P line of the job sheet holds, by computation. Assumes nothing.
use mathlib.Core.List.{List, [], ◌∷◌, ◌++◌}
use mathlib.Core.Path.{◌≡◌, refl, sym, ap, ◌∙◌}
use lib.ListN.{length, take}
use lib.Count.{ones_in, count_trailing_zeros}
use Rattle.loops.specs.Loop.{over, every, guard, choice}
use Rattle.loops.specs.Sum.{sum}
use Rattle.loops.specs.Table.{table}
use Rattle.mask.specs.Member.{including, excluding}
use Rattle.mask.specs.Members.{over_members, gather, union_of}
use Rattle.walks.specs.Search.{opening_search}
use Rattle.numbers.specs.Ticket.{absent_in, free_from}
use Rattle.tables.specs.Tables.{open_in, sharers_in, holders_in}
use Rattle.tables.specs.Test.{ticket_sound, listed, place_sound, partners, pressing, row_sound, rows_sound, marks_sound, steps_sound, database_sound, sound_in}
use Rattle.coordinator.specs.Views.{in_mask, names, asked, released, confirmed, open_slots, is_open, open_count, ticket, held, opened, into, dep}
use Rattle.coordinator.specs.Holder.{holders, holder}
use Rattle.coordinator.specs.Test.{sound}
use Rattle.coordinator.specs.Refusal.{first_row, all_confirmed, open_refusal, ask_refusal, confirm_refusal, close_refusal, job_refusal, slot_refusal, step_refusal}
use Rattle.coordinator.specs.Change.{mark, mark_asked, mark_released, mark_confirmed, with_dependencies, lead, lead_to, taken}
use Rattle.coordinator.specs.Release.{may_go, release, may_go_at, first_of}
use Rattle.coordinator.specs.Open.{free_slot, held_tickets, ticket_for, entered, searched, with_found, added, accepted, after_open}
use Rattle.coordinator.specs.Ask.{asked_for, after_ask}
use Rattle.coordinator.specs.Confirm.{released_one, confirmed_at, after_confirm}
use Rattle.coordinator.specs.Call.{Call, open_job, play, answers}
use Rattle.coordinator.specs.Answer.{Values}
use Rattle.coordinator.specs.Fresh.{fresh}
use Rattle.coordinator.specs.declared.Coordinator.{Coordinator}
use Rattle.promises.specs.Sheet.{Holds, openings, full_table, one_left, sheet, AllHold}

full_table_lem : Holds full_table
unfolding answers play after_open accepted added with_found searched entered ticket_for held_tickets free_slot after_ask asked_for after_confirm
    confirmed_at released_one may_go release may_go_at first_of mark mark_asked mark_released mark_confirmed with_dependencies lead lead_to taken
    first_row all_confirmed open_refusal ask_refusal confirm_refusal close_refusal ticket_sound listed place_sound partners pressing row_sound
    rows_sound marks_sound steps_sound database_sound sound_in sound open_in sharers_in holders_in holders holder in_mask names asked released
    confirmed open_slots is_open open_count ticket held opened into dep over every guard choice sum table including excluding over_members gather
    union_of opening_search absent_in free_from ones_in count_trailing_zeros slot_refusal step_refusal job_refusal
full_table_lem = refl

-- what the first of the calls answer does not depend on those that follow
first_answers : (s : Coordinator) (a b : List Call) → take (length a) (answers s (a ++ b)) ≡ answers s a
unfolding answers
first_answers s [] b = refl
first_answers s (c ∷ a) b = ap (λ (l : List Values). (play s c).values ∷ l) (first_answers (play s c).state a b)

one_left_lem : Holds one_left
one_left_lem = sym (first_answers (fresh 0) (openings 32) (open_job 0 ∷ open_job 1 ∷ [])) ∙ ap (take 32) full_table_lem

pub job_sheet : AllHold sheet
unfolding answers play after_open accepted added with_found searched entered ticket_for held_tickets free_slot after_ask asked_for after_confirm
    confirmed_at released_one may_go release may_go_at first_of mark mark_asked mark_released mark_confirmed with_dependencies lead lead_to taken
    first_row all_confirmed open_refusal ask_refusal confirm_refusal close_refusal ticket_sound listed place_sound partners pressing row_sound
    rows_sound marks_sound steps_sound database_sound sound_in sound open_in sharers_in holders_in holders holder in_mask names asked released
    confirmed open_slots is_open open_count ticket held opened into dep over every guard choice sum table including excluding over_members gather
    union_of opening_search absent_in free_from ones_in count_trailing_zeros slot_refusal step_refusal job_refusal
job_sheet = (refl, (refl, (refl, (refl, (refl, (refl, (refl, (refl, (full_table_lem, (one_left_lem, (refl, tt)))))))))))
