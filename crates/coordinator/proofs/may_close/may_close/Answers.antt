use Rattle.std.proofs.Common.{◌≡◌, eqb, ap, ◌∙◌, [], rules}
use Rattle.std.specs.Simd.{first_chunks}
use borrow.Author.Tests.{tests}
use Rattle.std.proofs.lemmas.Iterator.{YieldsList-from_slice}
use Rattle.std.proofs.lemmas.Iterator.Search.{all_from_yields_List}
use Rattle.loops.proofs.Chains.{all_list}
use Rattle.loops.proofs.Chunks.{piece_at}
use Rattle.loops.proofs.Turns.{every_same}
use Rattle.coordinator.specs.Limits.{jobs, databases}
use Rattle.coordinator.specs.Views.{entry}
use Rattle.coordinator.specs.Tables.{may_close_in}
use Rattle.coordinator.proofs.may_close.may_close.Goals as goal

pub returns : goal.returns
unfolding may_close_in
returns c =
    let rows = c.args.dependencies.now in
    let b = c.args.job.slot.0 in
    let cut = c.as_chunks.result.0.now in
    let e : cut ≡ first_chunks jobs databases rows = search rules in
    all_from_yields_List {v = λ l. l.now} {all = cut} (λ l. eqb (entry l b) 0) _ _ _ c.all.ensures.ran (YieldsList-from_slice _ (search rules)) (λ x r q k. search (rules, tests))
    ∙ all_list _ [] cut databases (search rules)
    ∙ every_same databases _ _ (λ k l. ap (λ n. eqb n 0) (rw e (piece_at jobs databases rows k b 0 l c.args.job.in_range)))
