use Rattle.std.proofs.Common.{◌≡◌, ◌<◌, ◌/◌, length, ◌∙◌, ap, arith, rules}
use Rattle.std.proofs.lemmas.Bool.Decides.{nat_tests}
use Rattle.std.proofs.lemmas.List.{take_all}
use Rattle.record.proofs.Chunks.{read_at}
use Rattle.lines.specs.Answered.{answered}
use Rattle.lines.proofs.Going.{parts, on, over, done}
use Rattle.lines.proofs.Told.{said_is}
use Rattle.lines.proofs.play_all.Goals as goal

pub loop-i-preserved : goal.loop-i-preserved
loop-i-preserved c =
    let all = parts _ c.args.records.now _ _ (search (rules, take_all)) c.as_chunks.ensures.front c.as_chunks.ensures.front_len c.as_chunks.ensures.back_len in
    let here : c.loop-i.i < length c.args.records.now / 4 = omega (arith, c.loop-i-test.true, all.count) in
    on _ _ _ _ _ _ _ _ _ c.loop-i.invariant c.requires.1 _ _ _ _ _
    (said_is _ _ _ _ _ c.play-answer.ensures c.tell.ensures ∙ ap (answered c.loop-i.tested.state) (c.try_from-asked.ensures ∙ read_at _ _ _ _ all.front here))
    (omega (arith, here))
    (omega arith) (omega arith) c.put_line-wrote.ensures.0 c.put_line-wrote.ensures.1 c.put_line-wrote.ensures.2

pub returns-then-not-is_empty : goal.returns-then-not-is_empty
returns-then-not-is_empty c =
    let all = parts _ c.args.records.now _ _ (search (rules, take_all)) c.as_chunks.ensures.front c.as_chunks.ensures.front_len c.as_chunks.ensures.back_len in
    let end : c.loop-i.i ≡ length c.as_chunks.result.0.now = omega (arith, c.loop-i.auto.i-end, c.loop-i-test.false) in
    let some : 0 < length c.as_chunks.result.1.now = grind (arith, nat_tests, c.is_empty.ensures, c.if-not-is_empty.true) in
    rw (← c.new-tested.ensures)
    (over _ _ _ _ _ _ _ _ _ (rw end at c.loop-i.invariant) c.requires.1 _ _
    (omega (arith, some, all.count, all.left))
    (omega (arith, all.count))
    c.put_line-wrote-then-not-is_empty.ensures.0
    c.put_line-wrote-then-not-is_empty.ensures.1
    c.put_line-wrote-then-not-is_empty.ensures.2)

pub returns-else-not-is_empty : goal.returns-else-not-is_empty
returns-else-not-is_empty c =
    let all = parts _ c.args.records.now _ _ (search (rules, take_all)) c.as_chunks.ensures.front c.as_chunks.ensures.front_len c.as_chunks.ensures.back_len in
    let end : c.loop-i.i ≡ length c.as_chunks.result.0.now = omega (arith, c.loop-i.auto.i-end, c.loop-i-test.false) in
    let none : length c.as_chunks.result.1.now ≡ 0 = grind (arith, nat_tests, c.is_empty.ensures, c.if-not-is_empty.false) in
    rw (← c.new-tested.ensures) (done _ _ _ _ _ _ _ _ _ (rw end at c.loop-i.invariant) c.requires.1 (omega (arith, none, all.count, all.left)))
