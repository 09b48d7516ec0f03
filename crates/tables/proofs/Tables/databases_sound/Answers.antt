use Rattle.std.proofs.Common.{rules, ◌∙◌, []}
use borrow.Author.Tests.{tests}
use Rattle.std.proofs.lemmas.Iterator.{YieldsList-from_slice}
use Rattle.std.proofs.lemmas.Iterator.Consumers.{YieldsList-from_enumerate}
use Rattle.std.proofs.lemmas.Iterator.Search.{all_from_yields_List}
use Rattle.loops.proofs.Chains.{all_numbered}
use Rattle.loops.proofs.Turns.{every_same}
use Rattle.tables.specs.Limits.{databases}
use Rattle.tables.specs.Tables.{entry}
use Rattle.tables.specs.Test.{steps_sound, database_sound}
use Rattle.tables.proofs.Testing.{steps_at}
use Rattle.tables.proofs.Tables.databases_sound.Goals as goal

pub returns : goal.returns
unfolding database_sound
returns c =
    let t = c.args.self in
    all_from_yields_List {v = λ p. (p.0, p.1.now)} (λ q. steps_sound (entry t.named.now q.0) (entry t.asked.now q.0) (entry t.released.now q.0) (entry t.confirmed.now q.0) t.held q.1) _ _ _ c.all.ensures.ran
    (YieldsList-from_enumerate (YieldsList-from_slice _ (search rules)) c.enumerate.ensures.count) (λ x b q k. search (rules, tests))
    ∙ all_numbered _ [] c.as_chunks.result.0.now databases (search rules)
    ∙ every_same databases _ _ (λ k l. steps_at _ _ _ _ _ t.dependencies.now databases k c.as_chunks.result.0.now (search rules) l)
