-- `buffer::all_zero` meets its contract: the blocks and then the rest are tested. Assumes nothing.
use Rattle.std.proofs.Common.{◌∙◌, rules, tests}
use Rattle.std.proofs.lemmas.Iterator.{YieldsList-from_slice}
use Rattle.std.proofs.lemmas.Iterator.Search.{all_from_yields_List}
use Rattle.buffer.specs.Part.{part}
use Rattle.buffer.specs.Zero.{all_zero}
use Rattle.buffer.proofs.Tests.{blocks_tested}
use Rattle.buffer.proofs.all_zero.Goals as goal

pub returns-then-all : goal.returns-then-all
unfolding part
returns-then-all c =
    let k = c.as_chunks.ensures in
    let e = all_from_yields_List all_zero _ _ c.all.result c.all.ensures.ran (YieldsList-from_slice _ c.iter.ensures.rest) (λ x b q k. search (rules, tests)) in
    c.only_zeros.ensures ∙ blocks_tested 64 _ _ _ k.front k.back e c.if-all.true

pub returns-else-all : goal.returns-else-all
unfolding part
returns-else-all c =
    let k = c.as_chunks.ensures in
    let e = all_from_yields_List all_zero _ _ c.all.result c.all.ensures.ran (YieldsList-from_slice _ c.iter.ensures.rest) (λ x b q k. search (rules, tests)) in
    c.if-all.false ∙ blocks_tested 64 _ _ _ k.front k.back e c.if-all.false
