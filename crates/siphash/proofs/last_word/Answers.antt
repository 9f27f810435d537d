-- `last_word` meets its contract: the bytes behind the words are gathered from the last one down. Assumes nothing.
use Rattle.std.proofs.Common.{◌≡◌, ◌*◌, ◌/◌, ◌∙◌, length, arith, rules, tests}
use Rattle.std.proofs.lemmas.Iterator.Consumers.{fold_from_yields_List}
use Rattle.std.proofs.lemmas.Iterator.Adapters.{YieldsList-from_rev_slice}
use Rattle.buffer.specs.Field.{read_le}
use Rattle.buffer.specs.FieldLaws.{read_below}
use Rattle.siphash.specs.Sip.{last_word}
use Rattle.siphash.proofs.Words.{below, tail}
use Rattle.siphash.proofs.last_word.Goals as goal
use Rattle.siphash.proofs.last_word.Goals.{After-fold-low}

-- what the fold gathers
low : (c : After-fold-low) → c.fold-low.result ≡ read_le 7 c.args.key.now (8 * (length c.args.key.now / 8))
low c =
    fold_from_yields_List _ below _ _ c.fold-low.ensures.ran (YieldsList-from_rev_slice c.as_chunks.result.1.now (cc)) (λ a x b q k. search (rules, tests))
    ∙ tail c.args.key.now c.as_chunks.result.1.now (λ j. (c.type_inv.key j).fits) c.as_chunks.ensures.back

pub overflow_add-result : goal.overflow_add-result
overflow_add-result c = omega (arith, low c, read_below 7 c.args.key.now (8 * (length c.args.key.now / 8)) (λ j. (c.type_inv.key j).fits))

pub returns : goal.returns
unfolding last_word
returns c = rw (low c)
