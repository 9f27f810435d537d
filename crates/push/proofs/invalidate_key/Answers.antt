-- `push::invalidate_key` meets its contract. Assumes nothing.
use mathlib.Core.Path.{sym, ◌∙◌}
use Rattle.push.specs.Laws.{kept_same, key-skipped, kept-key}
use Rattle.push.proofs.invalidate_key.Goals as goal

pub returns-then-not-is_blob : goal.returns-then-not-is_blob
returns-then-not-is_blob c = λ v bk m k. kept_same _ _ _ bk k _ (key-skipped _ bk v (sym (c.is_blob.ensures v m) ∙ c.if-not-is_blob.true))

pub returns : goal.returns
returns c = λ v bk m k.
    let i = c.invalidate-n.ensures bk.rows k.lent in
    kept-key _ _ _ bk k v _ _ _ _ (c.blob.ensures.value v m)
    (sym (c.is_blob.ensures v m)
    ∙ c.if-not-is_blob.false) i.0 i.1 c.dropped.ensures
