-- `push::invalidate_by` meets its contract. Assumes nothing.
use mathlib.Core.Path.{sym, ◌∙◌}
use Rattle.resp3_element.specs.Meaning.{array_of, is_null}
use Rattle.push.specs.Laws.{kept_same, holds_of, holds-no, by-null, kept-cleared, list-there, by-array, no-array}
use Rattle.push.proofs.invalidate_by.Goals as goal

pub invalidate_keys-requires : goal.invalidate_keys-requires
invalidate_keys-requires c = let a = c.args in
    let r = c.requires in (
      r.0,
      list-there _ _ (array_of r.1.value)
          (holds_of a.value.now _ _ (array_of r.1.value) c.in-Some.is
          (c.array.ensures.value r.1.value r.1.means)),
    )

pub returns-then-not-is_null : goal.returns-then-not-is_null
returns-then-not-is_null c = λ v bk m k.
    let a = c.args in
    kept_same _ _ _ bk k _
    (no-array _ a.value.now bk (array_of v) (is_null v)
    (holds-no a.value.now _ (array_of v) c.in-None.is (c.array.ensures.value v m))
    (sym (c.is_null.ensures.value v m) ∙ c.if-not-is_null.true))

pub returns-in-Some : goal.returns-in-Some
returns-in-Some c = λ v bk m k.
    let a = c.args in
    by-array _ a.value.now _ _ _ bk (array_of v) (is_null v)
    (holds_of a.value.now _ _ (array_of v) c.in-Some.is
    (c.array.ensures.value v m)) (λ vs st. c.invalidate_keys.ensures vs bk st k)

pub returns-else-not-is_null : goal.returns-else-not-is_null
returns-else-not-is_null c = λ v bk m k.
    let a = c.args in
    let i = c.invalidate_all-n.ensures bk.rows k.lent in
    by-null _ a.value.now _ _ bk (array_of v) (is_null v)
    (holds-no a.value.now _ (array_of v) c.in-None.is
    (c.array.ensures.value v m))
    (sym (c.is_null.ensures.value v m)
    ∙ c.if-not-is_null.false)
    (kept-cleared _ _ _ bk k _ _ _ i.0 i.1 c.dropped.ensures)
