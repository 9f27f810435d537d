-- `push::push_in` meets its contract. Assumes nothing.
use Rattle.resp3_element.specs.Meaning.{push_of}
use Rattle.resolving.specs.Pushes.{pushed}
use Rattle.push.specs.Laws.{kept_same, holds_of, holds-no, list-there, by-push, no-push}
use Rattle.push.proofs.push_in.Goals as goal

pub by_elements-requires : goal.by_elements-requires
by_elements-requires c = let a = c.args in
    let r = c.requires in (
      r.0,
      list-there _ _ (push_of r.1.value)
          (holds_of a.bytes.now _ _ (push_of r.1.value) c.in-Some.is
          (c.push.ensures.value r.1.value r.1.means)),
    )

pub returns-in-Some : goal.returns-in-Some
unfolding pushed
returns-in-Some c = λ v bk m k.
    let a = c.args in
    by-push _ a.bytes.now _ _ _ bk (push_of v)
    (holds_of a.bytes.now _ _ (push_of v) c.in-Some.is
    (c.push.ensures.value v m)) (λ vs st. c.by_elements.ensures vs bk st k)

pub returns-in-None : goal.returns-in-None
unfolding pushed
returns-in-None c = λ v bk m k.
    let a = c.args in
    kept_same _ _ _ bk k _
    (no-push _ a.bytes.now bk (push_of v) (holds-no a.bytes.now _ (push_of v) c.in-None.is (c.push.ensures.value v m)))
