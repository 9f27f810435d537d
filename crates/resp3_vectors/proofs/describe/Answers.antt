-- `resp3_vectors::describe` meets its contract: a list that was found has a cursor that stands in it. Assumes nothing.
use Rattle.resp3_vectors.specs.Standing.{standing}
use Rattle.resp3_vectors.proofs.describe.Goals as goal

pub put_list-requires : goal.put_list-requires
put_list-requires g c =
    standing _ _ _ _ c.in-Some-array.is (c.array.ensures.value c.requires.v c.requires.means)

pub put_list-requires-in-Some-push : goal.put_list-requires-in-Some-push
put_list-requires-in-Some-push g c =
    standing _ _ _ _ c.in-Some-push.is (c.push.ensures.value c.requires.v c.requires.means)
