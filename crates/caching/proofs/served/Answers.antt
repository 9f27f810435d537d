-- `caching::served` meets its contract: a hit's bytes are the part that the definition says. Assumes nothing.
use Rattle.std.specs.Prelude.{◌≡◌, Some}
use Rattle.std.proofs.Common.{refl}
use Rattle.buffer.specs.Part.{part}
use Rattle.caching.proofs.served.Goals as goal

pub returns-in-Ok-Some-clause-bytes : goal.returns-in-Ok-Some-clause-bytes
unfolding part
returns-in-Ok-Some-clause-bytes c =
    let q : c.in-Ok-Some.field-0 ≡ Some c.in-Ok-Some.r = rw c.in-Ok-Some.is at c.in-Ok-Some.field-0-is in
    rw (c.in-Ok-Some.is, q) refl
