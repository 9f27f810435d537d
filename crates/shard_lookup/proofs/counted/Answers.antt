-- `shard_lookup::counted` meets its contract. Assumes nothing.
use mathlib.Core.Path.{sym, ap}
use Rattle.statistics.specs.OfBook.{adding}
use Rattle.shard_lookup.specs.Looked.{adds_by}
use Rattle.shard_lookup.specs.declared.Looked.{Looked}
use Rattle.shard_lookup.proofs.counted.Goals as goal

pub returns-in-Hit : goal.returns-in-Hit
returns-in-Hit c = rw c.increase_each.ensures (sym (ap (λ (r : Looked). adding c.args.counts (adds_by r))
    c.in-Hit.is))

pub returns-in-Miss : goal.returns-in-Miss
returns-in-Miss c =
    rw c.increase_each-in-Miss.ensures
    (sym (ap (λ (r : Looked). adding c.args.counts (adds_by r)) c.in-Miss.is))
