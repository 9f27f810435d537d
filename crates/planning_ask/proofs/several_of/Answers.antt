-- `planning_ask::several_of` meets its contract. Assumes nothing.
use Rattle.planning_ask.specs.Simple as laws
use Rattle.planning_ask.proofs.several_of.Goals as goal

pub extract_simple_arguments-found-requires : goal.extract_simple_arguments-found-requires
extract_simple_arguments-found-requires c = laws.behind-in _ _ _ c.requires c.behind_name-args.ensures

pub returns-then-found-eq0 : goal.returns-then-found-eq0
returns-then-found-eq0 c =
    rw c.if-json.true
    (laws.several-none _ _ _ _ c.requires
    c.behind_name-args.ensures c.extract_simple_arguments-found.ensures c.if-found-eq0.true)

pub returns-then-json : goal.returns-then-json
returns-then-json c =
    rw c.if-json.true
    (laws.several-json _ _ _ _ c.requires
    c.behind_name-args.ensures c.extract_simple_arguments-found.ensures
    c.if-found-eq0.false)

pub returns : goal.returns
returns c =
    rw c.if-json.false (laws.several-plain _ _ _ _ c.requires c.behind_name-args.ensures
    c.extract_simple_arguments-found.ensures)
