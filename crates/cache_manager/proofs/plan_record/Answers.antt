-- `cache_manager::plan_record` meets its contract: the table of no words tells of every arena. Assumes nothing.
use Rattle.key_filter.specs.Laws.{filters-none}
use Rattle.cache_manager.proofs.plan_record.Goals as goal

pub plan_seen-requires : goal.plan_seen-requires
plan_seen-requires c = let p = c.requires in (
  record {
    arena = p.0;
    filters = filters-none _ _;
  },
  p.1,
  p.2,
)

pub returns-then-bytes-lt2048 : goal.returns-then-bytes-lt2048
returns-then-bytes-lt2048 c = c.plan_seen.ensures

pub returns : goal.returns
returns c = c.plan_filtered.ensures
