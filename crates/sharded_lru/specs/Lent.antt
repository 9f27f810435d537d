-- The arena that the functions of this crate are lent, the rows that it is the image of, and the rows after an event. Assumes nothing: these are definitions.
use Rattle.std.specs.Prelude.{ℕ, ◌*◌, ◌≤◌, [], length}
use Rattle.buffer.specs.Same.{Bytes}
use Rattle.config.specs.Limits.{max_arena, max_shards, min_shard_bytes}
use Rattle.config.specs.declared.Settings.{Settings}
use Rattle.siphash.specs.Sip.{sip_hash13}
use Rattle.resp3.specs.Ends.{is_value}
use Rattle.book.specs.Book.{Setup, Row, Effect, Keyed, key_of, effect_on, Event, on, invalidate_all, new_epoch, set_row}
use Rattle.arena.specs.SetupOf.{setup_for}
use Rattle.arena.specs.Image.{Image}

-- the book's setup that settings give, with the shards' hash
abbrev pub setup_now : Settings → Setup
setup_now g = setup_for sip_hash13 g

-- the bytes s are the image of these rows under these settings, which cause 1 let through: the first six fields are what that leaves
pub record Lent (g : Settings) (s : Bytes) (rows : ℕ → Row) : Type 0 where
  pub some : 1 ≤ g.shards
  pub few : g.shards ≤ max_shards
  pub keyed : 1 ≤ g.keys
  pub least : min_shard_bytes ≤ g.bytes
  pub inside : g.shards * g.bytes ≤ length s
  pub largest : length s ≤ max_arena
  pub image : Image is_value (setup_now g) s rows

-- the bytes are the image of some rows
pub record Arena (g : Settings) (s : Bytes) : Type 0 where
  pub rows : ℕ → Row
  pub lent : Lent g s rows

-- the effect of a lookup, store or invalidation on the row of its key's shard, among these rows: the book's `effect`
abbrev pub effect_in : Setup → Keyed → (ℕ → Row) → Effect
effect_in p q rows = effect_on p q (rows (p.shard_of (key_of q)))

-- the rows after an event: those of the book's `after` (Laws.antt, `rows-after`)
unfoldable pub rows_after : Setup → Event → (ℕ → Row) → ℕ → Row
rows_after p (on q) rows = set_row (p.shard_of (key_of q)) (effect_in p q rows).row rows
rows_after p invalidate_all rows = λ i. []
rows_after p new_epoch rows = rows
