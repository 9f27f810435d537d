-- What a store answers and leaves on the bytes of its key's shard: the book's store (book/specs/Book.antt) in the layout's bytes
-- (arena/specs/Layout.antt). Assumes nothing: these are definitions.
use Rattle.std.specs.Prelude.{◌≡◌, ℕ, ◌≤◌, Bool, cond, length}
use Rattle.buffer.specs.Same.{Bytes}
use Rattle.config.specs.Limits.{max_key, max_command_key, max_bytes}
use Rattle.book.specs.Book.{Row, Effect, stored, no_space, find, stored_row, fits, if_fits}
use Rattle.arena.specs.Layout.{enc_shard}

-- a store that would leave the row `new` where the row was `old`, in a shard of n bytes: the space rule decides
abbrev pub judged : ℕ → Row → Row → Effect
judged n new old = if_fits (fits n new) new old

-- the book's store on the row of a shard that has n keys at most and b bytes (the book's `effect_on`: Cases.antt, `store-on`)
abbrev pub store_on : ℕ → ℕ → Bytes → Bytes → Bytes → ℕ → ℕ → Row → Effect
store_on n b k c v x e row = judged b (stored_row n (find k row) k c v x e row) row

-- a store found the bytes `was`, left the bytes `left`, and said whether it kept the value: as the effect f on the row
pub record Leaves (was left : Bytes) (kept : Bool) (f : Effect) : Type 0 where
  pub answer : cond kept stored no_space ≡ f.answer
  pub bytes : left ≡ enc_shard (length was) f.row

-- what cause 3 leaves of a store's key, command key and value
pub record Storable (k c v : Bytes) : Type 0 where
  pub key : length k ≤ max_key
  pub command : length c ≤ max_command_key
  pub value : length v ≤ max_bytes
