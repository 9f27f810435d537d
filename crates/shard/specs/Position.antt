-- Where the key's item stands in its shard's bytes. Assumes nothing: these are definitions.
use Rattle.std.specs.Prelude.{ℕ, ◌+◌, cond, [], ◌∷◌, Option, Some, None}
use Rattle.buffer.specs.Same.{Bytes, same}
use Rattle.book.specs.Book.{Row}
use Rattle.arena.specs.Edit.{item_bytes}

-- the first item with the key, among items the first of which stands at `at`
unfoldable pub position_from : ℕ → Bytes → Row → Option ℕ
position_from at k [] = None
position_from at k (it ∷ row) = cond (same k it.key) (Some at) (position_from (at + item_bytes it) k row)

-- in a whole shard, whose items begin behind its 16 bytes of header
abbrev pub position_of : Bytes → Row → Option ℕ
position_of k row = position_from 16 k row
