-- What changes of a row do to its shard's bytes, in the terms of the crate buffer: `spliced`, `rotated`, `put`. A shard has n bytes. Assumes that the
-- row is within them, before and after.
use Rattle.std.specs.Prelude.{◌≡◌}
use Rattle.std.proofs.Common.{sym, ◌∙◌}
use Rattle.std.proofs.Math.Path.{ap, ap₂}
use Prim.Native.Nat.{ℕ, ◌+◌, ◌-◌, ◌≤◌}
use native.Mathlib.Omega.{arith}
use mathlib.Core.List.{List, [], ◌∷◌, ◌++◌, append_assoc}
use Rattle.std.proofs.Math.ListN.{length, length-append}
use Rattle.buffer.specs.Same.{Bytes}
use Rattle.buffer.specs.Field.{le32, le64}
use Rattle.buffer.specs.Move.{spliced, rotated, spliced-zeros, rotated-at}
use Rattle.buffer.specs.Part.{put}
use Rattle.book.specs.Book.{Entry, Item, Row, entry_bytes, row_bytes}
use Rattle.arena.specs.Layout.{zeros, head, item_head, enc_entries, enc_items, enc_shard}
use Rattle.arena.specs.Pieces.{item_of}

-- the bytes of an item
abbrev pub item_bytes : Item → ℕ
item_bytes it = 32 + length it.key + entry_bytes it.entries

-- where the item behind the items of `front` stands
abbrev pub place_after : Row → ℕ
place_after front = 16 + row_bytes front
