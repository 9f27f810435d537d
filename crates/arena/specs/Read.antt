-- What is written is read: the fields of each head, keys, command keys and values, entries, items, a shard. Every law holds whatever follows
-- (Y). Assumes of each number that its field holds it.
use Rattle.std.specs.Prelude.{◌≡◌, ℕ, ◌+◌, ◌-◌, ◌^◌, ◌<◌, drop}
use Rattle.std.proofs.Math.Path.{refl}
use Rattle.std.proofs.Common.{ap, arith, length-append, drop_at}
use mathlib.Core.List.{List, [], ◌∷◌, ◌++◌, append_assoc}
use Rattle.std.proofs.Math.ListN.{length}
use Rattle.buffer.specs.Same.{Bytes}
use Rattle.buffer.specs.Field.{le, le32, le64, read_le, read32, read64}
use Rattle.buffer.specs.FieldLaws.{length-le, read_at}
use Rattle.buffer.specs.Part.{part}
use Rattle.buffer.specs.PartLaws.{part_at}
use Rattle.book.specs.Book.{Entry, Item, Row, entry_bytes, row_bytes}
use Rattle.arena.specs.Layout.{zeros, head, item_head, enc_entry, enc_entries, enc_item, enc_items, enc_shard}
use Rattle.arena.specs.Decode.{read_entry, read_entries, read_item, read_items, read_shard}

-- its fields hold its numbers
pub record Small (it : Item) : Type 0 where
  pub key : length it.key < 256 ^ 4
  pub count : length it.entries < 256 ^ 4
  pub epoch : it.epoch < 256 ^ 8
  pub expiry : it.expiry < 256 ^ 8
  pub bytes : entry_bytes it.entries < 256 ^ 4

-- all items of a row are such
abbrev pub Smalls : Row → Type 0
Smalls [] = Unit {0}
Smalls (it ∷ row) = Small it × Smalls row
