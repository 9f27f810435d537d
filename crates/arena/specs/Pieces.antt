-- A shard in its pieces: the bytes of items or entries before, at and after a place, and the fields of heads replaced. Assumes nothing.
use Rattle.std.specs.Prelude.{◌≡◌, ℕ, ◌+◌, ◌-◌, length}
use Rattle.std.proofs.Math.Path.{refl}
use Rattle.std.proofs.Common.{sym, ap, ◌∙◌, arith, length-append}
use mathlib.Core.List.{List, [], ◌∷◌, ◌++◌, append_assoc, append-nil}
use Rattle.buffer.specs.Same.{Bytes}
use Rattle.buffer.specs.Field.{le32, le64}
use Rattle.buffer.specs.FieldLaws.{length-le}
use Rattle.buffer.specs.Part.{put}
use Rattle.buffer.specs.PartLaws.{put-at}
use Rattle.book.specs.Book.{Entry, Item, Row, entry_bytes, row_bytes}
use Rattle.arena.specs.Layout.{zeros, head, item_head, enc_entry, enc_entries, enc_item, enc_items, enc_shard}

-- ---- rows and entries in two

-- an item of these parts
abbrev pub item_of : Bytes → ℕ → ℕ → List Entry → Item
item_of k e x ens = record { key = k; epoch = e; expiry = x; entries = ens }
