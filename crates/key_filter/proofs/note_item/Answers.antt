-- `key_filter::note_item` meets its contract. Assumes nothing.
use native.Mathlib.Omega.{arith}
use mathlib.Core.Path.{◌≡◌, ap, ◌∙◌}
use Prim.Native.Nat.{ℕ, ◌+◌, ◌-◌}
use lib.ListN.{length, take, drop}
use Rattle.buffer.specs.Same.{Bytes}
use Rattle.buffer.specs.Part.{part}
use Rattle.buffer.specs.Field.{read32}
use Rattle.book.specs.Book.{Item, Row}
use Rattle.shard.specs.Holds.{Stands}
use Rattle.shard.proofs.Fields.{fields}
use Rattle.key_filter.specs.Filter.{bit_of, set_bit}
use Rattle.key_filter.proofs.note_item.Goals as goal

-- the key of the item is the part that is lent
key-part : (s : Bytes) (at n : ℕ) (front back : Row) (it : Item) → Stands s at front back it → n ≡ read32 s at
    → take (at + 32 + n - (at + 32)) (drop (at + 32) s) ≡ it.key
unfolding part
key-part s at n front back it w e =
    let f = fields w in
    let l : at + 32 + n - (at + 32) ≡ length it.key = let k = f.key-len in omega arith in
    ap (λ (m : ℕ). take m (drop (at + 32) s)) l ∙ f.key

pub overflow_add-from : goal.overflow_add-from
overflow_add-from c = let f = fields c.requires.stands in omega arith

pub read_u32-requires : goal.read_u32-requires
read_u32-requires c = let f = fields c.requires.stands in omega arith

pub overflow_add-to : goal.overflow_add-to
overflow_add-to c = let f = fields c.requires.stands in omega arith

pub slice_bounds-note-end : goal.slice_bounds-note-end
slice_bounds-note-end c = let f = fields c.requires.stands in omega arith

pub returns : goal.returns
returns c front back it w =
    c.note.ensures
    ∙ ap (λ (k : Bytes). set_bit c.args.seen.now (bit_of k))
    (key-part _ _ _ front back it w c.read_u32.ensures)
