-- Worked cases of the layout and of what is an image, each a theorem by itself, by computing. They lean on Layout.antt, Decode.antt and Place.antt alone,
-- so that a wrong definition there fails here first.
use Rattle.std.specs.Prelude.{◌≡◌, refl, ℕ, ◌+◌, ◌%◌, Bool, true, false, List, [], ◌∷◌, ◌++◌, length, get_or, eqb}
use Rattle.buffer.specs.Same.{Bytes}
use Rattle.buffer.specs.Field.{le, read_le}
use Rattle.buffer.specs.Part.{part, put}
use Rattle.book.specs.Book.{Setup, Entry, Item, Row, book-defs}
use Rattle.arena.specs.Layout.{zeros, head, item_head, enc_entry, enc_entries, enc_item, enc_items, enc_shard, enc_shards, encode}
use Rattle.arena.specs.Place.{entries_place, items_place, shard_place, arena_place}
use Rattle.arena.specs.Decode.{read_entry, read_entries, read_item, read_items, read_shard, read_arena, every, distinct_keys, distinct_commands}
use Rattle.arena.specs.Decode.{may_store, item_fits, item_fine, row_fine, rows_fine, is_image, decode}

-- one name that opens both pages
unfoldable arena-defs : Unit {0}
unfolding
    book-defs le read_le part put head item_head enc_entry enc_entries enc_item enc_items enc_shard enc_shards encode read_entry read_entries read_item read_items read_shard
    read_arena every distinct_keys distinct_commands may_store item_fits item_fine row_fine rows_fine is_image decode entries_place items_place shard_place
    arena_place
arena-defs = tt

-- ---- the layout, byte by byte

-- keys b and a, command keys G and L, values
abbrev a : Bytes
a = 97 ∷ []

abbrev b : Bytes
b = 98 ∷ []

abbrev get : Bytes
get = 71 ∷ 97 ∷ []

abbrev len : Bytes
len = 76 ∷ []

abbrev u : Bytes
u = 43 ∷ 117 ∷ 13 ∷ 10 ∷ []

abbrev entry : Bytes → Bytes → Entry
entry c v = record { command = c; value = v }

abbrev item : Bytes → ℕ → ℕ → List Entry → Item
item k e x ens = record { key = k; epoch = e; expiry = x; entries = ens }

-- command key length | value length | 8 zero bytes | command key | value
an-entry : enc_entry (entry get u) ≡ 2 ∷ 0 ∷ 0 ∷ 0 ∷ 4 ∷ 0 ∷ 0 ∷ 0 ∷ 0 ∷ 0 ∷ 0 ∷ 0 ∷ 0 ∷ 0 ∷ 0 ∷ 0 ∷ 71 ∷ 97 ∷ 43 ∷ 117 ∷ 13 ∷ 10 ∷ []
unfolding arena-defs
an-entry = refl

-- key length | count of entries | epoch | expiry | bytes of its entries | 4 zero bytes | key | entries, in the order in which they were stored
an_item : enc_item (item a 7 258 (entry get u ∷ entry len [] ∷ []))
    ≡ 1 ∷ 0 ∷ 0 ∷ 0 ∷ 2 ∷ 0 ∷ 0 ∷ 0 ∷ 7 ∷ 0 ∷ 0 ∷ 0 ∷ 0 ∷ 0 ∷ 0 ∷ 0 ∷ 2 ∷ 1 ∷ 0 ∷ 0 ∷ 0 ∷ 0 ∷ 0 ∷ 0 ∷ 39 ∷ 0 ∷ 0 ∷ 0 ∷ 0 ∷ 0 ∷ 0 ∷ 0 ∷ 97
    ∷ (enc_entry (entry get u) ++ enc_entry (entry len []))
unfolding arena-defs
an_item = refl

-- count of items | bytes used | 8 zero bytes | items, newest first | zeros to the end
a-shard : enc_shard 140 (item a 7 9 (entry get u ∷ []) ∷ item b 7 9 (entry len u ∷ []) ∷ [])
    ≡ 2 ∷ 0 ∷ 0 ∷ 0 ∷ 109 ∷ 0 ∷ 0 ∷ 0 ∷ 0 ∷ 0 ∷ 0 ∷ 0 ∷ 0 ∷ 0 ∷ 0 ∷ 0
    ∷ (enc_item (item a 7 9 (entry get u ∷ [])) ++ (enc_item (item b 7 9 (entry len u ∷ [])) ++ zeros 15))
unfolding arena-defs
a-shard = refl

-- ---- images

-- two shards of two keys and 130 bytes each; a key's shard is its first byte's last bit; a value is what begins with `+`
abbrev two : Setup
two = record { shards = 2; keys = 2; shard_of = λ k. get_or k 0 0 % 2; bytes = 130 }

abbrev plus : Bytes → Bool
plus v = eqb (get_or v 0 0) 43

image : Bytes → Bool
image s = is_image plus two s

-- the rows of the cases: one item in shard 1, and in shard 0 the given ones
rows : Row → ℕ → Row
rows row i = get_or (row ∷ (item a 3 5 (entry get u ∷ []) ∷ []) ∷ []) i []

-- 261 bytes, one of them left over
arena : Row → Bytes
arena row = encode two 261 (rows row)

-- the arena of one item in shard 0, with one byte changed
changed : ℕ → ℕ → Bool
changed i x = image (put (arena (item b 7 9 (entry get u ∷ []) ∷ [])) i (x ∷ []))

unfoldable case-defs : Unit {0}
unfolding arena-defs image rows arena changed
case-defs = tt

-- shard 0, then shard 1, then what is left over
an-arena : arena [] ≡ zeros 130 ++ (enc_shard 130 (item a 3 5 (entry get u ∷ []) ∷ []) ++ (0 ∷ []))
unfolding case-defs
an-arena = refl

-- zeros are the empty cache
zeros-image : image (zeros 261) ≡ true
unfolding case-defs
zeros-image = refl

-- some items and entries
image-empty : image (arena []) ≡ true
unfolding case-defs
image-empty = refl

image-two : image (arena (item b 7 9 (entry get u ∷ []) ∷ item (100 ∷ []) 7 9 (entry len u ∷ []) ∷ [])) ≡ true
unfolding case-defs
image-two = refl

image-entries : image (arena (item b 7 9 (entry get u ∷ entry len u ∷ []) ∷ [])) ≡ true
unfolding case-defs
image-entries = refl

-- and they are read
read-two : read_arena two (arena (item b 7 9 (entry get u ∷ []) ∷ item (100 ∷ []) 7 9 (entry len u ∷ []) ∷ [])) 0
    ≡ item b 7 9 (entry get u ∷ []) ∷ item (100 ∷ []) 7 9 (entry len u ∷ []) ∷ []
unfolding case-defs
read-two = refl

read-entries : read_arena two (arena (item b 7 9 (entry get u ∷ entry len u ∷ []) ∷ [])) 0 ≡ item b 7 9 (entry get u ∷ entry len u ∷ []) ∷ []
unfolding case-defs
read-entries = refl

read-other : read_arena two (arena []) 1 ≡ item a 3 5 (entry get u ∷ []) ∷ []
unfolding case-defs
read-other = refl

-- ---- places of values

-- the second entry's value: behind the shard's header, its item's head and key, the entry before it, its own head and command key. There it is read
pub place-second : let row : Row = item b 7 9 (entry get u ∷ entry len (43 ∷ []) ∷ []) ∷ [] in
    (shard_place b len row ≡ 16 + 33 + 22 + 17) × (part (enc_shard 130 row) 88 1 ≡ 43 ∷ [])
unfolding arena-defs
place-second = (refl, refl)

-- behind another item, and in the other shard
place-behind : arena_place two (100 ∷ []) get (rows (item b 7 9 (entry len u ∷ []) ∷ item (100 ∷ []) 7 9 (entry get u ∷ []) ∷ [])) ≡ 16 + 54 + 33 + 18
unfolding case-defs
place-behind = refl

place_other : (arena_place two a get (rows []) ≡ 130 + 16 + 33 + 18) × (part (arena []) 197 4 ≡ u)
unfolding case-defs
place_other = (refl, refl)

-- ---- one byte changed

-- as it was; another epoch, expiry, key of the same shard, command key and value are other images
same_byte : changed 0 1 ≡ true
unfolding case-defs
same_byte = refl

other-images : (changed 24 8 ≡ true) × (changed 32 8 ≡ true) × (changed 48 100 ≡ true) × (changed 65 0 ≡ true) × (changed 68 0 ≡ true)
unfolding case-defs
other-images = (refl, refl, refl, refl, refl)

-- no true count or length: of items, bytes used, key, entries, bytes of the entries, command key, value
false-counts : (changed 0 2 ≡ false) × (changed 4 54 ≡ false) × (changed 16 2 ≡ false) × (changed 20 2 ≡ false) × (changed 40 21 ≡ false)
    × (changed 49 3 ≡ false) × (changed 53 3 ≡ false)
unfolding case-defs
false-counts = (refl, refl, refl, refl, refl, refl, refl)

-- bytes that are to be zero: of a shard's head, an item's, an entry's; behind the items; in what is left over
not-zero : (changed 8 1 ≡ false) × (changed 47 1 ≡ false) × (changed 64 1 ≡ false) × (changed 71 1 ≡ false) × (changed 129 1 ≡ false)
    × (changed 260 1 ≡ false)
unfolding case-defs
not-zero = (refl, refl, refl, refl, refl, refl)

-- a key that hashes to the other shard
not_home : changed 48 97 ≡ false
unfolding case-defs
not_home = refl

-- no value
not-value : changed 67 44 ≡ false
unfolding case-defs
not-value = refl

-- ---- rows that are not well-formed

-- a key twice, a command key twice
key_twice : image (arena (item b 7 9 (entry get u ∷ []) ∷ item b 8 9 (entry len u ∷ []) ∷ [])) ≡ false
unfolding case-defs
key_twice = refl

command-twice : image (arena (item b 7 9 (entry get u ∷ entry get (43 ∷ []) ∷ []) ∷ [])) ≡ false
unfolding case-defs
command-twice = refl

-- an item with no entry
no-entry : image (arena (item b 7 9 [] ∷ [])) ≡ false
unfolding case-defs
no-entry = refl

-- two items, and one more than the shard's keys, where there is space for them
abbrev roomy : Setup
roomy = record { shards = 2; keys = 2; shard_of = λ k. get_or k 0 0 % 2; bytes = 300 }

two-of-two : row_fine plus roomy 0 (item b 7 9 (entry get u ∷ []) ∷ item (100 ∷ []) 7 9 (entry get u ∷ []) ∷ []) ≡ true
unfolding case-defs
two-of-two = refl

three-of-two : row_fine plus roomy 0 (item b 7 9 (entry get u ∷ []) ∷ item (100 ∷ []) 7 9 (entry get u ∷ []) ∷ item (102 ∷ []) 7 9 (entry get u ∷ []) ∷ [])
    ≡ false
unfolding case-defs
three-of-two = refl

-- an arena that is too short
too_short : image (zeros 259) ≡ false
unfolding case-defs
too_short = refl

-- ---- limits

-- keys of 65,535 bytes and no more
longest-key : (k : Bytes) → length k ≡ 65535 → may_store plus k get u ≡ true
unfolding case-defs
longest-key k h = rw h

longer-key : (k : Bytes) → length k ≡ 65536 → may_store plus k get u ≡ false
unfolding case-defs
longer-key k h = rw h

-- command keys of 16 MiB and no more
longest-command : (c : Bytes) → length c ≡ 16777216 → may_store plus a c u ≡ true
unfolding case-defs
longest-command c h = rw h

longer-command : (c : Bytes) → length c ≡ 16777217 → may_store plus a c u ≡ false
unfolding case-defs
longer-command c h = rw h

-- epochs and expiries of 64 bits
largest-times : item_fits plus (item a 18446744073709551615 18446744073709551615 (entry get u ∷ [])) ≡ true
unfolding case-defs
largest-times = refl

larger-epoch : item_fits plus (item a 18446744073709551616 9 (entry get u ∷ [])) ≡ false
unfolding case-defs
larger-epoch = refl

larger-expiry : item_fits plus (item a 7 18446744073709551616 (entry get u ∷ [])) ≡ false
unfolding case-defs
larger-expiry = refl
