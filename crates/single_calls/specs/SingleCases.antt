-- Single calls at work on a cache of one key, computed: cases of the joint table, the order of the causes, and what is left. They lean on the definitions
-- alone, with SipHash and RESP3 as they are. Assumes nothing.
use Rattle.std.specs.Prelude.{◌≡◌, refl, ℕ, [], ◌∷◌, ◌++◌, length, take}
use Rattle.std.proofs.Math.Option.{none, some}
use Rattle.buffer.specs.Same.{Bytes}
use Rattle.buffer.specs.Field.{le, read_le}
use Rattle.buffer.specs.Part.{part}
use Rattle.buffer.specs.Ascii.{ascii}
use Rattle.config.specs.Config.{checked, refused, settings_of}
use Rattle.decimal.specs.Read.{crlf_b, ended_def, fin_def, num_def}
use Rattle.resp3.specs.Kinds.{kind_of}
use Rattle.resp3.specs.Ends.{length_at, crlf_end, blob_end, iter, body_head, null_word_b, one_end, kind_head, head_at, value_end, is_value}
use Rattle.siphash.specs.Sip.{rotated, sip_round, rounds, initial, compressed, absorbed, last_word, finished, sip_hash}
use Rattle.book.specs.Book.{Keyed, lookup, store, invalidate, plus, book-defs}
use Rattle.book.specs.Calls.{ons, call-defs}
use Rattle.arena.specs.Layout.{zeros, head, item_head, enc_entry, enc_entries, enc_item, enc_items, enc_shard, enc_shards, encode}
use Rattle.arena.specs.Decode.{read_entry, read_entries, read_item, read_items, read_shard, read_arena, every, distinct_keys, distinct_commands, may_store}
use Rattle.arena.specs.Decode.{item_fits, item_fine, row_fine, rows_fine, is_image, decode}
use Rattle.arena.specs.Place.{entries_place, items_place, shard_place, arena_place}
use Rattle.arena.specs.Held.{Held, lend}
use Rattle.arena.specs.SetupOf.{setup_of}
use Rattle.single_calls.specs.Place.{place_in, served_at, place_left, place_under, lookup_place}
use Rattle.call_entry.specs.Entered.{on_rows, entered}
use Rattle.single_calls.specs.Single.{Return, overlong, wrong_bytes, number_of, served_by, called_on, imaged, single_call}

-- one name that opens the whole call
unfoldable single-defs : Unit {0}
unfolding
    book-defs call-defs ons le read_le part head item_head enc_entry enc_entries enc_item enc_items enc_shard enc_shards encode read_entry read_entries read_item read_items
    read_shard read_arena every distinct_keys distinct_commands may_store item_fits item_fine row_fine rows_fine is_image decode lend setup_of checked refused settings_of
    crlf_b ended_def fin_def num_def kind_of length_at crlf_end blob_end iter body_head head_at kind_head one_end null_word_b value_end is_value rotated sip_round rounds initial
    compressed absorbed last_word finished sip_hash overlong wrong_bytes number_of served_by called_on imaged on_rows entered single_call
single-defs = tt

-- a fresh cache of n bytes, and one whose last byte is free and not zero
abbrev fresh_in : ℕ → Held
fresh_in n = record { arena = zeros n; counts = plus 0 0 0; next = 1 }

abbrev spoilt : Held
spoilt = record { arena = zeros 79 ++ (1 ∷ []); counts = plus 0 0 0; next = 1 }

-- key abc, command GETabc, value `$1 x`: 3, 6 and 7 bytes, up to clock 10 under epoch 0
abbrev value : Bytes
value = ascii "$1\r\nx\r\n"

abbrev storing : Keyed
storing = store (ascii "abc") (ascii "GETabc") value 10 0

abbrev looking : ℕ → Keyed
looking t = lookup (ascii "abc") (ascii "GETabc") t 0

-- a call of size 1 and mode All
abbrev call : Keyed → Held → Return
call q h = single_call 1 0 0 q h

-- P: key 3, command 6, value 7 bytes: 64, on the arena too: one item, 64 bytes used
pub sixty-four : ((call storing (fresh_in 80)).cause ≡ 0) × (take 8 (call storing (fresh_in 80)).held.arena ≡ 1 ∷ 0 ∷ 0 ∷ 0 ∷ 64 ∷ 0 ∷ 0 ∷ 0 ∷ [])
unfolding single-defs
sixty-four = (refl, refl)

-- with a byte less there is no space, and all is left as it was
pub no-space : ((call storing (fresh_in 79)).cause ≡ 11) × ((call storing (fresh_in 79)).held ≡ fresh_in 79)
unfolding single-defs
no-space = (refl, refl)

-- P: clock = expiry: served, and counted as a hit
pub served-at-expiry :
    ((call (looking 10) (call storing (fresh_in 80)).held).value ≡ some value) × ((call (looking 10) (call storing (fresh_in 80)).held).held.counts ≡ plus 1 0 0)
unfolding single-defs
served-at-expiry = (refl, refl)

-- and its place is behind the headers of shard, item and entry, the key and the command key: 16, 32 + 3 and 16 + 6 bytes; dropped, it has none
pub place-at-expiry :
    (lookup_place 1 0 0 (ascii "abc") (ascii "GETabc") 10 0 (call storing (fresh_in 80)).held ≡ 73)
    × (part (call (looking 10) (call storing (fresh_in 80)).held).held.arena 73 7 ≡ value)
    × (lookup_place 1 0 0 (ascii "abc") (ascii "GETabc") 11 0 (call storing (fresh_in 80)).held ≡ 0)
unfolding single-defs entries_place items_place shard_place arena_place place_in served_at place_left place_under lookup_place
place-at-expiry = (refl, refl, refl)

-- P: one more: dropped, a miss and an entry; the bytes are free again
pub dropped-past-expiry :
    ((call (looking 11) (call storing (fresh_in 80)).held).value ≡ none)
    × ((call (looking 11) (call storing (fresh_in 80)).held).held ≡ record { arena = zeros 80; counts = plus 0 1 1; next = 1 })
unfolding single-defs
dropped-past-expiry = (refl, refl)

-- an invalidation drops it and counts its entry
pub invalidated : (call (invalidate (ascii "abc")) (call storing (fresh_in 80)).held).held ≡ record { arena = zeros 80; counts = plus 0 0 1; next = 1 }
unfolding single-defs
invalidated = refl

-- ---- Each cause against the next, in the order of rule C12

-- a mode of 2 is 1 before 9, whatever is asked
pub one-first : (q : Keyed) → (single_call 1 2 0 q spoilt).cause ≡ 1
unfolding single-defs
one-first q = refl

-- 9 goes before 3
pub nine-before-three : (k : Bytes) → length k ≡ 65536 → (call (invalidate k) spoilt).cause ≡ 9
unfolding single-defs
nine-before-three k e = refl

-- a key of 65,536 bytes is 3, before 6: no bytes are no value
pub three-before-six : (k : Bytes) → length k ≡ 65536 → (call (store k [] [] 0 0) (fresh_in 80)).cause ≡ 3
unfolding single-defs
three-before-six k e = rw e

-- one of 65,535 is not: then the value is wrong
pub longest-key : (k : Bytes) → length k ≡ 65535 → (call (store k [] [] 0 0) (fresh_in 80)).cause ≡ 6
unfolding single-defs
longest-key k e = rw e

-- a command of a byte more than 16 MiB is 3, of a lookup too
pub long-command : (c : Bytes) → length c ≡ 16777217 → (call (lookup [] c 0 0) (fresh_in 80)).cause ≡ 3
unfolding single-defs
long-command c e = rw e

-- and so is such a value
pub long-value : (v : Bytes) → length v ≡ 16777217 → (call (store [] [] v 0 0) (fresh_in 80)).cause ≡ 3
unfolding single-defs
long-value v e = rw e

-- 6 goes before 11: a value with a byte after it, where there is no space for it either
pub six-before-eleven : (call (store (ascii "abc") (ascii "GETabc") (ascii "$1\r\nx\r\n_") 10 0) (fresh_in 79)).cause ≡ 6
unfolding single-defs
six-before-eleven = refl
