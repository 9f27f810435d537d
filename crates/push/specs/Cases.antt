-- Worked cases of a push on a cache of one shard, each a theorem by itself, by computing. They lean on the definitions alone, so that a wrong one fails
-- here first. Assumes nothing.
use Rattle.std.specs.Prelude.{◌≡◌, refl, cond, [], ◌∷◌, ◌++◌, eqb, replicate}
use Rattle.std.proofs.Math.Option.{none}
use Prim.Native.String.{String}
use Rattle.buffer.specs.Ascii.{ascii}
use Rattle.buffer.specs.Same.{same}
use Rattle.buffer.specs.Field.{le, read_le}
use Rattle.buffer.specs.Part.{part, put}
use Rattle.config.specs.Config.{checked, refused, settings_of}
use Rattle.decimal.specs.Digits.{digits}
use Rattle.decimal.specs.Read.{crlf_b, ended_def, fin_def, num_def}
use Rattle.resp3.specs.Kinds.{kind_of}
use Rattle.resp3.specs.Value.{plain_b}
use Rattle.resp3.specs.Ends.{length_at, crlf_end, plain, line_end, blob_end, verbatim_end, number_end, boolean_end, iter, body_head}
use Rattle.resp3.specs.Ends.{null_word_b, one_end, kind_head, head_at, value_end, is_value}
use Rattle.siphash.specs.Sip.{rotated, sip_round, rounds, initial, compressed, absorbed, last_word, finished, sip_hash, sip_hash13}
use Rattle.book.specs.Book.{Setup, Entry, plus, book-defs}
use Rattle.book.specs.Calls.{call-defs, ons, invalidations}
use Rattle.arena.specs.Layout.{head, item_head, enc_entry, enc_entries, enc_item, enc_items, enc_shard, enc_shards, encode}
use Rattle.arena.specs.Decode.{read_entry, read_entries, read_item, read_items, read_shard, read_arena, every, distinct_keys, distinct_commands, may_store}
use Rattle.arena.specs.Decode.{item_fits, item_fine, row_fine, rows_fine, is_image, decode}
use Rattle.arena.specs.Held.{Held, lend}
use Rattle.arena.specs.SetupOf.{setup_of}
use Rattle.resolving.specs.Pushes.{pushed}
use Rattle.resp3.specs.Decode.{bytes_at, line_at, integer_at, flag_at, values_at, pairs_at, attribute_at, body_of, iter_of, value_of, decode as decode_value}
use Rattle.single_calls.specs.Single.{Return, refused_as}
use Rattle.call_entry.specs.Entered.{on_rows, entered}
use Rattle.push.specs.Push.{pushed_on, imaged, push_call}

-- one name that opens all that these cases compute
unfoldable case-defs : Unit {0}
unfolding pushed_on imaged on_rows entered push_call checked refused settings_of setup_of book-defs call-defs ons invalidations same le read_le part put head item_head
    enc_entry enc_entries enc_item enc_items enc_shard enc_shards encode read_entry read_entries read_item read_items read_shard read_arena every distinct_keys
    distinct_commands may_store item_fits item_fine row_fine rows_fine is_image decode digits is_value value_end head_at kind_head one_end null_word_b body_head iter
    boolean_end number_end verbatim_end blob_end line_end plain plain_b crlf_end length_at kind_of num_def fin_def ended_def crlf_b lend pushed bytes_at line_at integer_at
    flag_at values_at pairs_at attribute_at body_of iter_of value_of decode_value rotated sip_round rounds initial compressed absorbed last_word finished sip_hash
case-defs = tt

-- an arena of 64 bytes without items, and what its caller holds
abbrev fresh : Held
fresh = record { arena = replicate 64 0; counts = plus 1 2 3; next = 5 }

-- a mode over 1 is cause 1, in a push too
mode-2 : push_call 1 2 0 (ascii "_\r\n") fresh ≡ refused_as 1 fresh
unfolding case-defs
mode-2 = refl

-- an arena that is no image is cause 9, also where the bytes are wrong
broken : Held
broken = record { arena = replicate 63 0 ++ (1 ∷ []); counts = plus 1 2 3; next = 5 }

no-image : push_call 1 0 0 [] broken ≡ refused_as 9 broken
unfolding case-defs broken
no-image = refl

-- bytes that are no value are cause 6
no_value : push_call 1 0 0 (ascii ">1\r\n") fresh ≡ refused_as 6 fresh
unfolding case-defs
no_value = refl

-- ---- on an arena of 128 bytes with an item of two entries under the key a

abbrev entry : String → Entry
entry c = record { command = ascii c; value = ascii "_\r\n" }

abbrev setup : Setup
setup = setup_of sip_hash13 1 1 128

abbrev filled : Held
filled =
    lend setup 128
    (record {
      rows = λ i. cond (eqb i 0) (record { key = ascii "a"; epoch = 0; expiry = 9; entries = entry "G" ∷ entry "L" ∷ [] } ∷ []) [];
      counts = plus 1 2 3;
      next = 5;
    })

-- what is left without it
abbrev emptied : Return
emptied = record { cause = 0; value = none; held = record { arena = replicate 128 0; counts = plus 1 2 5; next = 5 } }

-- the key's item goes, and its entries are counted
key_pushed : push_call 1 0 0 (ascii ">2\r\n$10\r\ninvalidate\r\n*1\r\n$1\r\na\r\n") filled ≡ emptied
unfolding case-defs
key_pushed = refl

-- so for everything
all-pushed : push_call 1 0 0 (ascii ">2\r\n$10\r\ninvalidate\r\n_\r\n") filled ≡ emptied
unfolding case-defs
all-pushed = refl

-- RESP2's nulls say the same
resp2-nulls-pushed :
    (push_call 1 0 0 (ascii ">2\r\n$10\r\ninvalidate\r\n$-1\r\n") filled ≡ emptied)
    × (push_call 1 0 0 (ascii ">2\r\n$10\r\ninvalidate\r\n*-1\r\n") filled ≡ emptied)
unfolding case-defs
resp2-nulls-pushed = (refl, refl)

-- among the keys `$-1` is skipped, and those behind it are not
null-among-keys : push_call 1 0 0 (ascii ">2\r\n$10\r\ninvalidate\r\n*2\r\n$-1\r\n$1\r\na\r\n") filled ≡ emptied
unfolding case-defs
null-among-keys = refl

-- another key's push, and a value that is no push, leave it
other-pushed : push_call 1 0 0 (ascii ">2\r\n$10\r\ninvalidate\r\n*1\r\n$1\r\nb\r\n") filled ≡ record { cause = 0; value = none; held = filled }
unfolding case-defs
other-pushed = refl

no-push : push_call 1 0 0 (ascii "+OK\r\n") filled ≡ record { cause = 0; value = none; held = filled }
unfolding case-defs
no-push = refl
