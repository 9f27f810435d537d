-- Resolvings on a cache of one key, computed: the order of the causes, what each leaves, the result and the stores. They lean on the definitions alone, with
-- SipHash and RESP3 as they are. Assumes nothing.
use Rattle.std.specs.Prelude.{◌≡◌, refl, ℕ, [], ◌∷◌, ◌++◌, replicate, Err}
use Prim.Native.String.{String}
use Rattle.buffer.specs.Same.{Bytes}
use Rattle.buffer.specs.Field.{le, le32, le64, read_le}
use Rattle.buffer.specs.Part.{part, put}
use Rattle.buffer.specs.Ascii.{ascii}
use Rattle.config.specs.Config.{checked, refused, settings_of}
use Rattle.decimal.specs.Digits.{digits}
use Rattle.decimal.specs.Read.{crlf_b, ended_def, fin_def, num_def}
use Rattle.resp3.specs.Kinds.{kind_of}
use Rattle.resp3.specs.Value.{plain_b, encode}
use Rattle.resp3.specs.Ends.{length_at, crlf_end, plain, line_end, blob_end, verbatim_end, number_end, boolean_end, iter, body_head}
use Rattle.resp3.specs.Ends.{null_word_b, one_end, kind_head, head_at, value_end, is_value}
use Rattle.resp3.specs.Decode as resp
use Rattle.siphash.specs.Sip.{rotated, sip_round, rounds, initial, compressed, absorbed, last_word, finished, sip_hash}
use Rattle.book.specs.Book.{plus, book-defs}
use Rattle.book.specs.Calls.{ons, stores, refusals, call-defs}
use Rattle.arena.specs.Layout as layout
use Rattle.arena.specs.Layout.{zeros, head, item_head, enc_entry, enc_entries, enc_item, enc_items, enc_shard, enc_shards}
use Rattle.arena.specs.Decode.{read_entry, read_entries, read_item, read_items, read_shard, read_arena, every, distinct_keys, distinct_commands, may_store}
use Rattle.arena.specs.Decode.{item_fits, item_fine, row_fine, rows_fine, is_image, decode}
use Rattle.arena.specs.Held.{Held, lend}
use Rattle.arena.specs.SetupOf.{setup_of}
use Rattle.planning.specs.Plan.{plan-defs}
use Rattle.planning.specs.Rules.{order-defs}
use Rattle.plan.specs.Decode.{decode-defs}
use Rattle.resolving_walk.specs.Commands.{value_at, place_at, values_at, places_at, commands_of, plan_read}
use Rattle.resolving.specs.Resolve.{resolve}
use Rattle.resolving.specs.Result.{result_bytes}
use Rattle.config.specs.declared.Cause.TheVariants.{BadShape, ShortAnswer}
use Rattle.caching_cmd.specs.Call.{ResolveReturn, answered_with, returning, fits, told_to, refused_of, answer_of, buffer_after, resolved_on, planned, resolve_call}
use Rattle.call_entry.specs.Entered.{on_rows, entered}

-- one name that opens the whole call
unfoldable pub case-defs : Unit {0}
unfolding book-defs call-defs ons stores refusals le read_le part put head item_head enc_entry enc_entries enc_item enc_items enc_shard enc_shards layout.encode
    read_entry read_entries read_item read_items read_shard read_arena every distinct_keys distinct_commands may_store item_fits item_fine row_fine rows_fine is_image decode
    lend setup_of checked refused settings_of digits crlf_b ended_def fin_def num_def kind_of plain_b encode length_at crlf_end plain line_end blob_end verbatim_end
    number_end boolean_end iter body_head head_at kind_head one_end null_word_b value_end is_value resp.bytes_at resp.line_at resp.integer_at resp.values_at resp.body_of
    resp.iter_of resp.value_of resp.decode rotated sip_round rounds initial compressed absorbed last_word finished sip_hash plan-defs order-defs decode-defs value_at
    place_at values_at places_at commands_of plan_read resolve result_bytes fits told_to refused_of answer_of buffer_after resolved_on planned on_rows entered resolve_call
case-defs = tt

-- a fresh cache of n bytes
abbrev fresh_in : ℕ → Held
fresh_in n = record { arena = zeros n; counts = plus 0 0 0; next = 1 }

-- a plan of no commands, and one with the key `k` missing, client expiry 500
abbrev no_commands : Bytes
no_commands = (0 ∷ ascii "_\r\n") ++ le32 0

abbrev one_missing : Bytes
one_missing = (0 ∷ ascii "_\r\n") ++ (le32 1 ++ (le32 3 ++ (le32 1 ++ (le32 4 ++ (le64 500 ++ ascii "kGETk")))))

-- size 1, mode All, clock 10, epoch 3, an answer buffer of n bytes that are all 9, what the caller holds
abbrev resolved : Bytes → Bytes → ℕ → Held → ResolveReturn
resolved plan replies n h = resolve_call 1 0 0 plan replies 10 3 (replicate n 9) h

-- ---- the causes in their order

-- 1 before all others
one-first : (resolve_call 0 0 0 [] [] 10 3 [] (fresh_in 64)).cause ≡ 1
unfolding case-defs
one-first = refl

-- 9 before 10
nine-next : (resolved [] [] 0 (record { arena = 1 ∷ zeros 63; counts = plus 0 0 0; next = 1 })).cause ≡ 9
unfolding case-defs
nine-next = refl

-- 10 before 6
ten-next : (resolved [] [] 0 (fresh_in 64)).cause ≡ 10
unfolding case-defs
ten-next = refl

-- 6 before 7
six-next : (resolved no_commands [] 0 (fresh_in 64)).cause ≡ 6
unfolding case-defs
six-next = refl

-- 7 before 8, with the whole buffer zeroed
seven-next : resolved no_commands (ascii "_\r\n") 2 (fresh_in 64) ≡ returning (Err BadShape) (0 ∷ 0 ∷ []) (fresh_in 64)
unfolding case-defs
seven-next = refl

-- 8: all is left
eight-last : resolved no_commands (ascii "*0\r\n") 3 (fresh_in 64) ≡ returning (Err ShortAnswer) (9 ∷ 9 ∷ 9 ∷ []) (fresh_in 64)
unfolding case-defs
eight-last = refl

-- the two by their numbers
seven-number : (resolved no_commands (ascii "_\r\n") 2 (fresh_in 64)).cause ≡ 7
unfolding case-defs
seven-number = refl

eight-number : (resolved no_commands (ascii "*0\r\n") 3 (fresh_in 64)).cause ≡ 8
unfolding case-defs
eight-number = refl

-- none: the result, and the unwritten end unchanged
none_at_all : resolved no_commands (ascii "*0\r\n") 5 (fresh_in 64) ≡ returning (answered_with 4 0) (ascii "*0\r\n" ++ (9 ∷ [])) (fresh_in 64)
unfolding case-defs
none_at_all = refl

-- ---- stores

-- the reply is handed out and stored: key 1, command key 4, value 7 bytes take 60, and 76 bytes have them
stored-in-76 : (resolved one_missing (ascii "*2\r\n:1\r\n$1\r\nu\r\n") 11 (fresh_in 76)).stores ≡ 0
unfolding case-defs
stored-in-76 = refl

-- 75 have not: it is handed out all the same, and one store is refused as 11
pub refused-in-75 : resolved one_missing (ascii "*2\r\n:1\r\n$1\r\nu\r\n") 11 (fresh_in 75) ≡ returning (answered_with 11 1) (ascii "*1\r\n$1\r\nu\r\n") (fresh_in 75)
unfolding case-defs
refused-in-75 = refl

-- 8 is known before the first store: where there would be space, nothing is stored
eight-stores-nothing : resolved one_missing (ascii "*2\r\n:1\r\n$1\r\nu\r\n") 10 (fresh_in 76) ≡ returning (Err ShortAnswer) (replicate 10 9) (fresh_in 76)
unfolding case-defs
eight-stores-nothing = refl

-- ---- whole returns: the answer, the buffer and the arena

-- the node of a key missing, whose command key is `GET` and the key, client expiry 500; a plan's head
abbrev missing : String → Bytes
missing key = le32 3 ++ (le32 1 ++ (le32 4 ++ (le64 500 ++ (ascii key ++ (ascii "GET" ++ ascii key)))))

abbrev plan_head : ℕ → ℕ → Bytes
plan_head flags n = (flags ∷ ascii "_\r\n") ++ le32 n

-- a cache of 80 bytes that holds `$1 u` for `GET k` up to clock 11, under epoch 3
abbrev holding_k : Held
holding_k =
    record {
      arena = le32 1 ++ (le32 60 ++ (zeros 8 ++ (le32 1 ++ (le32 1 ++ (le64 3 ++ (le64 11 ++ (le32 27 ++ (zeros 4 ++ (ascii "k"
          ++ (le32 4 ++ (le32 7 ++ (zeros 8 ++ (ascii "GETk$1\r\nu\r\n" ++ zeros 4)))))))))))));
      counts = plus 0 0 0;
      next = 1;
    }

-- stored, with the unwritten end of the buffer unchanged
stored-whole : resolved one_missing (ascii "*2\r\n:1\r\n$1\r\nu\r\n") 13 (fresh_in 80)
    ≡ returning (answered_with 11 0) (ascii "*1\r\n$1\r\nu\r\n" ++ (9 ∷ 9 ∷ [])) holding_k
unfolding case-defs
stored-whole = refl

-- 7 at the second command, which finds its PTTL and no reply: the first one's store remains, the buffer is zeroed
seven-leaves-store : resolved (plan_head 0 2 ++ (missing "k" ++ missing "m")) (ascii "*3\r\n:1\r\n$1\r\nu\r\n:1\r\n") 5 (fresh_in 80)
    ≡ returning (Err BadShape) (zeros 5) holding_k
unfolding case-defs
seven-leaves-store = refl

-- opt-in: one reply is dropped first, and must be there
opt-in-drops : resolve_call 1 1 0 one_missing (ascii "*3\r\n+OK\r\n:1\r\n$1\r\nu\r\n") 10 3 (replicate 11 9) (fresh_in 80)
    ≡ returning (answered_with 11 0) (ascii "*1\r\n$1\r\nu\r\n") holding_k
unfolding case-defs
opt-in-drops = refl

opt-in-absent : resolve_call 1 1 0 one_missing (ascii "*2\r\n:1\r\n$1\r\nu\r\n") 10 3 (replicate 11 9) (fresh_in 80)
    ≡ returning (Err BadShape) (zeros 11) (fresh_in 80)
unfolding case-defs
opt-in-absent = refl

-- a transaction: the list is that of an array of one array, and the result stands inside `*1`; the bare list is 7
transaction-inside : resolved (plan_head 1 1 ++ missing "k") (ascii "*1\r\n*2\r\n:1\r\n$1\r\nu\r\n") 15 (fresh_in 80)
    ≡ returning (answered_with 15 0) (ascii "*1\r\n*1\r\n$1\r\nu\r\n") holding_k
unfolding case-defs
transaction-inside = refl

transaction-bare : resolved (plan_head 1 1 ++ missing "k") (ascii "*2\r\n:1\r\n$1\r\nu\r\n") 15 (fresh_in 80) ≡ returning (Err BadShape) (zeros 15) (fresh_in 80)
unfolding case-defs
transaction-bare = refl
