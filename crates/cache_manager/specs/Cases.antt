-- Plannings on a cache of one key, computed on bytes: each cause against the next one in order, both buffers at their borders, and what is written
-- and left. They
-- lean on the definitions alone, with SipHash and RESP3 as they are; outcomes by themselves are computed in planning/proofs/Cases.antt. Assumes nothing.
use Rattle.std.specs.Prelude.{◌≡◌, refl, [], ◌∷◌, ◌++◌, ℕ, length, replicate}
use Rattle.buffer.specs.Same.{Bytes, same}
use Rattle.buffer.specs.Field.{le, le32, le64, read_le}
use Rattle.buffer.specs.Part.{part, put}
use Rattle.buffer.specs.Ascii.{ascii}
use Rattle.config.specs.Config.{checked, refused, settings_of}
use Rattle.decimal.specs.Digits.{digits}
use Rattle.decimal.specs.Read.{crlf_b, ended_def, fin_def, num_def}
use Rattle.format.specs.Format.{read_byte}
use Rattle.format.specs.Numbers.{upto}
use Rattle.format.specs.Words.{word}
use Rattle.format.specs.Runs.{rep}
use Rattle.commands.specs.Names.{name-defs}
use Rattle.commands.specs.MultiKey.{multi_key, single_name}
use Rattle.call_record.specs.Record.{enc_argument}
use Rattle.call_record.specs.Check.{check_of, check_def}
use Rattle.format.specs.Ends.{wrong}
use Rattle.cursor.specs.At.{args_at, args_end, commands_at, record_at}
use Rattle.resp3.specs.Kinds.{kind_of}
use Rattle.resp3.specs.Value.{encode}
use Rattle.resp3.specs.Ends.{length_at, crlf_end, blob_end, iter, body_head, null_word_b, one_end, kind_head, head_at, value_end, is_value}
use Rattle.siphash.specs.Sip.{rotated, sip_round, rounds, initial, compressed, absorbed, last_word, finished, sip_hash}
use Rattle.book.specs.Book.{Counts, plus, book-defs}
use Rattle.book.specs.Calls.{ons, lookups, call-defs}
use Rattle.arena.specs.Layout as layout
use Rattle.arena.specs.Layout.{zeros, head, item_head, enc_entry, enc_entries, enc_item, enc_items, enc_shard, enc_shards}
use Rattle.arena.specs.Decode.{read_entry, read_entries, read_item, read_items, read_shard, read_arena, every, distinct_keys, distinct_commands, may_store}
use Rattle.arena.specs.Decode.{item_fits, item_fine, row_fine, rows_fine, is_image, decode}
use Rattle.arena.specs.Held.{Held, lend}
use Rattle.arena.specs.SetupOf.{setup_of}
use Rattle.planning.specs.Ask.{ask-defs}
use Rattle.planning.specs.Outcome.{outcome-defs}
use Rattle.planning.specs.Sent.{sent-defs}
use Rattle.planning.specs.Plan.{plan-defs}
use Rattle.planning.specs.Planning.{planning-defs}
use Rattle.cache_manager.specs.Pipeline.{refused_as, wrong_at, wrote, cause_of, Left, pipelined, judged, admitted_to, plan_call}
use Rattle.call_entry.specs.Entered.{on_rows, entered}

-- one name that opens the causes up to the record's check, and one that opens the whole call
unfoldable pub cause-case-defs : Unit {0}
unfolding
    book-defs call-defs ons lookups le read_le part put head item_head enc_entry enc_entries enc_item enc_items enc_shard enc_shards layout.encode read_entry read_entries
    read_item read_items read_shard read_arena every distinct_keys distinct_commands may_store item_fits item_fine row_fine rows_fine is_image decode lend setup_of checked
    refused settings_of cause_of pipelined judged admitted_to on_rows entered plan_call
cause-case-defs = tt

unfoldable pub call-case-defs : Unit {0}
unfolding
    cause-case-defs same digits crlf_b ended_def fin_def num_def kind_of encode length_at crlf_end blob_end iter body_head head_at kind_head one_end null_word_b value_end
    is_value rotated sip_round rounds initial compressed absorbed last_word finished sip_hash read_byte upto word rep name-defs multi_key single_name enc_argument
    check_of check_def args_at args_end commands_at record_at ask-defs outcome-defs sent-defs plan-defs planning-defs
call-case-defs = tt

-- ---- records, and what is held

-- an argument, a command with flags and a TTL, a record with flags
abbrev pub argument : Bytes → Bytes
argument b = 0 ∷ (le32 (length b) ++ b)

abbrev pub command : ℕ → ℕ → ℕ → Bytes → Bytes
command flags ttl n args = flags ∷ (le64 ttl ++ (le64 0 ++ (n ∷ 0 ∷ args)))

abbrev pub record_of : ℕ → ℕ → Bytes → Bytes
record_of flags n commands = ascii "TRP" ++ (1 ∷ 0 ∷ flags ∷ n ∷ 0 ∷ commands)

-- `GET a`, of these flags and with this TTL
abbrev pub get_a : ℕ → ℕ → Bytes
get_a flags ttl = command flags ttl 2 (argument (ascii "GET") ++ argument (ascii "a"))

-- what is sent where `a` is missing: 41 bytes
abbrev pub sent_a : Bytes
sent_a = ascii "*2\r\n$4\r\nPTTL\r\n$1\r\na\r\n*2\r\n$3\r\nGET\r\n$1\r\na\r\n"

-- a plan's head, with flags and a number of commands, and the node of `a` missing with this client expiry: 8 and 25 bytes
abbrev pub plan_head : ℕ → ℕ → Bytes
plan_head flags n = (flags ∷ ascii "_\r\n") ++ le32 n

abbrev pub missing_a : ℕ → Bytes
missing_a expiry = le32 3 ++ (le32 1 ++ (le32 4 ++ (le64 expiry ++ ascii "aGETa")))

-- a value, and the 76 bytes of a shard that holds it for `GET a` up to clock 10, under epoch 3
abbrev pub value : Bytes
value = ascii "$1\r\nx\r\n"

abbrev pub holding_a : Bytes
holding_a =
    le32 1 ++ (le32 60 ++ (zeros 8 ++ (le32 1 ++ (le32 1 ++ (le64 3 ++ (le64 10 ++ (le32 27 ++ (zeros 4 ++ (ascii "a"
    ++ (le32 4 ++ (le32 7 ++ (zeros 8 ++ (ascii "GETa" ++ value)))))))))))))

abbrev pub having : Bytes → Counts → Held
having a n = record { arena = a; counts = n; next = 1 }

-- a fresh cache of 80 bytes, and one whose last byte is free and not zero
abbrev pub fresh_one : Held
fresh_one = having (zeros 80) (plus 0 0 0)

abbrev spoilt : Held
spoilt = having (zeros 79 ++ (1 ∷ [])) (plus 0 0 0)

-- size 1, mode All, default TTL 100, clock 5, epoch 3; a plan buffer of n bytes that are all 9, a send buffer of m that are all 8
abbrev plans : Bytes → ℕ → ℕ → Held → Left
plans s n m h = plan_call 1 0 100 5 3 s (replicate n 9) (replicate m 8) h

-- refused: the buffers and all that is held are as they were
abbrev all_left : ℕ → ℕ → ℕ → Held → Left
all_left cause n m h = record { returned = refused_as cause; plan = replicate n 9; send = replicate m 8; held = h }

-- ---- each cause against the next, in the order of rule C12

-- 1 before 9: a size of 0, a mode of 2
pub one-before-nine : ((plan_call 0 0 100 5 3 [] [] [] spoilt).returned ≡ refused_as 1) × ((plan_call 1 2 100 5 3 [] [] [] spoilt).returned ≡ refused_as 1)
unfolding call-case-defs
one-before-nine = (refl, refl)

-- 9 before 3
pub nine-before-three : (s : Bytes) → length s ≡ 16777217 → plans s 1 2 spoilt ≡ all_left 9 1 2 spoilt
unfolding call-case-defs
nine-before-three s l = refl

-- 3 before 2: a byte more than 16 MiB, whatever the bytes are; with that byte less, 2 is next
pub three-before-two : (s : Bytes) → length s ≡ 16777217 → plans s 1 2 fresh_one ≡ all_left 3 1 2 fresh_one
unfolding call-case-defs
three-before-two s l = rw l

pub longest-record : (s : Bytes) (o : ℕ) → length s ≡ 16777216 → check_def s ≡ wrong o → (plans s 1 2 fresh_one).returned ≡ wrong_at o
unfolding cause-case-defs
longest-record s o l q = rw (l, q)

-- 2 before 4: the client expiry would be past 64 bits, but a byte trails; the offset is that byte's
pub two-before-four : (plans (record_of 0 1 (get_a 10 18446744073709551615) ++ (0 ∷ [])) 0 0 fresh_one).returned ≡ wrong_at 41
unfolding call-case-defs
two-before-four = refl

-- 4 before 5: no buffer has room; the largest client expiry that is none too late is 5
pub four-before-five : plans (record_of 0 1 (get_a 10 18446744073709551611)) 0 0 fresh_one ≡ all_left 4 0 0 fresh_one
unfolding call-case-defs
four-before-five = refl

pub latest-expiry : plans (record_of 0 1 (get_a 10 18446744073709551610)) 0 0 fresh_one ≡ all_left 5 0 0 fresh_one
unfolding call-case-defs
latest-expiry = refl

-- ---- an offset: the kind of the second argument is 2; the record ends inside a count; the number 2 does not say which offset

pub wrong-kind : plans (record_of 0 1 (command 0 0 2 (argument (ascii "GET") ++ (2 ∷ (le32 1 ++ ascii "a"))))) 1 2 fresh_one
    ≡ record { returned = wrong_at 35; plan = replicate 1 9; send = replicate 2 8; held = fresh_one }
unfolding call-case-defs
wrong-kind = refl

pub ends-early : (plans (ascii "TRP" ++ (1 ∷ 0 ∷ 0 ∷ 1 ∷ [])) 1 2 fresh_one).returned ≡ wrong_at 7
unfolding call-case-defs
ends-early = refl

pub wrong-is-2 : (o : ℕ) → cause_of (wrong_at o) ≡ 2
unfolding cause_of
wrong-is-2 o = refl

-- ---- `GET a` missing: 33 bytes of plan, 41 to send

-- both buffers fit to the byte; a miss is counted
pub exact-fit : plans (record_of 0 1 (get_a 0 0)) 33 41 fresh_one
    ≡ record {
      returned = wrote 33 41 (record { offset = 0; count = 2 });
      plan = plan_head 0 1
          ++ missing_a 105;
      send = sent_a;
      held = having (zeros 80) (plus 0 1 0);
    }
unfolding call-case-defs
exact-fit = refl

-- a byte less for either is 5, and no miss is counted
pub plan-short : plans (record_of 0 1 (get_a 0 0)) 32 41 fresh_one ≡ all_left 5 32 41 fresh_one
unfolding call-case-defs
plan-short = refl

pub send-short : plans (record_of 0 1 (get_a 0 0)) 33 40 fresh_one ≡ all_left 5 33 40 fresh_one
unfolding call-case-defs
send-short = refl

-- what is not written of longer buffers is unchanged
pub ends-unchanged : plans (record_of 0 1 (get_a 0 0)) 35 44 fresh_one
    ≡ record {
      returned = wrote 33 41 (record { offset = 0; count = 2 });
      plan = plan_head 0 1 ++ (missing_a 105 ++ (9 ∷ 9 ∷ []));
      send = sent_a ++ (8 ∷ 8 ∷ 8 ∷ []);
      held = having (zeros 80) (plus 0 1 0);
    }
unfolding call-case-defs
ends-unchanged = refl

-- ---- `GET a` served: the value is copied into the plan, and nothing is sent

pub served-whole : plans (record_of 0 1 (get_a 0 0)) 36 1 (having holding_a (plus 0 0 0))
    ≡ record {
      returned = wrote 35 0 (record { offset = 0; count = 0 });
      plan = plan_head 0 1 ++ (le32 1 ++ (le32 7 ++ (le32 0 ++ (le64 0 ++ (value ++ (9 ∷ []))))));
      send = 8 ∷ [];
      held = having holding_a (plus 1 0 0);
    }
unfolding call-case-defs
served-whole = refl

-- at clock 11 it has expired: it is missing, and the item with its entry is gone
pub expired-whole : plan_call 1 0 100 11 3 (record_of 0 1 (get_a 0 0)) (replicate 33 9) (replicate 41 8) (having holding_a (plus 0 0 0))
    ≡ record {
      returned = wrote 33 41 (record { offset = 0; count = 2 });
      plan = plan_head 0 1 ++ missing_a 111;
      send = sent_a;
      held = having (zeros 76) (plus 0 1 1);
    }
unfolding call-case-defs
expired-whole = refl

-- ---- a transaction in opt-in mode: `GET a` with `enable_cache`, and once more without, which is handed on

pub opt-in-transaction : plan_call 1 1 100 5 3 (record_of 1 2 (get_a 6 0 ++ get_a 2 0)) (replicate 53 9) (replicate 128 8) fresh_one
    ≡ record {
      returned = wrote 53 128 (record { offset = 5; count = 1 });
      plan = plan_head 1 2 ++ (missing_a 105 ++ (le32 0 ++ (le32 0 ++ (le32 0 ++ le64 0))));
      send =
          ascii "*1\r\n$5\r\nMULTI\r\n*3\r\n$6\r\nCLIENT\r\n$7\r\nCACHING\r\n$3\r\nYES\r\n"
          ++ (sent_a ++ ascii "*2\r\n$3\r\nGET\r\n$1\r\na\r\n*1\r\n$4\r\nEXEC\r\n");
      held = having (zeros 80) (plus 0 1 0);
    }
unfolding call-case-defs
opt-in-transaction = refl
