-- Document 01's cases that are to be proved, in one joint table: `Table` states them, in 01's order, each said above its line, by the definitions that the
-- contracts of the code cite (`checked` of setup and of every call, `single_call`, `plan_call`, `resolve_call`, `digits`, `is_value`); `table` proves it.
-- Assumes nothing.
use Rattle.std.specs.Prelude.{◌≡◌, refl, true, false, [], ◌∷◌, ◌++◌, ℕ, length, replicate, take}
use Rattle.std.proofs.Math.Option.{none, some}
use Prim.Native.String.{String}
use Rattle.buffer.specs.Same.{Bytes}
use Rattle.buffer.specs.Field.{le32, le64}
use Rattle.buffer.specs.Ascii.{ascii}
use Rattle.config.specs.Config.{checked}
use Rattle.config.specs.declared.CacheMode.TheVariants.{All}
use Rattle.std.specs.Prelude.{Ok, Result}
use Rattle.config.specs.declared.Cause.{Cause}
use Rattle.config.specs.declared.Settings.{Settings}
use Rattle.decimal.specs.Digits.{digits}
use Rattle.decimal.specs.Cases.{DigitRanges, digit-ranges}
use Rattle.resp3.specs.Value.{depth, encode}
use Rattle.resp3.specs.Ends.{is_value}
use Rattle.resp3.specs.Cases.{nested, depth-16-read, depth-17-refused}
use Rattle.book.specs.Book.{lookup, store, plus}
use Rattle.arena.specs.Layout.{zeros}
use Rattle.arena.specs.Held.{Held}
use Rattle.single_calls.specs.Single.{Return, single_call}
use Rattle.single_calls.specs.SingleCases as singles
use Rattle.cache_manager.specs.Pipeline.{Left, wrote, plan_call}
use Rattle.cache_manager.specs.Cases.{call-case-defs, argument, command, record_of, plan_head}
use Rattle.caching_cmd.specs.Call.{ResolveReturn, answered_with, returning, resolve_call}
use Rattle.caching_cmd.specs.Cases.{case-defs}

-- ---- words of the table

-- so many shards of so many keys and bytes
abbrev shards_of : ℕ → ℕ → ℕ → Result Settings Cause
shards_of shards keys bytes = Ok (record { mode = All; ttl = 0; shards = shards; keys = keys; bytes = bytes })

-- a fresh cache of n bytes
abbrev fresh_in : ℕ → Held
fresh_in n = record { arena = zeros n; counts = plus 0 0 0; next = 1 }

-- key, command key and value of 3, 6 and 7 bytes, up to clock 10, stored by a single call in n bytes; and looked up
abbrev stored_in : ℕ → Return
stored_in n = single_call 1 0 0 (store (ascii "abc") (ascii "GETabc") (ascii "$1\r\nx\r\n") 10 0) (fresh_in n)

abbrev looked_up : ℕ → Return
looked_up clock = single_call 1 0 0 (lookup (ascii "abc") (ascii "GETabc") clock 0) (stored_in 80).held

-- a planning of one command of n arguments on a fresh cache, clock 0, with buffers of so many bytes
abbrev planned : ℕ → Bytes → ℕ → ℕ → Left
planned n args plan send = plan_call 4 0 1800000 0 0 (record_of 0 1 (command 0 0 n args)) (replicate plan 9) (replicate send 8) (fresh_in 80)

-- a plan's node
abbrev node : ℕ → ℕ → Bytes → Bytes → Bytes
node kind number a b = le32 kind ++ (le32 (length a) ++ (le32 (length b) ++ (le64 number ++ (a ++ b))))

-- a key and its command key missing, as a command's only one (3) or in a place of several (5), client expiry 500
abbrev missing : ℕ → String → Bytes
missing kind key = node kind 500 (ascii key) (ascii "GET" ++ ascii key)

-- a resolving at clock 10, with an answer buffer of so many bytes
abbrev resolved : Bytes → String → ℕ → ℕ → ResolveReturn
resolved plan replies buffer n = resolve_call 1 0 0 plan (ascii replies) 10 3 (replicate buffer 9) (fresh_in n)

-- `GET k` was missing and is answered by `$1 u`, with this PTTL; it is stored up to that clock
abbrev with_pttl : String → ResolveReturn
with_pttl replies = resolved (plan_head 0 1 ++ missing 3 "k") replies 11 76

abbrev kept_until : ℕ → ResolveReturn
kept_until expiry =
    returning (answered_with 11 0) (ascii "*1\r\n$1\r\nu\r\n")
    (record {
      arena = le32 1 ++ (le32 60 ++ (zeros 8 ++ (le32 1 ++ (le32 1 ++ (le64 3 ++ (le64 expiry ++ (le32 27 ++ (zeros 4 ++ (ascii "k"
          ++ (le32 4 ++ (le32 7 ++ (zeros 8 ++ ascii "GETk$1\r\nu\r\n"))))))))))));
      counts = plus 0 0 0;
      next = 1;
    })

-- several keys with the reply to them, and a command behind them that is handed on; no store finds space in 64 bytes
abbrev several : ℕ → Bytes → Bytes
several n places = plan_head 0 2 ++ (node 4 n [] [] ++ (places ++ (node 6 0 [] [] ++ node 0 0 [] [])))

-- ---- the table

pub record Table : Type 0 where
  -- a size of 31 makes one shard of 31 keys; 32 and 63 make 32 of one key, 64 makes 32 of two
  pub size-31 : checked 31 0 0 2048 ≡ shards_of 1 31 2048
  pub size_32 : checked 32 0 0 2048 ≡ shards_of 32 1 64
  pub size-63 : checked 63 0 0 2048 ≡ shards_of 32 1 64
  pub size_64 : checked 64 0 0 2048 ≡ shards_of 32 2 64
  -- at the clock of its expiry a value is served; a millisecond later it is dropped
  pub at-expiry : ((looked_up 10).value ≡ some (ascii "$1\r\nx\r\n")) × ((looked_up 10).held.counts ≡ plus 1 0 0)
  pub past-expiry : ((looked_up 11).value ≡ none) × ((looked_up 11).held ≡ record { arena = zeros 80; counts = plus 0 1 1; next = 1 })
  -- `JSON.MGET` of one argument has a path and no key: it is sent as it stands, nothing is looked up (request 4), and its reply is its answer
  pub json-mget-k : planned 2 (argument (ascii "JSON.MGET") ++ argument (ascii "k")) 28 26
      ≡ record {
        returned = wrote 28 26 (record { offset = 0; count = 1 });
        plan = plan_head 0 1 ++ node 0 0 [] [];
        send = ascii "*2\r\n$9\r\nJSON.MGET\r\n$1\r\nk\r\n";
        held = fresh_in 80;
      }
  pub json-mget-k-answer : resolved (plan_head 0 1 ++ node 0 0 [] []) "*1\r\n-ERR few\r\n" 14 80
      ≡ returning (answered_with 14 0) (ascii "*1\r\n-ERR few\r\n") (fresh_in 80)
  -- `GET` of a key of no bytes is asked for, and missing
  pub empty-key : planned 2 (argument (ascii "GET") ++ argument []) 31 39
      ≡ record {
        returned = wrote 31 39 (record { offset = 0; count = 2 });
        plan = plan_head 0 1 ++ node 3 1800000 [] (ascii "GET");
        send = ascii "*2\r\n$4\r\nPTTL\r\n$0\r\n\r\n*2\r\n$3\r\nGET\r\n$0\r\n\r\n";
        held = record { arena = zeros 80; counts = plus 0 1 0; next = 1 };
      }
  -- in small letters the name is not listed: nothing is looked up, and it is handed on
  pub small-letters : planned 2 (argument (ascii "get") ++ argument (ascii "a")) 28 20
      ≡ record {
        returned = wrote 28 20 (record { offset = 0; count = 1 });
        plan = plan_head 0 1 ++ node 0 0 [] [];
        send = ascii "*2\r\n$3\r\nget\r\n$1\r\na\r\n";
        held = fresh_in 80;
      }
  -- at clock 10 a PTTL of 1 ends at 11, before the client expiry 500; one of 0 or -1 leaves that
  pub pttl-1 : with_pttl "*2\r\n:1\r\n$1\r\nu\r\n" ≡ kept_until 11
  pub pttl-0 : with_pttl "*2\r\n:0\r\n$1\r\nu\r\n" ≡ kept_until 500
  pub pttl-minus-1 : with_pttl "*2\r\n:-1\r\n$1\r\nu\r\n" ≡ kept_until 500
  -- an array one element too long for two waiting keys uses up a third PTTL: the next command is handed the fourth
  pub three-taken : resolved (several 2 (missing 5 "a" ++ missing 5 "b")) "*5\r\n*3\r\n$1\r\nu\r\n$1\r\nv\r\n$1\r\nw\r\n:1\r\n:2\r\n:3\r\n:4\r\n" 26 64
      ≡ returning (answered_with 26 2) (ascii "*2\r\n*2\r\n$1\r\nu\r\n$1\r\nv\r\n:4\r\n") (fresh_in 64)
  -- an array one element too short leaves the third place null; its PTTL is left for the next command
  pub third-null : resolved (several 3 (missing 5 "a" ++ (missing 5 "b" ++ missing 5 "c"))) "*4\r\n*2\r\n$1\r\nu\r\n$1\r\nv\r\n:1\r\n:2\r\n:3\r\n" 29 64
      ≡ returning (answered_with 29 2) (ascii "*2\r\n*3\r\n$1\r\nu\r\n$1\r\nv\r\n_\r\n:3\r\n") (fresh_in 64)
  -- 9999 has four digits, 10000 five
  pub four-digits : length (digits 9999) ≡ 4
  pub five-digits : length (digits 10000) ≡ 5
  -- and both ends of each of the twenty ranges of a 64-bit number (request 3)
  pub ranges-of-digits : DigitRanges
  -- a key of 3, a command key of 6 and a value of 7 bytes take 64: one item and 64 bytes used, in a shard of 80, 16 of them its header; in 79 there is no space
  pub sixty-four : ((stored_in 80).cause ≡ 0) × (take 8 (stored_in 80).held.arena ≡ 1 ∷ 0 ∷ 0 ∷ 0 ∷ 64 ∷ 0 ∷ 0 ∷ 0 ∷ [])
  pub sixty-three : ((stored_in 79).cause ≡ 11) × ((stored_in 79).held ≡ fresh_in 79)
  -- sixteen levels are read, seventeen are not
  pub depth-16 : (depth (nested 15) ≡ 16) × (is_value (encode (nested 15)) ≡ true)
  pub depth-17 : (depth (nested 16) ≡ 17) × (is_value (encode (nested 16)) ≡ false)

pub table : Table
unfolding call-case-defs case-defs
table =
    record {
      size-31 = refl;
      size_32 = refl;
      size-63 = refl;
      size_64 = refl;
      at-expiry = singles.served-at-expiry;
      past-expiry = singles.dropped-past-expiry;
      json-mget-k = refl;
      json-mget-k-answer = refl;
      empty-key = refl;
      small-letters = refl;
      pttl-1 = refl;
      pttl-0 = refl;
      pttl-minus-1 = refl;
      three-taken = refl;
      third-null = refl;
      four-digits = digit-ranges.four.1;
      five-digits = digit-ranges.five.0;
      ranges-of-digits = digit-ranges;
      sixty-four = singles.sixty-four;
      sixty-three = singles.no-space;
      depth-16 = depth-16-read;
      depth-17 = depth-17-refused;
    }
