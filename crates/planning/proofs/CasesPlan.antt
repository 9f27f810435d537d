-- Worked cases of the plan and of planning as a whole, each a theorem by itself, by computing. Mode All, a default TTL of 1,800,000 and the clock 5.
use Rattle.std.specs.Prelude.{◌≡◌, refl, true, false, List, [], ◌∷◌}
use Rattle.buffer.specs.Field.{le}
use Rattle.buffer.specs.Ascii.{ascii}
use Rattle.resp3.specs.Value.{encode}
use Rattle.call_record.specs.Record.{Command, Record}
use Rattle.book.specs.Book.{Setup, Book, Answer, hit, miss, on, store, after_all, fresh, plus, book-defs}
use Rattle.book.specs.Calls.{after_call, lookups, ons, call-defs}
use Rattle.planning.specs.Ask.{ask}
use Rattle.planning.specs.Outcome.{outcomes}
use Rattle.planning.specs.Plan.{Node, hand_on, served_value, all_served, missing_key, several, waiting_place, end_of_several, nodes, plan_of, enc_plan, plan-defs}
use Rattle.planning.specs.Planning.{call_of, because, done, planned_from, plan_on, planning-defs}
use Rattle.planning.proofs.Cases.{all, word, plain, flagged, under, get-a, u}
use Rattle.planning.proofs.CasesSent.{sent-case-defs}

-- the nodes of some commands where their lookups answer so
unfoldable pub rows : List Command → List Answer → List Node
rows cs said = nodes (outcomes (ask all 5) cs said)

unfoldable pub plan-case-defs : Unit {0}
unfolding rows plan-defs planning-defs sent-case-defs encode le
plan-case-defs = tt

-- ---- nodes

-- ignored and not cacheable: replies are handed on
pub handed-on : rows (flagged 1 0 get-a ∷ plain (word "SET" ∷ word "a" ∷ []) ∷ []) [] ≡ hand_on ∷ hand_on ∷ []
unfolding plan-case-defs
handed-on = refl

-- one key, missing and served
pub one-node : rows (plain get-a ∷ plain get-a ∷ []) (miss ∷ hit u ∷ []) ≡ missing_key (under "a" "GETa") 1800005 ∷ served_value u ∷ []
unfolding plan-case-defs
one-node = refl

-- several, one of them served; several, all of them served; none at all, which is handed on
pub several-nodes :
    rows (plain (word "MGET" ∷ word "a" ∷ word "b" ∷ []) ∷ plain get-a ∷ []) (miss ∷ hit u ∷ hit u ∷ [])
    ≡ several 2 ∷ waiting_place (under "a" "GETa") 1800005 ∷ served_value u ∷ end_of_several ∷ served_value u ∷ []
unfolding plan-case-defs
several-nodes = refl

pub served-nodes : rows (plain (word "MGET" ∷ word "a" ∷ word "b" ∷ []) ∷ []) (hit u ∷ hit u ∷ []) ≡ all_served 2 ∷ served_value u ∷ served_value u ∷ []
unfolding plan-case-defs
served-nodes = refl

pub no-places : rows (plain (word "JSON.MGET" ∷ word "k" ∷ []) ∷ []) [] ≡ hand_on ∷ []
unfolding plan-case-defs
no-places = refl

-- ---- bytes

-- a transaction of `GET a`, missing: flags, `_`, one command, then one node of kind 3 with parts of 1 and 4 bytes and 1,800,005
pub get-a-plan :
    enc_plan (plan_of true (outcomes (ask all 5) (plain get-a ∷ []) (miss ∷ [])))
    ≡ 1 ∷ 95 ∷ 13 ∷ 10 ∷ 1 ∷ 0 ∷ 0 ∷ 0 ∷ 3 ∷ 0 ∷ 0 ∷ 0 ∷ 1 ∷ 0 ∷ 0 ∷ 0 ∷ 4 ∷ 0 ∷ 0 ∷ 0 ∷ 69 ∷ 119 ∷ 27 ∷ 0 ∷ 0 ∷ 0 ∷ 0 ∷ 0 ∷ ascii "aGETa"
unfolding plan-case-defs
get-a-plan = refl

-- no commands
pub empty-plan : enc_plan (plan_of false []) ≡ 0 ∷ 95 ∷ 13 ∷ 10 ∷ 0 ∷ 0 ∷ 0 ∷ 0 ∷ []
unfolding plan-case-defs
empty-plan = refl

-- ---- on a book of one shard

abbrev pub setup : Setup
setup = record { shards = 1; keys = 2; shard_of = λ k. 0; bytes = 400 }

-- a record of `GET a`
abbrev pub asks-a : Record
asks-a = record { flags = 0; commands = plain get-a ∷ [] }

-- without items, and with `GET a` stored under epoch 7 until 10
abbrev pub no_items : Book
no_items = fresh (plus 0 0 0)

abbrev pub with-a : Book
with-a = after_all setup (on (store (ascii "a") (ascii "GETa") u 10 7) ∷ []) no_items

unfoldable pub book-case-defs : Unit {0}
unfolding plan-case-defs book-defs lookups ons call-defs
book-case-defs = tt

-- the plan takes 33 bytes and 41 are sent: both fit exactly
pub just-fits : plan_on setup no_items all 5 7 asks-a 33 41 ≡ done (planned_from (ask all 5) all asks-a (miss ∷ []))
unfolding book-case-defs
just-fits = refl

-- a byte less in either buffer is cause 5
pub plan-short : plan_on setup no_items all 5 7 asks-a 32 41 ≡ because 5
unfolding book-case-defs
plan-short = refl

pub send-short : plan_on setup no_items all 5 7 asks-a 33 40 ≡ because 5
unfolding book-case-defs
send-short = refl

-- and then not even an expired item is dropped and counted
pub short-changes-nothing : (after_call setup (call_of all 11 7 asks-a 33 40) with-a).counts ≡ plus 0 0 0
unfolding book-case-defs
short-changes-nothing = refl

-- served under its epoch, at its expiry too; a hit is counted
pub served-on : plan_on setup with-a all 10 7 asks-a 100 0 ≡ done (planned_from (ask all 10) all asks-a (hit u ∷ []))
unfolding book-case-defs
served-on = refl

pub hit-counted : (after_call setup (call_of all 10 7 asks-a 100 0) with-a).counts ≡ plus 1 0 0
unfolding book-case-defs
hit-counted = refl

-- cause 4 goes before 5, and nothing is looked up
pub late-first : plan_on setup with-a all 18446744073709551615 7 asks-a 0 0 ≡ because 4
unfolding book-case-defs
late-first = refl

pub late-changes-nothing : (after_call setup (call_of all 18446744073709551615 7 asks-a 100 100) with-a).counts ≡ plus 0 0 0
unfolding book-case-defs
late-changes-nothing = refl
