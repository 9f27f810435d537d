-- Worked cases of what planning sends and of the response counts, each a theorem by itself, by computing. They lean on Ask.antt, Outcome.antt and Sent.antt
-- alone, so that a wrong definition there fails here first. Mode All, a default TTL of 1,800,000 and the clock 5, unless they say otherwise.
use Rattle.std.specs.Prelude.{◌≡◌, refl, Bool, true, false, List, [], ◌∷◌, ℕ, length}
use Rattle.buffer.specs.Same.{Bytes}
use Rattle.config.specs.declared.Settings.{Settings}
use Rattle.buffer.specs.Ascii.{ascii}
use Rattle.call_record.specs.Record.{cursor, Command}
use Rattle.book.specs.Book.{Answer, hit, miss}
use Rattle.planning.specs.Ask.{ask}
use Rattle.planning.specs.Outcome.{outcomes}
use Rattle.planning.specs.Sent.{Packed, sent, wrapped, Responses, responses, sent_bytes, sent-defs}
use Rattle.planning.proofs.Cases.{all, opt_in, word, plain, flagged, with_cursor, get-a, u, case-defs}

-- what is sent for some commands where their lookups answer so: as commands, as bytes, and the responses
unfoldable pub commands : Settings → Bool → List Command → List Answer → List Packed
commands s b cs said = wrapped b (sent s.mode cs (outcomes (ask s 5) cs said))

unfoldable pub bytes : Settings → Bool → List Command → List Answer → Bytes
bytes s b cs said = sent_bytes (commands s b cs said)

unfoldable pub counts : Settings → Bool → List Command → List Answer → Responses
counts s b cs said = responses b (length (sent s.mode cs (outcomes (ask s 5) cs said)))

unfoldable pub sent-case-defs : Unit {0}
unfolding commands bytes counts sent-defs case-defs
sent-case-defs = tt

abbrev pub both : ℕ → ℕ → Responses
both n m = record { offset = n; count = m }

-- ---- one key

-- the joint table's bytes: `PTTL a`, then `GET a`
pub get-a-bytes : bytes all false (plain get-a ∷ []) (miss ∷ []) ≡ ascii "*2\r\n$4\r\nPTTL\r\n$1\r\na\r\n*2\r\n$3\r\nGET\r\n$1\r\na\r\n"
unfolding sent-case-defs
get-a-bytes = refl

pub get-a-counts : counts all false (plain get-a ∷ []) (miss ∷ []) ≡ both 0 2
unfolding sent-case-defs
get-a-counts = refl

-- served: nothing is sent, no response
pub served-sends-nothing : bytes all false (plain get-a ∷ []) (hit u ∷ []) ≡ []
unfolding sent-case-defs
served-sends-nothing = refl

pub served-counts : counts all false (plain get-a ∷ []) (hit u ∷ []) ≡ both 0 0
unfolding sent-case-defs
served-counts = refl

-- a cursor is printed, wherever it stands in the command
pub cursor-printed :
    commands all false (with_cursor 17 (word "HGET" ∷ word "h" ∷ cursor ∷ word "f" ∷ cursor ∷ []) ∷ []) (miss ∷ [])
    ≡ (ascii "PTTL" ∷ ascii "h" ∷ []) ∷ (ascii "HGET" ∷ ascii "h" ∷ ascii "17" ∷ ascii "f" ∷ ascii "17" ∷ []) ∷ []
unfolding sent-case-defs
cursor-printed = refl

-- a command that is not cacheable, and one that is ignored, are sent as they are
pub uncached-sent : commands all false (plain (word "SET" ∷ word "a" ∷ word "b" ∷ []) ∷ []) [] ≡ (ascii "SET" ∷ ascii "a" ∷ ascii "b" ∷ []) ∷ []
unfolding sent-case-defs
uncached-sent = refl

pub ignored-sent : commands all false (flagged 1 0 get-a ∷ []) [] ≡ (ascii "GET" ∷ ascii "a" ∷ []) ∷ []
unfolding sent-case-defs
ignored-sent = refl

-- a command without arguments is sent as `*0`
pub empty-command : bytes all false (plain [] ∷ []) [] ≡ ascii "*0\r\n"
unfolding sent-case-defs
empty-command = refl

-- ---- several keys

-- `MGET a b a` with a cursor, b served: `MGET a a`, then `PTTL a` twice; the cursor is not sent
pub several-sent :
    commands all false (with_cursor 17 (word "MGET" ∷ word "a" ∷ cursor ∷ word "b" ∷ word "a" ∷ []) ∷ []) (miss ∷ hit u ∷ miss ∷ [])
    ≡ (ascii "MGET" ∷ ascii "a" ∷ ascii "a" ∷ []) ∷ (ascii "PTTL" ∷ ascii "a" ∷ []) ∷ (ascii "PTTL" ∷ ascii "a" ∷ []) ∷ []
unfolding sent-case-defs
several-sent = refl

-- `JSON.MGET a b $`, a served: `JSON.MGET b $`, then `PTTL b`
pub json-sent :
    commands all false (plain (word "JSON.MGET" ∷ word "a" ∷ word "b" ∷ word "$" ∷ []) ∷ []) (hit u ∷ miss ∷ [])
    ≡ (ascii "JSON.MGET" ∷ ascii "b" ∷ ascii "$" ∷ []) ∷ (ascii "PTTL" ∷ ascii "b" ∷ []) ∷ []
unfolding sent-case-defs
json-sent = refl

-- ---- opt-in

-- `CLIENT CACHING YES` before a missing command, once for several keys; not before one that is served, ignored or not cacheable
pub opt-in-sent :
    commands opt_in false (flagged 6 0 get-a ∷ flagged 6 0 (word "MGET" ∷ word "a" ∷ word "b" ∷ []) ∷ []) (miss ∷ miss ∷ miss ∷ [])
    ≡ (ascii "CLIENT" ∷ ascii "CACHING" ∷ ascii "YES" ∷ []) ∷ (ascii "PTTL" ∷ ascii "a" ∷ []) ∷ (ascii "GET" ∷ ascii "a" ∷ [])
    ∷ (ascii "CLIENT" ∷ ascii "CACHING" ∷ ascii "YES" ∷ []) ∷ (ascii "MGET" ∷ ascii "a" ∷ ascii "b" ∷ []) ∷ (ascii "PTTL" ∷ ascii "a" ∷ [])
    ∷ (ascii "PTTL" ∷ ascii "b" ∷ []) ∷ []
unfolding sent-case-defs
opt-in-sent = refl

pub opt-in-others :
    commands opt_in false (flagged 6 0 get-a ∷ flagged 7 0 get-a ∷ plain get-a ∷ []) (hit u ∷ [])
    ≡ (ascii "GET" ∷ ascii "a" ∷ []) ∷ (ascii "GET" ∷ ascii "a" ∷ []) ∷ []
unfolding sent-case-defs
opt-in-others = refl

-- ---- transactions

-- `MULTI` and `EXEC` around what is sent, and not counted in it: three responses are skipped, one is taken
pub transaction-sent :
    commands all true (plain get-a ∷ []) (miss ∷ [])
    ≡ (ascii "MULTI" ∷ []) ∷ (ascii "PTTL" ∷ ascii "a" ∷ []) ∷ (ascii "GET" ∷ ascii "a" ∷ []) ∷ (ascii "EXEC" ∷ []) ∷ []
unfolding sent-case-defs
transaction-sent = refl

pub transaction-counts : counts all true (plain get-a ∷ []) (miss ∷ []) ≡ both 3 1
unfolding sent-case-defs
transaction-counts = refl

-- in opt-in mode `CLIENT CACHING YES` stands inside, and is counted
pub opt-in-transaction :
    commands opt_in true (flagged 6 0 get-a ∷ []) (miss ∷ [])
    ≡ (ascii "MULTI" ∷ []) ∷ (ascii "CLIENT" ∷ ascii "CACHING" ∷ ascii "YES" ∷ []) ∷ (ascii "PTTL" ∷ ascii "a" ∷ []) ∷ (ascii "GET" ∷ ascii "a" ∷ [])
    ∷ (ascii "EXEC" ∷ []) ∷ []
unfolding sent-case-defs
opt-in-transaction = refl

pub opt-in-transaction-counts : counts opt_in true (flagged 6 0 get-a ∷ []) (miss ∷ []) ≡ both 4 1
unfolding sent-case-defs
opt-in-transaction-counts = refl

-- even an empty one, and one whose commands are all served
pub empty-transaction : bytes all true [] [] ≡ ascii "*1\r\n$5\r\nMULTI\r\n*1\r\n$4\r\nEXEC\r\n"
unfolding sent-case-defs
empty-transaction = refl

pub empty-transaction-counts : counts all true [] [] ≡ both 1 1
unfolding sent-case-defs
empty-transaction-counts = refl

pub served-transaction : commands all true (plain get-a ∷ []) (hit u ∷ []) ≡ (ascii "MULTI" ∷ []) ∷ (ascii "EXEC" ∷ []) ∷ []
unfolding sent-case-defs
served-transaction = refl

-- no commands: no bytes, no responses
pub nothing-sent : bytes all false [] [] ≡ []
unfolding sent-case-defs
nothing-sent = refl

pub nothing-counts : counts all false [] [] ≡ both 0 0
unfolding sent-case-defs
nothing-counts = refl
