-- Worked cases of planning's lookups and outcomes, those of the joint table among them, each a theorem by itself, by computing. They lean on Ask.antt and
-- Outcome.antt alone, so that a wrong definition there fails here first. Mode All, a default TTL of 1,800,000 and the clock 5, unless they say otherwise.
use Rattle.std.specs.Prelude.{◌≡◌, refl, true, false, List, [], ◌∷◌, map, ℕ, replicate}
use Prim.Native.String.{String}
use Rattle.buffer.specs.Same.{Bytes, same}
use Rattle.config.specs.declared.CacheMode.{CacheMode}
use Rattle.config.specs.declared.CacheMode.TheVariants.{All, OptIn}
use Rattle.config.specs.declared.Settings.{Settings}
use Rattle.decimal.specs.Digits.{digits}
use Rattle.buffer.specs.Ascii.{ascii}
use Rattle.commands.specs.Names.{name-defs}
use Rattle.commands.specs.MultiKey.{multi_key, single_name}
use Rattle.call_record.specs.Record.{Argument, simple, cursor, Command}
use Rattle.book.specs.Book.{Answer, hit, miss}
use Rattle.book.specs.Calls.{Wanted}
use Rattle.planning.specs.Ask.{ask, any_late, ask-defs}
use Rattle.planning.specs.Outcome.{value, values, filled, waiting, single, multiple, cached, not_cached, not_cacheable, CachingResult, item}
use Rattle.planning.specs.Outcome.{ignored, served_bytes, wants, wanted, outcome, outcome-defs}

-- ---- short names

abbrev pub settings_of : CacheMode → Settings
settings_of m = record { mode = m; ttl = 1800000; shards = 1; keys = 4; bytes = 4096 }

abbrev pub all : Settings
all = settings_of All

abbrev pub opt_in : Settings
opt_in = settings_of OptIn

-- a simple argument
abbrev pub word : String → Argument
word a = simple (ascii a)

-- a command without flags, TTL and cursor; with flags and TTL; with a cursor
abbrev pub plain : List Argument → Command
plain l = record { flags = 0; ttl = 0; cursor = 0; args = l }

abbrev pub flagged : ℕ → ℕ → List Argument → Command
flagged f x l = record { flags = f; ttl = x; cursor = 0; args = l }

abbrev pub with_cursor : ℕ → List Argument → Command
with_cursor at l = record { flags = 0; ttl = 0; cursor = at; args = l }

-- a key and a command key
abbrev pub under : String → String → Wanted
under k c = record { key = ascii k; command = ascii c }

-- `GET a`, and a value
abbrev pub get-a : List Argument
get-a = word "GET" ∷ word "a" ∷ []

abbrev pub u : Bytes
u = ascii "+u\r\n"

-- a command's lookups, and its outcome where they answer so
unfoldable pub looks : Settings → ℕ → Command → List Wanted
looks s t c = wants c (ask s t c)

unfoldable pub result : Settings → ℕ → Command → List Answer → CachingResult
result s t c said = outcome c (ask s t c) said

-- one name that opens all that these cases compute
unfoldable pub case-defs : Unit {0}
unfolding
    looks result ask-defs outcome-defs same digits name-defs multi_key
    single_name
case-defs = tt

-- ---- cases of the joint table (crate worked_cases)

-- `JSON.MGET k` has a path and no key: not cacheable, and nothing is looked up (request 4)
pub json-mget-k : result all 5 (plain (word "JSON.MGET" ∷ word "k" ∷ [])) [] ≡ item not_cacheable
unfolding case-defs
json-mget-k = refl

pub json-mget-k-looks : looks all 5 (plain (word "JSON.MGET" ∷ word "k" ∷ [])) ≡ []
unfolding case-defs
json-mget-k-looks = refl

-- `GET` with an empty key is cacheable
pub empty-key : result all 5 (plain (word "GET" ∷ word "" ∷ [])) (miss ∷ []) ≡ item (not_cached (single (under "" "GET") 1800005))
unfolding case-defs
empty-key = refl

-- `get a` is not
pub small-letters : result all 5 (plain (word "get" ∷ word "a" ∷ [])) [] ≡ item not_cacheable
unfolding case-defs
small-letters = refl

-- ---- names whose arguments are all keys, and names that are never cached (request 5)

-- `EXISTS`, `SDIFF`, `SINTER`, `SUNION` of one argument
pub sole-keys :
    map (λ (s : String). looks all 5 (plain (word s ∷ word "a" ∷ []))) ("EXISTS" ∷ "SDIFF" ∷ "SINTER" ∷ "SUNION" ∷ [])
    ≡ (under "a" "EXISTSa" ∷ []) ∷ (under "a" "SDIFFa" ∷ []) ∷ (under "a" "SINTERa" ∷ []) ∷ (under "a" "SUNIONa" ∷ []) ∷ []
unfolding case-defs
sole-keys = refl

-- of two, of one twice, of one and an empty one, of one and a cursor, of a cursor, of none
pub no-sole-key :
    map (λ (l : List Argument). result all 5 (plain (word "SUNION" ∷ l)) [])
    ((word "north" ∷ word "south" ∷ []) ∷ (word "a" ∷ word "a" ∷ []) ∷ (word "a" ∷ word "" ∷ []) ∷ (word "a" ∷ cursor ∷ []) ∷ (cursor ∷ []) ∷ [] ∷ [])
    ≡ replicate 6 (item not_cacheable)
unfolding case-defs
no-sole-key = refl

-- the six
pub never-cached :
    map (λ (s : String). result all 5 (plain (word s ∷ word "2" ∷ word "a" ∷ word "b" ∷ [])) [])
    ("LCS" ∷ "SINTERCARD" ∷ "ZDIFF" ∷ "ZINTER" ∷ "ZINTERCARD" ∷ "ZUNION" ∷ [])
    ≡ replicate 6 (item not_cacheable)
unfolding case-defs
never-cached = refl

-- cause 4 is judged for them too
pub never-cached-late : any_late all 18446744073709551615 (plain (word "LCS" ∷ word "a" ∷ word "b" ∷ []) ∷ []) ≡ true
unfolding case-defs
never-cached-late = refl

-- ---- who takes part

-- an ignored command is not looked up, and has no outcome of its own
pub ignored-looks : looks all 5 (flagged 1 0 get-a) ≡ []
unfolding case-defs
ignored-looks = refl

pub ignored-result : result all 5 (flagged 1 0 get-a) [] ≡ ignored
unfolding case-defs
ignored-result = refl

-- opt-in: only with `enable_cache`; in mode All without it too
pub opt-in-without : result opt_in 5 (plain get-a) [] ≡ item not_cacheable
unfolding case-defs
opt-in-without = refl

pub opt-in-with : looks opt_in 5 (flagged 6 0 get-a) ≡ under "a" "GETa" ∷ []
unfolding case-defs
opt-in-with = refl

pub all_without : looks all 5 (plain get-a) ≡ under "a" "GETa" ∷ []
unfolding case-defs
all_without = refl

-- no name, an empty name, a cursor as name
pub no_name : result all 5 (plain []) [] ≡ item not_cacheable
unfolding case-defs
no_name = refl

pub empty_name : result all 5 (plain (word "" ∷ word "a" ∷ [])) [] ≡ item not_cacheable
unfolding case-defs
empty_name = refl

pub cursor-as-name : result all 5 (plain (cursor ∷ word "a" ∷ [])) [] ≡ item not_cacheable
unfolding case-defs
cursor-as-name = refl

-- no key, a cursor as key
pub no_key : result all 5 (plain (word "GET" ∷ [])) [] ≡ item not_cacheable
unfolding case-defs
no_key = refl

pub cursor-as-key : result all 5 (plain (word "GET" ∷ cursor ∷ word "a" ∷ [])) [] ≡ item not_cacheable
unfolding case-defs
cursor-as-key = refl

-- ---- client expiry

-- the command's own TTL goes before the default, in mode All without `enable_cache` too; one of 0 is a TTL
pub own-ttl : result all 5 (flagged 10 9 get-a) (miss ∷ []) ≡ item (not_cached (single (under "a" "GETa") 14))
unfolding case-defs
own-ttl = refl

pub ttl-zero : result all 5 (flagged 10 0 get-a) (miss ∷ []) ≡ item (not_cached (single (under "a" "GETa") 5))
unfolding case-defs
ttl-zero = refl

-- cause 4: for `SET` at the clock 2^64 - 1 with a TTL of 1; not one millisecond before
pub late : any_late all 18446744073709551615 (flagged 10 1 (word "SET" ∷ word "a" ∷ word "b" ∷ []) ∷ []) ≡ true
unfolding case-defs
late = refl

pub not_late : any_late all 18446744073709551614 (flagged 10 1 (word "SET" ∷ word "a" ∷ word "b" ∷ []) ∷ []) ≡ false
unfolding case-defs
not_late = refl

-- not for a command that is ignored, does not take part or has no name
pub ignored-not-late : any_late all 18446744073709551615 (flagged 11 1 get-a ∷ []) ≡ false
unfolding case-defs
ignored-not-late = refl

pub outside-not-late : any_late opt_in 18446744073709551615 (flagged 10 1 get-a ∷ []) ≡ false
unfolding case-defs
outside-not-late = refl

pub nameless-not-late : any_late all 18446744073709551615 (flagged 10 1 (cursor ∷ word "a" ∷ []) ∷ []) ≡ false
unfolding case-defs
nameless-not-late = refl

-- a later command is judged too; `GET` with a cursor as key is
pub later-late : any_late all 18446744073709551615 (flagged 10 0 get-a ∷ flagged 10 1 (word "GET" ∷ cursor ∷ []) ∷ []) ≡ true
unfolding case-defs
later-late = refl

-- ---- one key

-- served
pub one-served : result all 5 (plain get-a) (hit u ∷ []) ≡ item (cached (value u))
unfolding case-defs
one-served = refl

-- missing
pub one-missing : result all 5 (plain get-a) (miss ∷ []) ≡ item (not_cached (single (under "a" "GETa") 1800005))
unfolding case-defs
one-missing = refl

-- a cursor is not in the command key
pub cursor-not-in-key : looks all 5 (with_cursor 17 (word "HGET" ∷ word "h" ∷ cursor ∷ word "f" ∷ [])) ≡ under "h" "HGEThf" ∷ []
unfolding case-defs
cursor-not-in-key = refl

-- two commands with the same joined bytes share an entry
pub shared-entry : looks all 5 (plain (word "GET" ∷ word "RANGE" ∷ word "RANGE" ∷ [])) ≡ looks all 5 (plain (word "GETRANGE" ∷ word "RANGE" ∷ []))
unfolding case-defs
shared-entry = refl

-- ---- several keys

-- `MGET a b a` asks by `GET`, each key in turn, also one that stands there twice; a cursor drops out
pub several-looks :
    looks all 5 (with_cursor 17 (word "MGET" ∷ word "a" ∷ cursor ∷ word "b" ∷ word "a" ∷ [])) ≡ under "a" "GETa" ∷ under "b" "GETb" ∷ under "a" "GETa" ∷ []
unfolding case-defs
several-looks = refl

-- `JSON.MGET a b $` asks by `JSON.GET`, with the path
pub json-looks : looks all 5 (plain (word "JSON.MGET" ∷ word "a" ∷ word "b" ∷ word "$" ∷ [])) ≡ under "a" "JSON.GETa$" ∷ under "b" "JSON.GETb$" ∷ []
unfolding case-defs
json-looks = refl

-- all served: an array of them
pub several-served : result all 5 (plain (word "MGET" ∷ word "a" ∷ word "b" ∷ [])) (hit u ∷ hit u ∷ []) ≡ item (cached (values (u ∷ u ∷ [])))
unfolding case-defs
several-served = refl

pub several-served-bytes : served_bytes (values (u ∷ u ∷ [])) ≡ ascii "*2\r\n+u\r\n+u\r\n"
unfolding case-defs
several-served-bytes = refl

-- one of them missing: still several, each in its place
pub several-missing :
    result all 5 (plain (word "JSON.MGET" ∷ word "a" ∷ word "b" ∷ word "$" ∷ [])) (hit u ∷ miss ∷ [])
    ≡ item (not_cached (multiple (ascii "JSON.MGET") (filled u ∷ waiting (under "b" "JSON.GETb$") ∷ []) (ascii "$" ∷ []) 1800005))
unfolding case-defs
several-missing = refl

-- `MGET` or `JSON.MGET` alone, or with cursors, has no key; a cursor is no path either
pub no_keys :
    (result all 5 (plain (word "MGET" ∷ [])) [] ≡ item not_cacheable)
    × (result all 5 (plain (word "MGET" ∷ cursor ∷ cursor ∷ [])) [] ≡ item not_cacheable)
    × (result all 5 (plain (word "JSON.MGET" ∷ [])) [] ≡ item not_cacheable)
    × (result all 5 (plain (word "JSON.MGET" ∷ cursor ∷ word "k" ∷ cursor ∷ [])) [] ≡ item not_cacheable)
unfolding case-defs
no_keys = (refl, refl, refl, refl)

-- a key of no bytes is one, and a path of no bytes is one
pub empty-parts :
    (looks all 5 (plain (word "MGET" ∷ word "" ∷ [])) ≡ under "" "GET" ∷ [])
    × (looks all 5 (plain (word "JSON.MGET" ∷ word "" ∷ word "" ∷ [])) ≡ under "" "JSON.GET" ∷ [])
unfolding case-defs
empty-parts = (refl, refl)

-- cause 4 is judged for a command without keys as for any other with a name
pub no-keys-late : any_late all 18446744073709551615 (plain (word "MGET" ∷ []) ∷ []) ≡ true
unfolding case-defs
no-keys-late = refl

-- ---- several commands: the lookups stand in the commands' order

pub in_order :
    wanted (ask all 5) (plain get-a ∷ flagged 1 0 get-a ∷ plain (word "MGET" ∷ word "b" ∷ word "a" ∷ []) ∷ plain (word "TTL" ∷ word "a" ∷ []) ∷ [])
    ≡ under "a" "GETa" ∷ under "b" "GETb" ∷ under "a" "GETa" ∷ []
unfolding case-defs
in_order = refl
