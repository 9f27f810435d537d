-- Worked cases of resolving, each a theorem by itself, by computing; P marks those of the joint table (crate worked_cases). They lean on the definitions alone.
use Rattle.std.specs.Prelude.{◌≡◌, refl, true, false, List, [], ◌∷◌, ℕ, ◌-◌, ◌^◌, pos, negsuc}
use Prim.Native.String.{String}
use Rattle.config.specs.declared.CacheMode.TheVariants.{All, OptIn}
use Rattle.decimal.specs.Digits.{digits}
use Rattle.buffer.specs.Ascii.{ascii}
use Rattle.resp3.specs.Value.{Value, Values, blob_string, simple_string, simple_error, number, null, blob_error, array, set, attribute, none, more, nil, encode}
use Rattle.book.specs.Calls.{Wanted, Missing, Storing, resolving, resolving7}
use Rattle.resolving.specs.Plan.{served, waiting, Command, handed_on, cached, cached_array, single, multiple, Plan}
use Rattle.resolving.specs.Resolve.{fill, cause7, answered, resolve}
use Rattle.resolving.specs.Result.{result_bytes, call_of}

-- values in a row
abbrev pub row : List Value → Values
row [] = none
row (v ∷ vs) = more v (row vs)

-- an array of values
abbrev pub list : List Value → Value
list vs = array (row vs)

-- a blob string
abbrev pub text : String → Value
text t = blob_string (ascii t)

-- integers
abbrev pub int : ℕ → Value
int n = number (pos n)

-- minus one
abbrev pub minus_one : Value
minus_one = number (negsuc 0)

-- the reply to `CLIENT CACHING YES`
abbrev pub okay : Value
okay = simple_string (ascii "OK")

-- an error
abbrev pub error : Value
error = simple_error (ascii "ERR")

-- a value under `|`
abbrev pub marked : Value → Value
marked v = attribute nil v

-- a key under the command key `GET`
abbrev pub wanted : String → Wanted
wanted key = record { key = ascii key; command = ascii "GET" }

-- a missing key with client expiry 500
abbrev pub missing : String → Missing
missing key = record { wanted = wanted key; expiry = 500 }

-- the store of a key
abbrev pub stored : String → Value → ℕ → Storing
stored key v x = record { wanted = wanted key; value = encode v; expiry = x }

-- commands one by one
abbrev pub plan : List Command → Plan
plan cs = record { transaction = false; commands = cs }

-- the same as a transaction
abbrev pub transaction : List Command → Plan
transaction cs = record { transaction = true; commands = cs }

-- ---- expiries

-- P at clock 10 a PTTL of 1 ends at 11, before the client's 500
pub pttl-1 : resolve (plan (single (missing "a") ∷ [])) All 10 (list (int 1 ∷ text "u" ∷ [])) ≡ answered (row (text "u" ∷ [])) (stored "a" (text "u") 11 ∷ [])
unfolding resolve
pttl-1 = refl

-- P PTTL 0: 500
pub pttl-0 : resolve (plan (single (missing "a") ∷ [])) All 10 (list (int 0 ∷ text "u" ∷ [])) ≡ answered (row (text "u" ∷ [])) (stored "a" (text "u") 500 ∷ [])
unfolding resolve
pttl-0 = refl

-- P PTTL -1: 500
pub pttl-minus-1 : resolve (plan (single (missing "a") ∷ [])) All 10 (list (minus_one ∷ text "u" ∷ []))
    ≡ answered (row (text "u" ∷ [])) (stored "a" (text "u") 500 ∷ [])
unfolding resolve
pttl-minus-1 = refl

-- a later PTTL leaves the client expiry
pub pttl-late : resolve (plan (single (missing "a") ∷ [])) All 10 (list (int 491 ∷ text "u" ∷ []))
    ≡ answered (row (text "u" ∷ [])) (stored "a" (text "u") 500 ∷ [])
unfolding resolve
pttl-late = refl

-- a PTTL that is no integer, be it one under `|`: the client expiry
pub pttl-no-integer : resolve (plan (single (missing "a") ∷ single (missing "b") ∷ [])) All 10 (list (text "1" ∷ text "u" ∷ marked (int 1) ∷ text "w" ∷ []))
    ≡ answered (row (text "u" ∷ text "w" ∷ [])) (stored "a" (text "u") 500 ∷ stored "b" (text "w") 500 ∷ [])
unfolding resolve
pttl-no-integer = refl

-- a sum past 64 bits counts as the larger: the largest clock and the smallest PTTL above 0, the largest client expiry
pub pttl-past-64 : resolve (plan (single (record { wanted = wanted "a"; expiry = 2 ^ 64 - 1 }) ∷ [])) All (2 ^ 64 - 1)
    (list (int 1 ∷ text "u" ∷ []))
    ≡ answered (row (text "u" ∷ [])) (stored "a" (text "u") (2 ^ 64 - 1) ∷ [])
unfolding resolve
pttl-past-64 = refl

-- ---- several keys

-- P for two keys that wait, an array of three uses up three PTTLs
pub three-taken : fill 10 (waiting (missing "a") ∷ waiting (missing "b") ∷ []) (row (text "u" ∷ text "w" ∷ text "x" ∷ []))
    (row (int 1 ∷ int 2 ∷ int 3 ∷ int 4 ∷ []))
    ≡ record { places = row (text "u" ∷ text "w" ∷ []); stores = stored "a" (text "u") 11 ∷ stored "b" (text "w") 12 ∷ []; rest = row (int 4 ∷ []) }
three-taken = refl

-- the same in a plan: the next command is handed the fourth
pub three-taken-then : resolve (plan (multiple (waiting (missing "a") ∷ waiting (missing "b") ∷ []) ∷ handed_on ∷ [])) All 10
    (list (list (text "u" ∷ text "w" ∷ text "x" ∷ []) ∷ int 1 ∷ int 2 ∷ int 3 ∷ int 4 ∷ []))
    ≡ answered (row (list (text "u" ∷ text "w" ∷ []) ∷ int 4 ∷ [])) (stored "a" (text "u") 11 ∷ stored "b" (text "w") 12 ∷ [])
unfolding resolve
three-taken-then = refl

-- two elements more eat one PTTL more, no second one
pub one-more-only : resolve (plan (multiple (waiting (missing "a") ∷ []) ∷ handed_on ∷ [])) All 10
    (list (list (text "u" ∷ text "w" ∷ text "x" ∷ []) ∷ int 1 ∷ int 2 ∷ int 3 ∷ []))
    ≡ answered (row (list (text "u" ∷ []) ∷ int 3 ∷ [])) (stored "a" (text "u") 11 ∷ [])
unfolding resolve
one-more-only = refl

-- P three keys, two elements: third `_`; its PTTL is left for the next command
pub third-null : resolve (plan (multiple (waiting (missing "a") ∷ waiting (missing "b") ∷ waiting (missing "c") ∷ []) ∷ handed_on ∷ [])) All 10
    (list (list (text "u" ∷ text "w" ∷ []) ∷ int 1 ∷ int 0 ∷ int 7 ∷ []))
    ≡ answered (row (list (text "u" ∷ text "w" ∷ null ∷ []) ∷ int 7 ∷ [])) (stored "a" (text "u") 11 ∷ stored "b" (text "w") 500 ∷ [])
unfolding resolve
third-null = refl

-- an element whose PTTL is absent is neither stored nor handed out
pub pttl-absent : resolve (plan (multiple (waiting (missing "a") ∷ waiting (missing "b") ∷ []) ∷ [])) All 10
    (list (list (text "u" ∷ text "w" ∷ []) ∷ int 1 ∷ []))
    ≡ answered (row (list (text "u" ∷ null ∷ []) ∷ [])) (stored "a" (text "u") 11 ∷ [])
unfolding resolve
pttl-absent = refl

-- an empty array takes no PTTL
pub empty-array : resolve (plan (multiple (waiting (missing "a") ∷ []) ∷ handed_on ∷ [])) All 10 (list (list [] ∷ int 1 ∷ []))
    ≡ answered (row (list (null ∷ []) ∷ int 1 ∷ [])) []
unfolding resolve
empty-array = refl

-- served places keep their values, and elements go to the waiting ones in turn; a `_` is stored like any value
pub served-between : resolve (plan (multiple (served null ∷ waiting (missing "a") ∷ served (text "s") ∷ waiting (missing "b") ∷ []) ∷ [])) All 10
    (list (list (null ∷ text "w" ∷ []) ∷ int 1 ∷ int 2 ∷ []))
    ≡ answered (row (list (null ∷ null ∷ text "s" ∷ text "w" ∷ []) ∷ [])) (stored "a" null 11 ∷ stored "b" (text "w") 12 ∷ [])
unfolding resolve
served-between = refl

-- ---- errors

-- an error is passed on and not stored, be it `-` or `!`
pub error-passed : resolve (plan (single (missing "a") ∷ single (missing "b") ∷ [])) All 10 (list (int 1 ∷ error ∷ int 1 ∷ blob_error (ascii "ERR") ∷ []))
    ≡ answered (row (error ∷ blob_error (ascii "ERR") ∷ [])) []
unfolding resolve
error-passed = refl

-- one among the elements is handed out in its place and takes its PTTL
pub error-element : resolve (plan (multiple (waiting (missing "a") ∷ waiting (missing "b") ∷ []) ∷ [])) All 10
    (list (list (error ∷ text "w" ∷ []) ∷ int 1 ∷ int 2 ∷ []))
    ≡ answered (row (list (error ∷ text "w" ∷ []) ∷ [])) (stored "b" (text "w") 12 ∷ [])
unfolding resolve
error-element = refl

-- one under `|` is no error, nor is one inside an array: both are stored
pub error-marked : resolve (plan (single (missing "a") ∷ single (missing "b") ∷ [])) All 10 (list (int 1 ∷ marked error ∷ int 2 ∷ list (error ∷ []) ∷ []))
    ≡ answered (row (marked error ∷ list (error ∷ []) ∷ [])) (stored "a" (marked error) 11 ∷ stored "b" (list (error ∷ [])) 12 ∷ [])
unfolding resolve
error-marked = refl

-- an error as PTTL: the client expiry
pub error-pttl : resolve (plan (single (missing "a") ∷ [])) All 10 (list (error ∷ text "u" ∷ []))
    ≡ answered (row (text "u" ∷ [])) (stored "a" (text "u") 500 ∷ [])
unfolding resolve
error-pttl = refl

-- ---- opt-in

-- a missing command drops one reply; others do not
pub opt-in-drops : resolve (plan (single (missing "a") ∷ handed_on ∷ cached (text "s") ∷ multiple (waiting (missing "b") ∷ []) ∷ [])) OptIn 10
    (list (okay ∷ int 1 ∷ text "u" ∷ text "x" ∷ okay ∷ list (text "w" ∷ []) ∷ int 2 ∷ []))
    ≡ answered (row (text "u" ∷ text "x" ∷ text "s" ∷ list (text "w" ∷ []) ∷ [])) (stored "a" (text "u") 11 ∷ stored "b" (text "w") 12 ∷ [])
unfolding resolve
opt-in-drops = refl

-- whatever it is; and it must exist
pub opt-in-any : resolve (plan (single (missing "a") ∷ [])) OptIn 10 (list (error ∷ int 1 ∷ text "u" ∷ []))
    ≡ answered (row (text "u" ∷ [])) (stored "a" (text "u") 11 ∷ [])
unfolding resolve
opt-in-any = refl

pub opt-in-absent : resolve (plan (multiple [] ∷ [])) OptIn 10 (list []) ≡ cause7 []
unfolding resolve
opt-in-absent = refl

-- ---- cause 7

-- a missing reply: to a command handed on, a PTTL, and the reply after it
pub reply-absent : resolve (plan (handed_on ∷ handed_on ∷ [])) All 10 (list (text "u" ∷ [])) ≡ cause7 []
unfolding resolve
reply-absent = refl

pub single-absent : resolve (plan (single (missing "a") ∷ [])) All 10 (list []) ≡ cause7 []
unfolding resolve
single-absent = refl

-- the stores of the commands before remain
pub seven-leaves : resolve (plan (single (missing "a") ∷ multiple (waiting (missing "b") ∷ []) ∷ single (missing "c") ∷ [])) All 10
    (list (int 1 ∷ text "u" ∷ list (text "w" ∷ []) ∷ int 2 ∷ int 3 ∷ []))
    ≡ cause7 (stored "a" (text "u") 11 ∷ stored "b" (text "w") 12 ∷ [])
unfolding resolve
seven-leaves = refl

-- several keys need an array: no set, no array under `|`, no `_`
pub no-set : resolve (plan (multiple (waiting (missing "a") ∷ []) ∷ [])) All 10 (list (set (row (text "u" ∷ [])) ∷ int 1 ∷ [])) ≡ cause7 []
unfolding resolve
no-set = refl

pub no-marked-array : resolve (plan (multiple (waiting (missing "a") ∷ []) ∷ [])) All 10 (list (marked (list (text "u" ∷ [])) ∷ int 1 ∷ [])) ≡ cause7 []
unfolding resolve
no-marked-array = refl

pub no-null-array : resolve (plan (multiple (waiting (missing "a") ∷ []) ∷ [])) All 10 (list (null ∷ int 1 ∷ [])) ≡ cause7 []
unfolding resolve
no-null-array = refl

-- the replies are a list even where no command takes one
pub no-list : resolve (plan (cached (text "s") ∷ [])) All 10 null ≡ cause7 []
unfolding resolve
no-list = refl

-- ---- what needs no reply, and what is left over

-- served values are handed out as they are
pub all-cached : resolve (plan (cached error ∷ cached_array none ∷ cached_array (row (text "s" ∷ null ∷ [])) ∷ [])) OptIn 10 (list [])
    ≡ answered (row (error ∷ list [] ∷ list (text "s" ∷ null ∷ []) ∷ [])) []
unfolding resolve
all-cached = refl

-- replies left over are ignored
pub left_over : resolve (plan (handed_on ∷ [])) All 10 (list (text "u" ∷ text "w" ∷ error ∷ [])) ≡ answered (row (text "u" ∷ [])) []
unfolding resolve
left_over = refl

-- ---- transactions

-- the list is that of an array of one array
pub transaction-list : resolve (transaction (single (missing "a") ∷ handed_on ∷ [])) All 10 (list (list (int 1 ∷ text "u" ∷ text "x" ∷ []) ∷ []))
    ≡ answered (row (text "u" ∷ text "x" ∷ [])) (stored "a" (text "u") 11 ∷ [])
unfolding resolve
transaction-list = refl

-- of no array (a transaction that was given up), of two, of the bare list: 7
pub transaction-null : resolve (transaction []) All 10 (list (null ∷ [])) ≡ cause7 []
unfolding resolve
transaction-null = refl

pub transaction-two : resolve (transaction []) All 10 (list (list [] ∷ list [] ∷ [])) ≡ cause7 []
unfolding resolve
transaction-two = refl

pub transaction-bare : resolve (transaction (handed_on ∷ [])) All 10 (list (text "u" ∷ [])) ≡ cause7 []
unfolding resolve
transaction-bare = refl

-- ---- the result's bytes

-- `*n` and the answers
pub result-bytes : result_bytes false (row (text "u" ∷ null ∷ int 7 ∷ [])) ≡ ascii "*3\r\n$1\r\nu\r\n_\r\n:7\r\n"
unfolding result_bytes encode digits
result-bytes = refl

-- in a transaction inside `*1`
pub result-inside : result_bytes true (row (text "u" ∷ null ∷ [])) ≡ ascii "*1\r\n*2\r\n$1\r\nu\r\n_\r\n"
unfolding result_bytes encode digits
result-inside = refl

-- of no command
pub result-empty : result_bytes false none ≡ ascii "*0\r\n"
unfolding result_bytes encode digits
result-empty = refl

-- ---- what the book is told

-- the stores, under the call's epoch
pub book-told : call_of 3 (resolve (plan (single (missing "a") ∷ [])) All 10 (list (int 1 ∷ text "u" ∷ []))) ≡ resolving 3 (stored "a" (text "u") 11 ∷ [])
unfolding resolve
book-told = refl

-- where 7 refuses the call, the stores that 7 leaves
pub book-told-seven : call_of 3 (resolve (plan (single (missing "a") ∷ handed_on ∷ [])) All 10 (list (int 1 ∷ text "u" ∷ [])))
    ≡ resolving7 3 (stored "a" (text "u") 11 ∷ [])
unfolding resolve
book-told-seven = refl
