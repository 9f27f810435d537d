-- Runs computed on bytes: `MGET a b` where `a` is served and `b` is fetched, in mode All, and in opt-in mode inside a transaction; one that takes no part, one
-- that is ignored; and `GET b`. What is asked of a run (Direct.antt) holds of each, and the bytes answered are the server's whole answer, or count as it where
-- values of one length count as equal. They lean on the definitions alone. Assumes nothing.
use Rattle.std.specs.Prelude.{◌≡◌, refl, ℕ, ◌<◌, ◌≤◌, Bool, true, false, cond, List, [], ◌∷◌, negsuc, length, replicate}
use Rattle.std.proofs.Common.{arith}
use Rattle.buffer.specs.Same.{Bytes, same}
use Rattle.buffer.specs.Ascii.{ascii}
use Rattle.config.specs.Limits.{max_arguments}
use Rattle.format.specs.Lists.{All}
use Rattle.resp3.specs.Value.{Value, blob_string, simple_string, number, array, none, more, one_line, encode}
use Rattle.call_record.specs.Record.{Argument, simple, Command, Record, bit, enc_command, enc_record, ValidArgument, ValidRecord}
use Rattle.cmd.specs.Pack.{pttl_texts, caching_texts}
use Rattle.book.specs.Book.{plus}
use Rattle.arena.specs.Layout.{zeros}
use Rattle.planning.specs.Outcome.{as_simple}
use Rattle.resolving.specs.Result.{result_of}
use Rattle.cache_manager.specs.Cases.{call-case-defs, holding_a, having}
use Rattle.caching_cmd.specs.Cases.{case-defs}
use Rattle.demand.specs.Words.{got, missed, places_in, places_of}
use Rattle.direct_read.specs.Server.{Server, read_of, whole_answer, Replied, to_mget, to_pttl, to_caching, RepliedAll, handed}
use Rattle.direct_read.specs.Server.{ServedAs, ServedBy, EachLike}
use Rattle.direct_read.specs.Direct.{Given, answer, Run, MgetRun, AnswersLike}
use Rattle.direct_read.specs.Get as get
use Rattle.direct_read.specs.Get.{to_get, GetRun}

-- one name that opens both calls, and the words of the statement
unfoldable pub read-case-defs : Unit {0}
unfolding
    call-case-defs case-defs enc_command enc_record ValidArgument one_line as_simple places_in places_of read_of whole_answer RepliedAll handed ServedBy EachLike
read-case-defs = tt

-- ---- what the calls are given

-- a server that has `x` at `a`, and at any other key the key itself
abbrev pub server : Server
server k = blob_string (cond (same k (ascii "a")) (ascii "x") k)

-- one command, of these flags and arguments, with a cursor of 7; and the record of it, of these flags
abbrev pub command_of : ℕ → List Argument → Command
command_of own args = record { flags = own; ttl = 0; cursor = 7; args = args }

abbrev pub record_of : ℕ → ℕ → List Argument → Record
record_of flags own args = record { flags = flags; commands = command_of own args ∷ [] }

-- `MGET a b`, and `GET b`
abbrev pub keys_ab : List Bytes
keys_ab = ascii "a" ∷ ascii "b" ∷ []

abbrev pub mget_ab : List Argument
mget_ab = simple (ascii "MGET") ∷ as_simple keys_ab

abbrev pub get_b : List Argument
get_b = simple (ascii "GET") ∷ simple (ascii "b") ∷ []

-- planned at clock 5 on a cache with this arena, and resolved at 6 on an empty one, both in this mode, with these replies
abbrev pub given_on : Bytes → ℕ → Record → Bytes → Given
given_on arena mode r replies =
    record {
      mode = mode;
      size = 1;
      ttl = 100;
      clock = 5;
      epoch = 3;
      bytes = enc_record r;
      plan = replicate 100 9;
      send = replicate 110 8;
      held = having arena (plus 0 0 0);
      size' = 1;
      ttl' = 0;
      clock' = 6;
      epoch' = 3;
      replies = replies;
      buffer = replicate 30 7;
      held' = having (zeros 64) (plus 0 0 0);
    }

-- where the cache holds `x` for `GET a`
abbrev pub given : ℕ → Record → Bytes → Given
given = given_on holding_a

-- ---- the records are valid

-- any flags with bit 1, and no TTL
module _ (flags own : ℕ) (args : List Argument) (f : flags < 2) (o : own < 16) (set : bit 1 own ≡ true) (n : length args ≤ max_arguments)
    (each : All ValidArgument args) where
  pub valid-of : ValidRecord (record_of flags own args)
  valid-of =
      record {
        flags = f;
        count = omega arith;
        commands = (
          record {
            flags = o;
            enable = λ q. set;
            client = λ q. set;
            no-ttl = λ q. refl;
            ttl = omega arith;
            cursor = omega arith;
            count = n;
            args = each;
          },
          tt,
        );
      }

-- a key of one byte, and the arguments of both commands
key-valid : (b : ℕ) → b < 256 → ValidArgument (simple (b ∷ []))
unfolding ValidArgument
key-valid b l = (omega arith, (l, tt))

pub mget-valid : All ValidArgument mget_ab
unfolding ValidArgument as_simple
mget-valid = ((omega arith, (omega arith, (omega arith, (omega arith, (omega arith, tt))))), (key-valid 97 (omega arith), (key-valid 98 (omega arith), tt)))

get-valid : All ValidArgument get_b
unfolding ValidArgument
get-valid = ((omega arith, (omega arith, (omega arith, (omega arith, tt)))), (key-valid 98 (omega arith), tt))

-- ---- `MGET a b`

-- the result with the server's whole answer
abbrev whole_bytes : Bool → Bytes
whole_bytes transaction = encode (result_of transaction (more (whole_answer server keys_ab) none))

-- a run in this mode, with these flags of record and command
abbrev pub mget_given : ℕ → ℕ → ℕ → Bytes → Given
mget_given mode flags own replies = given mode (record_of flags own mget_ab) replies

mget-run : (R : Value → Value → Type 0) (sv : Server) (mode flags own : ℕ) (replies : Bytes)
    → Run R (Replied sv) sv (mget_given mode flags own replies) (record_of flags own mget_ab) keys_ab → MgetRun R sv (mget_given mode flags own replies)
mget-run R sv mode flags own replies w =
    record { r = record_of flags own mget_ab; c = command_of own mget_ab; ks = keys_ab; one = refl; args = refl; keyed = omega arith; run = w }

-- what is served for `a` is the server's value there, and counts as what that one counts as
served-a : (R : Value → Value → Type 0) (w : Value) → R (server (ascii "a")) w → ServedAs R (ascii "$1\r\nx\r\n") w
unfolding read-case-defs
served-a R w h = record { value = server (ascii "a"); means = record { ok = tt; deep = omega arith; is = refl }; like = h }

-- ---- mode All: what is sent is `MGET b`, with its PTTL

abbrev pub in_all : Given
in_all = mget_given 0 0 2 (ascii "*2\r\n*1\r\n$1\r\nb\r\n:-1\r\n")

pub all-answer : (answer in_all 100 ≡ ascii "*1\r\n*2\r\n$1\r\nx\r\n$1\r\nb\r\n") × (answer in_all 100 ≡ whole_bytes false)
unfolding read-case-defs
all-answer = (refl, refl)

-- a run, whatever counts as equal, for a server with which the value served for `a` and the reply to `MGET b` agree
run-in-all : (R : Value → Value → Type 0) (sv : Server) → ServedBy R sv keys_ab (got (ascii "$1\r\nx\r\n") ∷ missed ∷ [])
    → Replied sv (ascii "MGET" ∷ ascii "b" ∷ []) (array (more (blob_string (ascii "b")) none)) → MgetRun R sv in_all
unfolding read-case-defs
run-in-all R sv served reply =
    mget-run R sv 0 0 2 _
    (record {
      valid = valid-of 0 2 mget_ab (omega arith) (omega arith) refl (omega arith) mget-valid;
      bytes = refl;
      plan_length = 100;
      send_length = 42;
      counts = record { offset = 0; count = 2 };
      plans = refl;
      served = served;
      commands = (ascii "MGET" ∷ ascii "b" ∷ []) ∷ pttl_texts (ascii "b") ∷ [];
      sends = refl;
      answers = more (array (more (blob_string (ascii "b")) none)) (more (number (negsuc 0)) none);
      replied = (reply, (to_pttl (ascii "b") (number (negsuc 0)), tt));
      given = record { ok = ((tt, tt), (omega arith, tt)); deep = omega arith; is = refl };
      resolves = refl;
    })

pub all-run : MgetRun (◌≡◌ {A = Value}) server in_all
unfolding read-case-defs
all-run = run-in-all _ server (served-a _ _ refl, tt) (to_mget (ascii "b" ∷ []))

-- ---- the same for a server that has `a` at `a`, where values of one length count as equal: with `x` served for `a`, the answer counts as that server's

abbrev pub SameLength : Value → Value → Type 0
SameLength v w = length (encode v) ≡ length (encode w)

abbrev pub changed : Server
changed k = blob_string k

pub like-answer : AnswersLike SameLength false (read_of changed keys_ab) (answer in_all 100)
unfolding read-case-defs
like-answer = record { answers = read_of server keys_ab; like = (refl, (refl, tt)); is = refl }

pub like-run : MgetRun SameLength changed in_all
unfolding read-case-defs
like-run = run-in-all SameLength changed (served-a SameLength _ refl, tt) (to_mget (ascii "b" ∷ []))

-- ---- opt-in mode inside a transaction: `CLIENT CACHING YES` comes before both, and what `EXEC` answers is one element

abbrev pub in_transaction : Given
in_transaction = mget_given 1 1 6 (ascii "*1\r\n*3\r\n+OK\r\n*1\r\n$1\r\nb\r\n:-1\r\n")

pub transaction-answer : (answer in_transaction 100 ≡ ascii "*1\r\n*1\r\n*2\r\n$1\r\nx\r\n$1\r\nb\r\n") × (answer in_transaction 100 ≡ whole_bytes true)
unfolding read-case-defs
transaction-answer = (refl, refl)

pub transaction-run : MgetRun (◌≡◌ {A = Value}) server in_transaction
unfolding read-case-defs
transaction-run =
    mget-run _ server 1 1 6 _
    (record {
      valid = valid-of 1 6 mget_ab (omega arith) (omega arith) refl (omega arith) mget-valid;
      bytes = refl;
      plan_length = 100;
      send_length = 109;
      counts = record { offset = 4; count = 1 };
      plans = refl;
      served = (served-a _ _ refl, tt);
      commands = caching_texts ∷ (ascii "MGET" ∷ ascii "b" ∷ []) ∷ pttl_texts (ascii "b") ∷ [];
      sends = refl;
      answers = more (simple_string (ascii "OK")) (more (array (more (blob_string (ascii "b")) none)) (more (number (negsuc 0)) none));
      replied = (to_caching (simple_string (ascii "OK")), (to_mget (ascii "b" ∷ []), (to_pttl (ascii "b") (number (negsuc 0)), tt)));
      given = record { ok = ((refl, ((tt, tt), (omega arith, tt))), tt); deep = omega arith; is = refl };
      resolves = refl;
    })

-- ---- in opt-in mode without its flag it takes no part, and an ignored one does not in either mode: the command is sent as it is and its reply handed on

abbrev pub handed_on : ℕ → ℕ → Given
handed_on mode own = mget_given mode 0 own (ascii "*1\r\n*2\r\n$1\r\nx\r\n$1\r\nb\r\n")

pub no-part-answer : answer (handed_on 1 2) 28 ≡ whole_bytes false
unfolding read-case-defs
no-part-answer = refl

pub ignored-answer : answer (handed_on 0 3) 28 ≡ whole_bytes false
unfolding read-case-defs
ignored-answer = refl

-- nothing is served, so it is a run whatever counts as equal
pub ignored-run : (R : Value → Value → Type 0) → MgetRun R server (handed_on 0 3)
unfolding read-case-defs
ignored-run R =
    mget-run R server 0 0 3 _
    (record {
      valid = valid-of 0 3 mget_ab (omega arith) (omega arith) refl (omega arith) mget-valid;
      bytes = refl;
      plan_length = 28;
      send_length = 28;
      counts = record { offset = 0; count = 1 };
      plans = refl;
      served = tt;
      commands = (ascii "MGET" ∷ keys_ab) ∷ [];
      sends = refl;
      answers = more (whole_answer server keys_ab) none;
      replied = (to_mget keys_ab, tt);
      given = record { ok = ((tt, (tt, tt)), tt); deep = omega arith; is = refl };
      resolves = refl;
    })

-- ---- `GET b` in mode All: its PTTL is sent first

abbrev pub one_get : Given
one_get = given 0 (record_of 0 2 get_b) (ascii "*2\r\n:-1\r\n$1\r\nb\r\n")

pub get-answer : answer one_get 33 ≡ ascii "*1\r\n$1\r\nb\r\n"
unfolding read-case-defs
get-answer = refl

pub get-run : GetRun (◌≡◌ {A = Value}) server one_get
unfolding read-case-defs
get-run =
    record {
      r = record_of 0 2 get_b;
      c = command_of 2 get_b;
      k = ascii "b";
      one = refl;
      args = refl;
      run = record {
        valid = valid-of 0 2 get_b (omega arith) (omega arith) refl (omega arith) get-valid;
        bytes = refl;
        plan_length = 33;
        send_length = 41;
        counts = record { offset = 0; count = 2 };
        plans = refl;
        served = tt;
        commands = pttl_texts (ascii "b") ∷ (ascii "GET" ∷ ascii "b" ∷ []) ∷ [];
        sends = refl;
        answers = more (number (negsuc 0)) (more (blob_string (ascii "b")) none);
        replied = (get.to_pttl (ascii "b") (number (negsuc 0)), (to_get (ascii "b"), tt));
        given = record { ok = (omega arith, (tt, tt)); deep = omega arith; is = refl };
        resolves = refl;
      };
    }
