-- What Direct.antt asks of a run is needed: runs on the bytes of Cases.antt that lack one premise each, on the served values, the replies, the arguments or
-- the one mode of both calls. Neither call refuses them, and what is answered is not the server's answer. Each value has to count as itself. Assumes nothing.
-- Of other premises there is no such run. An ignored command is answered alike (`ignored-answer` of Cases.antt): it is not looked up, nothing of it is
-- stored, and so nothing is asked about that flag. A server has no array for a command without keys, but an error. Bytes of no record are refused.
use Rattle.std.specs.Prelude.{◌≡◌, refl, ℕ, false, [], ◌∷◌, take}
use Prim.Native.String.{String}
use Rattle.buffer.specs.Same.{same}
use Rattle.buffer.specs.Ascii.{ascii}
use Rattle.config.specs.Causes.{bad_shape}
use Rattle.resp3.specs.Value.{Value, Values, none, more, encode}
use Rattle.call_record.specs.Record.{simple, cursor}
use Rattle.resolving.specs.Result.{result_of}
use Rattle.call_entry.specs.Entered.{no_cause}
use Rattle.cache_manager.specs.Pipeline.{cause_of}
use Rattle.caching_cmd.specs.Call.{ResolveReturn, resolve_call}
use Rattle.direct_read.specs.Server.{read_of, whole_answer, EachLike}
use Rattle.direct_read.specs.Direct.{Given, planned, resolved, answer, MgetRun, AnswersLike}
use Rattle.direct_read.proofs.Cases.{read-case-defs, server, record_of, keys_ab, get_b, given, mget_given, in_all, changed}
use Rattle.direct_read.proofs.Cases.{handed_on, ignored-run}

-- neither call refuses, the answer is this text, and the server's answer v is another
pub record Otherwise (a : Given) (y : ResolveReturn) (v : Value) (text : String) : Type 0 where
  pub plans : cause_of (planned a).returned ≡ no_cause
  pub resolves : y.cause ≡ no_cause
  pub answered : take y.written y.buffer ≡ ascii text
  pub another : same (encode (result_of false (more v none))) (ascii text) ≡ false

-- ---- `a` is served and `b` is fetched, in mode All

-- the value that is served for `a` is another
pub served-other : Otherwise in_all (resolved in_all 100) (whole_answer changed keys_ab) "*1\r\n*2\r\n$1\r\nx\r\n$1\r\nb\r\n"
unfolding read-case-defs
served-other = record { plans = refl; resolves = refl; answered = refl; another = refl }

-- the reply to `MGET b` is another, or has no element: then the place is null
abbrev replied_other : Given
replied_other = mget_given 0 0 2 (ascii "*2\r\n*1\r\n$1\r\nz\r\n:-1\r\n")

pub replied-other : Otherwise replied_other (resolved replied_other 100) (whole_answer server keys_ab) "*1\r\n*2\r\n$1\r\nx\r\n$1\r\nz\r\n"
unfolding read-case-defs
replied-other = record { plans = refl; resolves = refl; answered = refl; another = refl }

abbrev element_less : Given
element_less = mget_given 0 0 2 (ascii "*2\r\n*0\r\n:-1\r\n")

pub element-less : Otherwise element_less (resolved element_less 100) (whole_answer server keys_ab) "*1\r\n*2\r\n$1\r\nx\r\n_\r\n"
unfolding read-case-defs
element-less = record { plans = refl; resolves = refl; answered = refl; another = refl }

-- the reply to `PTTL b` is lacking: the place is null, too
abbrev pttl_less : Given
pttl_less = mget_given 0 0 2 (ascii "*1\r\n*1\r\n$1\r\nb\r\n")

pub pttl-less : Otherwise pttl_less (resolved pttl_less 100) (whole_answer server keys_ab) "*1\r\n*2\r\n$1\r\nx\r\n_\r\n"
unfolding read-case-defs
pttl-less = record { plans = refl; resolves = refl; answered = refl; another = refl }

-- ---- an argument is a cursor: it is no key, so `MGET a` and the cursor 7 is answered for `a` alone, and nothing is sent

abbrev with_cursor : Given
with_cursor = given 0 (record_of 0 2 (simple (ascii "MGET") ∷ simple (ascii "a") ∷ cursor ∷ [])) (ascii "*0\r\n")

pub with-cursor : Otherwise with_cursor (resolved with_cursor 55) (whole_answer server (ascii "a" ∷ ascii "7" ∷ [])) "*1\r\n*1\r\n$1\r\nx\r\n"
unfolding read-case-defs
with-cursor = record { plans = refl; resolves = refl; answered = refl; another = refl }

-- ---- planned in opt-in mode and resolved in mode All, which takes the reply to `CLIENT CACHING YES` for the first of its own

-- a resolving of the first n bytes of its plan in mode All
abbrev in_other : Given → ℕ → ResolveReturn
in_other a n = resolve_call a.size' 0 a.ttl' (take n (planned a).plan) a.replies a.clock' a.epoch' a.buffer a.held'

-- of `GET b` the answer is then the PTTL's reply
abbrev get_opt_in : Given
get_opt_in = given 1 (record_of 0 6 get_b) (ascii "*3\r\n+OK\r\n:-1\r\n$1\r\nb\r\n")

pub get-other-mode : Otherwise get_opt_in (in_other get_opt_in 33) (server (ascii "b")) "*1\r\n:-1\r\n"
unfolding read-case-defs
get-other-mode = record { plans = refl; resolves = refl; answered = refl; another = refl }

-- of `MGET a b` it is refused for its shape, unless that first reply is an array, of which nothing is asked
abbrev mget_opt_in : Given
mget_opt_in = mget_given 1 0 6 (ascii "*3\r\n*1\r\n$1\r\nz\r\n*1\r\n$1\r\nb\r\n:-1\r\n")

pub mget-other-mode : Otherwise mget_opt_in (in_other mget_opt_in 100) (whole_answer server keys_ab) "*1\r\n*2\r\n$1\r\nx\r\n$1\r\nz\r\n"
unfolding read-case-defs
mget-other-mode = record { plans = refl; resolves = refl; answered = refl; another = refl }

-- with the server's own `OK` there the call is refused
abbrev mget_refused : Given
mget_refused = mget_given 1 0 6 (ascii "*3\r\n+OK\r\n*1\r\n$1\r\nb\r\n:-1\r\n")

pub mget-refused : (in_other mget_refused 100).cause ≡ bad_shape
unfolding read-case-defs
mget-refused = refl

-- ---- where no value counts as itself: there is a run, which serves nothing, and its answer does not count as the server's

abbrev Never : Value → Value → Type 0
Never v w = ⊥

pub never-run : MgetRun Never server (handed_on 0 3)
never-run = ignored-run Never

never-each : (vs : Values) → EachLike Never vs (read_of server keys_ab) → ⊥
unfolding EachLike read_of
never-each none h = h
never-each (more v vs) h = h.0

pub never-answer : AnswersLike Never false (read_of server keys_ab) (answer (handed_on 0 3) 28) → ⊥
never-answer w = never-each w.answers w.like
