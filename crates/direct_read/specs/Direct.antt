-- A READ THROUGH THE CACHE IS THE SERVER'S ANSWER, as a statement: what a planning and the resolving behind it are given, what is asked of them, and that
-- the bytes then answered are those of the server's own answer to the command. It speaks of `plan_call` and `resolve_call` themselves, which the contracts
-- of the exports cite. Assumes nothing: these are definitions; Theorem.antt proves the statement, in general and exactly.
-- There is an R, which says when two values count as equal: bytes alone, or nulls of any spelling alike. It is whatever holds of each value and itself.
-- Letters: sv server, r call record, c command, k key, v value, S what is replied to a command; a prime marks what resolving is given.
use Rattle.std.specs.Prelude.{◌≡◌, ℕ, ◌<◌, Bool, List, [], ◌∷◌, length, take}
use Rattle.buffer.specs.Same.{Bytes}
use Rattle.buffer.specs.Ascii.{ascii}
use Rattle.resp3.specs.Value.{Value, array, Values, none, more, Means, encode}
use Rattle.call_record.specs.Record.{Command, simple, Record, enc_record, ValidRecord, transaction}
use Rattle.arena.specs.Held.{Held}
use Rattle.planning.specs.Outcome.{as_simple}
use Rattle.planning.specs.Sent.{Packed, wrapped, Responses, sent_bytes}
use Rattle.plan.specs.Decode.{decode_plan}
use Rattle.resolving.specs.Result.{result_of}
use Rattle.call_entry.specs.Entered.{no_cause}
use Rattle.cache_manager.specs.Pipeline.{Left, wrote, plan_call}
use Rattle.caching_cmd.specs.Call.{ResolveReturn, resolve_call}
use Rattle.demand.specs.Words.{places_of}
use Rattle.direct_read.specs.Server.{Server, read_of, whole_answer, Replied, RepliedAll, handed, ServedBy, EachLike}

-- what the two calls are given
pub record Given : Type 0 where
  -- the mode's number, of both
  pub mode : ℕ
  -- planning: size, default TTL, clock, epoch; call record, plan buffer, send buffer; what is held
  pub size : ℕ
  pub ttl : ℕ
  pub clock : ℕ
  pub epoch : ℕ
  pub bytes : Bytes
  pub plan : Bytes
  pub send : Bytes
  pub held : Held
  -- resolving, at any time behind it: the same numbers; replies, answer buffer; what is held then
  pub size' : ℕ
  pub ttl' : ℕ
  pub clock' : ℕ
  pub epoch' : ℕ
  pub replies : Bytes
  pub buffer : Bytes
  pub held' : Held

module _ (a : Given) where
  -- the planning
  abbrev pub planned : Left
  planned = plan_call a.size a.mode a.ttl a.clock a.epoch a.bytes a.plan a.send a.held

  -- the resolving of the plan that the planning left in the first n bytes of its buffer
  abbrev pub resolved : ℕ → ResolveReturn
  resolved n = resolve_call a.size' a.mode a.ttl' (take n planned.plan) a.replies a.clock' a.epoch' a.buffer a.held'

  -- the bytes that it answers
  abbrev pub answer : ℕ → Bytes
  answer n = take (resolved n).written (resolved n).buffer

-- both calls on a record r whose one command reads these keys, with a server's replies between them (S says what it replies to a command)
pub record Run (R : Value → Value → Type 0) (S : Packed → Value → Type 0) (sv : Server) (a : Given) (r : Record) (ks : List Bytes) : Type 0 where
  -- the bytes planned are those of the record, which is valid
  pub valid : ValidRecord r
  pub bytes : a.bytes ≡ enc_record r
  -- planning does not refuse: it wrote so many bytes of a plan and so many to send
  pub plan_length : ℕ
  pub send_length : ℕ
  pub counts : Responses
  pub plans : (planned a).returned ≡ wrote plan_length send_length counts
  -- every value that it served counts as the server's at its place
  pub served : ServedBy R sv ks (places_of (decode_plan (take plan_length (planned a).plan)))
  -- what is sent are these commands, in their frame where the record is a transaction
  pub commands : List Packed
  pub sends : take send_length (planned a).send ≡ sent_bytes (wrapped (transaction r) commands)
  -- the server replies to each of them, and resolving is given just these replies
  pub answers : Values
  pub replied : RepliedAll S commands answers
  pub given : Means a.replies (handed (transaction r) answers)
  -- resolving does not refuse
  pub resolves : (resolved a plan_length).cause ≡ no_cause

-- such a run of one `MGET`
pub record MgetRun (R : Value → Value → Type 0) (sv : Server) (a : Given) : Type 0 where
  pub r : Record
  pub c : Command
  pub ks : List Bytes
  -- the record has one command, with any flags, TTL and cursor: an ignored one is not left out, since it is answered alike
  pub one : r.commands ≡ c ∷ []
  -- it is `MGET` of keys, and no argument is a cursor
  pub args : c.args ≡ simple (ascii "MGET") ∷ as_simple ks
  -- of one key at least
  pub keyed : 0 < length ks
  pub run : Run R (Replied sv) sv a r ks

-- bytes s of a result with a single answer, an array whose values each count as equal to the one of vs at its place; one array deeper if b, of a transaction
pub record AnswersLike (R : Value → Value → Type 0) (b : Bool) (vs : Values) (s : Bytes) : Type 0 where
  pub answers : Values
  pub like : EachLike R answers vs
  pub is : s ≡ encode (result_of b (more (array answers) none))

-- THE STATEMENT: where each value counts as equal to itself, what is answered counts as the server's own answer to `MGET` of all the keys
abbrev pub DirectReadLike : Type 1
DirectReadLike =
    (R : Value → Value → Type 0) → ((v : Value) → R v v) → (sv : Server) (a : Given) (w : MgetRun R sv a)
    → AnswersLike R (transaction w.r) (read_of sv w.ks) (answer a w.run.plan_length)

-- EXACTLY, where R is equality: the result holds a single answer, the server's own to `MGET` of all the keys; of a transaction it stands one array deeper
abbrev pub DirectRead : Type 0
DirectRead =
    (sv : Server) (a : Given) (w : MgetRun (◌≡◌ {A = Value}) sv a)
    → answer a w.run.plan_length ≡ encode (result_of (transaction w.r) (more (whole_answer sv w.ks) none))
