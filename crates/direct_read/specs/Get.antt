-- The same for one `GET` of one key, as a statement: the server's replies to what is sent for it, and that the result holds the server's own answer.
-- Assumes nothing: these are definitions; TheoremGet.antt proves the statement.
-- Letters: sv server, r call record, c command, k key, v value; R when two values count as equal.
use Rattle.std.specs.Prelude.{◌≡◌, Bool, [], ◌∷◌}
use Rattle.buffer.specs.Same.{Bytes}
use Rattle.buffer.specs.Ascii.{ascii}
use Rattle.resp3.specs.Value.{Value, none, more, encode}
use Rattle.call_record.specs.Record.{Command, simple, Record, transaction}
use Rattle.cmd.specs.Pack.{pttl_texts, caching_texts}
use Rattle.planning.specs.Sent.{Packed}
use Rattle.resolving.specs.Result.{result_of}
use Rattle.direct_read.specs.Server.{Server}
use Rattle.direct_read.specs.Direct.{Given, answer, Run}

-- to `GET` of any key it replies what it has there, a value or an error; what it replies to the other two does not matter
pub data GetReplied (sv : Server) : Packed → Value → Type 0 where
  to_get : (k : Bytes) → GetReplied sv (ascii "GET" ∷ k ∷ []) (sv k)
  to_pttl : (k : Bytes) (v : Value) → GetReplied sv (pttl_texts k) v
  to_caching : (v : Value) → GetReplied sv caching_texts v

-- a run of one `GET`
pub record GetRun (R : Value → Value → Type 0) (sv : Server) (a : Given) : Type 0 where
  pub r : Record
  pub c : Command
  pub k : Bytes
  -- the record has one command, with any flags, TTL and cursor
  pub one : r.commands ≡ c ∷ []
  -- it is `GET` of one key
  pub args : c.args ≡ simple (ascii "GET") ∷ simple k ∷ []
  pub run : Run R (GetReplied sv) sv a r (k ∷ [])

-- bytes s of a result with a single answer, which counts as equal to v; one array deeper if b, of a transaction
pub record AnswerLike (R : Value → Value → Type 0) (b : Bool) (v : Value) (s : Bytes) : Type 0 where
  pub value : Value
  pub like : R value v
  pub is : s ≡ encode (result_of b (more value none))

-- THE STATEMENT: where each value counts as equal to itself, what is answered counts as the server's own answer to the `GET`
abbrev pub DirectGetLike : Type 1
DirectGetLike =
    (R : Value → Value → Type 0) → ((v : Value) → R v v) → (sv : Server) (a : Given) (w : GetRun R sv a)
    → AnswerLike R (transaction w.r) (sv w.k) (answer a w.run.plan_length)

-- EXACTLY, where R is equality: the result holds a single answer, the server's own to the `GET`
abbrev pub DirectGet : Type 0
DirectGet =
    (sv : Server) (a : Given) (w : GetRun (◌≡◌ {A = Value}) sv a)
    → answer a w.run.plan_length ≡ encode (result_of (transaction w.r) (more (sv w.k) none))
