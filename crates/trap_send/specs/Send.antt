-- What the program writes: planning's own call on an empty cache, with a plan buffer that has room (docs/BEHAVIOUR.md, T1).
-- Assumes nothing: these are definitions.
-- Letters: s the call record's bytes, d a plan buffer's, f the send buffer's, r what is answered.
use Rattle.std.specs.Prelude.{Option, None, Some, ◌≡◌, cond, ℕ, ◌≤◌, ltb, length, replicate}
use Rattle.buffer.specs.Same.{Bytes}
use Rattle.book.specs.Book.{Counts, plus}
use Rattle.arena.specs.Held.{Held}
use Rattle.cache_manager.specs.Pipeline.{Returned, refused_as, wrong_at, wrote, Left, plan_call}

-- what is answered, with the send buffer as it is left
pub record Output : Type 0 where
  pub answer : Option ℕ
  pub out : Bytes

abbrev pub output : Option ℕ → Bytes → Output
output r f = record { answer = r; out = f }

-- of a planning that wrote, what is to be sent; of a refused one nothing
abbrev pub sent_of : Returned → Option ℕ
sent_of (refused_as n) = None
sent_of (wrong_at o) = None
sent_of (wrote n m c) = Some m

-- of a planning
abbrev pub output_of : Left → Output
output_of x = output (sent_of x.returned) x.send

-- the longest record that is taken
abbrev pub max_record : ℕ
max_record = 65536

-- what the caller of a planning holds
abbrev pub held : Bytes → Counts → ℕ → Held
held a n next = record { arena = a; counts = n; next = next }

-- a cache that holds nothing: 64 bytes as setup leaves them (Laws.antt, `empty-set-up`)
abbrev pub empty_cache : Held
empty_cache = held (replicate 64 0) (plus 0 0 0) 1

-- the planning of the record s with the plan buffer d, at clock 0: four keys, mode All, half an hour as default TTL; no epoch matters there, so it is 0
unfoldable pub sends_with : Bytes → Bytes → Bytes → Output
sends_with s f d = cond (ltb max_record (length s)) (output None f) (output_of (plan_call 4 0 1800000 0 0 s d f empty_cache))

-- y is what x comes to with every plan buffer that is long enough
pub record Settles (x : Bytes → Output) (y : Output) : Type 0 where
  pub room : ℕ
  pub is : (d : Bytes) → room ≤ length d → y ≡ x d

-- what is answered lies inside the send buffer
abbrev pub Within : Option ℕ → ℕ → Type 0
Within (Some m) n = m ≤ n
Within None n = Unit {0}
