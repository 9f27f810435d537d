-- A plan answered without arena and replies: every command's answer where all of them are served, else that replies are needed. The result's bytes are
-- those of resolving. Assumes nothing: these are the definitions that a reader has to believe.
use Rattle.std.specs.Prelude.{◌≡◌, Bool, cond, List, [], ◌∷◌, ℕ, leb, length, Result, Ok, Err, Option as Maybe, Some, None}
use Rattle.std.proofs.Math.Option.{Option, some}
use Rattle.std.proofs.Math.Option as option
use Rattle.buffer.specs.Same.{Bytes}
use Rattle.buffer.specs.Part.{put}
use Rattle.config.specs.declared.Cause.{Cause}
use Rattle.config.specs.declared.Cause.TheVariants.{ShortAnswer, BadPlan}
use Rattle.resp3.specs.Value.{Value, Values, array, none, more}
use Rattle.planning.specs.Plan as nodes
use Rattle.plan.specs.Decode.{decode_plan}
use Rattle.resolving_walk.specs.Commands.{plan_read}
use Rattle.resolving.specs.Plan.{Command, handed_on, cached, cached_array, single, multiple}
use Rattle.resolving.specs.Result.{result_bytes}

-- one answer more, before the others
abbrev pub with_answer : Value → Option Values → Option Values
with_answer v option.none = option.none
with_answer v (some vs) = some (more v vs)

-- the answers of commands that are all served; nothing where one of them takes replies
unfoldable pub served_answers : List Command → Option Values
served_answers [] = some none
served_answers (handed_on ∷ cs) = option.none
served_answers (cached v ∷ cs) = with_answer v (served_answers cs)
served_answers (cached_array vs ∷ cs) = with_answer (array vs) (served_answers cs)
served_answers (single m ∷ cs) = option.none
served_answers (multiple ps ∷ cs) = option.none

-- the result's bytes; nothing where replies are needed; cause 8: the result has more bytes than the buffer holds
unfoldable pub served_from : Bool → Option Values → ℕ → Result (Maybe ℕ) Cause
served_from transaction option.none room = Ok None
served_from transaction (some vs) room =
    cond (leb (length (result_bytes transaction vs)) room) (Ok (Some (length (result_bytes transaction vs)))) (Err ShortAnswer)

-- only a result is written, and the buffer's bytes behind it stay as they were
unfoldable pub buffer_from : Bool → Option Values → Bytes → Bytes
buffer_from transaction option.none buffer = buffer
buffer_from transaction (some vs) buffer =
    cond (leb (length (result_bytes transaction vs)) (length buffer)) (put buffer 0 (result_bytes transaction vs)) buffer

-- cause 10 before all else
unfoldable pub served_of : Option nodes.Plan → ℕ → Result (Maybe ℕ) Cause
served_of option.none room = Err BadPlan
served_of (some p) room = served_from p.transaction (served_answers (plan_read p).commands) room

unfoldable pub buffer_of : Option nodes.Plan → Bytes → Bytes
buffer_of option.none buffer = buffer
buffer_of (some p) buffer = buffer_from p.transaction (served_answers (plan_read p).commands) buffer

-- the whole call: what a plan's bytes and an answer buffer come to
abbrev pub served_call : Bytes → ℕ → Result (Maybe ℕ) Cause
served_call plan room = served_of (decode_plan plan) room

abbrev pub served_buffer : Bytes → Bytes → Bytes
served_buffer plan buffer = buffer_of (decode_plan plan) buffer

-- an answer and a buffer are what comes out
abbrev pub ServedIs : Bytes → Bytes → Bytes → Result (Maybe ℕ) Cause → Type 0
ServedIs plan buffer after r = (r ≡ served_call plan (length buffer)) × (after ≡ served_buffer plan buffer)
