-- Plans answered without replies, computed: the order of the causes, what is written and what stays. Assumes nothing.
use Rattle.std.specs.Prelude.{◌≡◌, refl, [], ◌∷◌, ◌++◌, ℕ, replicate, Ok, Err, Some, None}
use Rattle.buffer.specs.Same.{Bytes, same}
use Rattle.buffer.specs.Field.{le, le32, le64, read_le}
use Rattle.buffer.specs.Part.{part, put}
use Rattle.buffer.specs.Ascii.{ascii}
use Rattle.decimal.specs.Digits.{digits}
use Rattle.decimal.specs.Read.{crlf_b, ended_def, fin_def, num_def}
use Rattle.resp3.specs.Kinds.{kind_of}
use Rattle.resp3.specs.Value.{plain_b, encode}
use Rattle.resp3.specs.Ends.{length_at, crlf_end, plain, line_end, blob_end, verbatim_end, number_end, boolean_end, iter, body_head}
use Rattle.resp3.specs.Ends.{null_word_b, one_end, kind_head, head_at, value_end, is_value}
use Rattle.resp3.specs.Decode as resp
use Rattle.arena.specs.Decode.{every}
use Rattle.planning.specs.Plan.{plan-defs}
use Rattle.planning.specs.Rules.{order-defs}
use Rattle.plan.specs.Decode.{decode-defs}
use Rattle.resolving_walk.specs.Commands.{value_at, place_at, values_at, places_at, commands_of, plan_read}
use Rattle.resolving.specs.Result.{result_bytes}
use Rattle.config.specs.Causes.{number}
use Rattle.config.specs.declared.Cause.TheVariants.{ShortAnswer, BadPlan}
use Rattle.served.specs.Served.{served_answers, served_from, buffer_from, served_of, buffer_of, served_call, served_buffer}

-- one name that opens the whole call
unfoldable case-defs : Unit {0}
unfolding same le read_le part put digits crlf_b ended_def fin_def num_def kind_of plain_b encode length_at crlf_end plain line_end blob_end verbatim_end number_end
    boolean_end iter body_head head_at kind_head one_end null_word_b value_end is_value resp.bytes_at resp.line_at resp.integer_at resp.values_at resp.body_of resp.iter_of
    resp.value_of resp.decode every plan-defs order-defs decode-defs value_at place_at values_at places_at commands_of plan_read result_bytes served_answers served_from
    buffer_from served_of buffer_of
case-defs = tt

-- a plan's head, and a node of a kind with a number and a part
abbrev start : ℕ → ℕ → Bytes
start f c = (f ∷ ascii "_\r\n") ++ le32 c

abbrev node : ℕ → ℕ → Bytes → ℕ → Bytes
node k x a n = le32 k ++ (le32 n ++ (le32 0 ++ (le64 x ++ a)))

-- two commands: a served value, and two keys that are all served
abbrev two_served : ℕ → Bytes
two_served f = start f 2 ++ (node 1 0 (ascii "+u\r\n") 4 ++ (node 2 2 [] 0 ++ (node 1 0 (ascii "_\r\n") 3 ++ node 1 0 (ascii ":7\r\n") 4)))

-- the result, and the unwritten end unchanged
all-written : served_buffer (two_served 0) (replicate 20 9) ≡ ascii "*2\r\n+u\r\n*2\r\n_\r\n:7\r\n" ++ (9 ∷ [])
unfolding case-defs
all-written = refl

-- in a transaction inside `*1`
in-transaction : served_call (two_served 1) 23 ≡ Ok (Some 23)
unfolding case-defs
in-transaction = refl

-- 8: nothing is written
short-by-one : served_call (two_served 0) 18 ≡ Err ShortAnswer
unfolding case-defs
short-by-one = refl

-- and so by its number
short-number : number ShortAnswer ≡ 8
short-number = refl

-- a command whose reply is handed on needs replies, before 8
pub hands_on : served_call (start 0 2 ++ (node 1 0 (ascii "_\r\n") 3 ++ node 0 0 [] 0)) 0 ≡ Ok None
unfolding case-defs
hands_on = refl

-- 10 first
no-plan : served_call [] 0 ≡ Err BadPlan
unfolding case-defs
no-plan = refl
