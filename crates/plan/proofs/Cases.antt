-- Worked cases of what is a plan and what is none, byte by byte and one for each rule of docs/LAYOUT.md, by computing. They lean on Decode.antt
-- alone, so that a wrong definition there fails here first. Assumes nothing.
use Rattle.std.specs.Prelude.{◌≡◌, refl, true, false, [], ◌∷◌, ◌++◌, ℕ, replicate}
use Rattle.std.proofs.Math.Option.{some}
use Rattle.buffer.specs.Ascii.{ascii}
use Rattle.buffer.specs.Same.{Bytes, same}
use Rattle.buffer.specs.Field.{le, le32, le64, read_le}
use Rattle.buffer.specs.Part.{part}
use Rattle.decimal.specs.Digits.{digits}
use Rattle.decimal.specs.Read.{crlf_b, ended_def, fin_def, num_def}
use Rattle.resp3.specs.Kinds.{kind_of}
use Rattle.resp3.specs.Value.{plain_b, encode}
use Rattle.resp3.specs.Ends.{length_at, crlf_end, plain, line_end, blob_end, verbatim_end, number_end, boolean_end, iter, body_head}
use Rattle.resp3.specs.Ends.{null_word_b, one_end, kind_head, head_at, value_end, is_value}
use Rattle.arena.specs.Decode.{every}
use Rattle.planning.specs.Plan.{Node, hand_on, served_value, all_served, missing_key, several, waiting_place, end_of_several, plan-defs}
use Rattle.planning.specs.Rules.{order-defs}
use Rattle.plan.specs.Decode.{good_node, is_plan, decode_plan, decode-defs}

-- one name that opens all that these cases compute
unfoldable case-defs : Unit {0}
unfolding decode-defs plan-defs order-defs every same le read_le part encode digits is_value value_end head_at kind_head one_end null_word_b body_head iter boolean_end
    number_end verbatim_end blob_end line_end plain plain_b crlf_end length_at kind_of num_def fin_def ended_def crlf_b
case-defs = tt

-- flags, `_`, count
abbrev start : ℕ → ℕ → Bytes
start f c = (f ∷ 95 ∷ 13 ∷ 10 ∷ []) ++ le32 c

-- kind, lengths, number and parts
abbrev node : ℕ → ℕ → Bytes → Bytes → ℕ → ℕ → Bytes
node k x a b la lb = le32 k ++ (le32 la ++ (le32 lb ++ (le64 x ++ (a ++ b))))

abbrev bare : ℕ → ℕ → Bytes
bare k x = node k x [] [] 0 0

-- a plan of every kind of node, a transaction's
whole-plan : decode_plan
    (start 1 5 ++ (bare 0 0 ++ (node 1 0 (ascii "+u\r\n") [] 4 0 ++ (bare 2 1 ++ (node 1 0 (ascii "_\r\n") [] 3 0
    ++ (node 3 9 (ascii "k") (ascii "GETk") 1 4
    ++ (bare 4 2 ++ (node 5 7 (ascii "a") (ascii "GETa") 1 4 ++ (node 1 0 (ascii ":1\r\n") [] 4 0 ++ bare 6 0)))))))))
    ≡ some
    (record {
      transaction = true;
      commands = 5;
      nodes =
          hand_on ∷ served_value (ascii "+u\r\n") ∷ all_served 1 ∷ served_value (ascii "_\r\n")
          ∷ missing_key (record { key = ascii "k"; command = ascii "GETk" }) 9
          ∷ several 2 ∷ waiting_place (record { key = ascii "a"; command = ascii "GETa" }) 7 ∷ served_value (ascii ":1\r\n") ∷ end_of_several ∷ [];
    })
unfolding case-defs
whole-plan = refl

-- no commands at all
empty-plan : is_plan (start 0 0) ≡ true
unfolding case-defs
empty-plan = refl

-- 1. flags are 0 or 1
flags-two : is_plan (start 2 0) ≡ false
unfolding case-defs
flags-two = refl

-- 2. bytes 1 to 3 are `_` CR LF
no-null : is_plan (0 ∷ 95 ∷ 13 ∷ 13 ∷ 0 ∷ 0 ∷ 0 ∷ 0 ∷ []) ≡ false
unfolding case-defs
no-null = refl

-- 4. nothing trails, and nodes are whole; a short head
trailing : is_plan (start 0 1 ++ (bare 0 0 ++ (0 ∷ []))) ≡ false
unfolding case-defs
trailing = refl

cut : is_plan (start 0 1 ++ node 1 0 (ascii "_\r") [] 3 0) ≡ false
unfolding case-defs
cut = refl

short : is_plan (0 ∷ 95 ∷ 13 ∷ 10 ∷ 0 ∷ 0 ∷ 0 ∷ []) ≡ false
unfolding case-defs
short = refl

-- 5. kinds are 0 to 6; parts and numbers as in the table
kind-7 : is_plan (start 0 1 ++ bare 7 0) ≡ false
unfolding case-defs
kind-7 = refl

part-with-hand-on : is_plan (start 0 1 ++ node 0 0 (ascii "k") [] 1 0) ≡ false
unfolding case-defs
part-with-hand-on = refl

number-with-value : is_plan (start 0 1 ++ node 1 1 (ascii "_\r\n") [] 3 0) ≡ false
unfolding case-defs
number-with-value = refl

-- 6. a served value is exactly one value
no_value : is_plan (start 0 1 ++ node 1 0 (ascii "_\r\n_\r\n") [] 6 0) ≡ false
unfolding case-defs
no_value = refl

-- 7. a key has at most 65,535 bytes
abbrev long-key : ℕ → Node
long-key n = missing_key (record { key = replicate n 0; command = [] }) 0

key-of-65535 : good_node (long-key 65535) ≡ true
unfolding case-defs
key-of-65535 = refl

key-of-65536 : good_node (long-key 65536) ≡ false
unfolding case-defs
key-of-65536 = refl

-- 8. at most 1,024 places
places-1024 : good_node (several 1024) ≡ true
unfolding case-defs
places-1024 = refl

places-1025 : good_node (several 1025) ≡ false
unfolding case-defs
places-1025 = refl

-- 9. to 11. what stands behind kinds 2 and 4, and kinds 5 and 6 nowhere else
waits-among-served : is_plan (start 0 1 ++ (bare 2 1 ++ node 5 7 (ascii "a") (ascii "GETa") 1 4)) ≡ false
unfolding case-defs
waits-among-served = refl

no_end : is_plan (start 0 1 ++ (bare 4 1 ++ node 5 7 (ascii "a") (ascii "GETa") 1 4)) ≡ false
unfolding case-defs
no_end = refl

waits-outside : is_plan (start 0 1 ++ node 5 7 (ascii "a") (ascii "GETa") 1 4) ≡ false
unfolding case-defs
waits-outside = refl

-- 12. as many commands as the count says
one-too-many : is_plan (start 0 2 ++ bare 0 0) ≡ false
unfolding case-defs
one-too-many = refl

one-too-few : is_plan (start 0 0 ++ bare 0 0) ≡ false
unfolding case-defs
one-too-few = refl
