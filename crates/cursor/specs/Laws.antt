-- The bytes of a valid record, read by their positions, are that record. Assumes nothing.
use Rattle.std.specs.Prelude.{◌≡◌, refl, true, List, [], ◌∷◌, ◌++◌, ℕ, suc, ◌+◌, ◌≤◌, eqb, length, get_or}
use Rattle.std.proofs.Common.{sym, ap, ap₂, ◌∙◌, true≢false, append-nil, arith, length-append, eq-eqb, ne_eqb}
use Rattle.buffer.specs.Same.{Bytes}
use Rattle.buffer.specs.Part.{part}
use Rattle.buffer.specs.Field.{le, le16, le32, le64, read16, read64}
use Rattle.buffer.specs.FieldLaws.{length-le}
use Rattle.format.specs.Lists.{enc_all, All}
use Rattle.call_record.specs.Record.{Argument, simple, cursor, Command, Record, enc_argument, enc_command, enc_record, ValidArgument, ValidCommand, ValidRecord}
use Rattle.call_record.specs.Offset.{IsRecord}
use Rattle.buffer.specs.Lies.{Lies, lies-left, lies-right, lies-inside, lies-head, lies-part, lies-number}
use Rattle.cursor.specs.At.{size_at, next_at, arg_at, args_at, args_end, ArgIn, ArgsIn, head_at, command_of, command_next, commands_at, CommandsIn, record_at}

-- ---- an argument

-- what is read where an argument stands
record ArgRead (s : Bytes) (at : ℕ) (a : Argument) : Type 0 where
  inside : ArgIn s at
  ends : next_at s at ≡ at + length (enc_argument a)
  is : arg_at s at ≡ a

-- a valid argument is read where it stands
arg-read : (s : Bytes) (at : ℕ) (a : Argument) → ValidArgument a → Lies s at (enc_argument a) → ArgRead s at a
unfolding enc_argument ValidArgument
arg-read s at (simple b) v w =
    let n = length b in
    let k = v.0 in
    let l = length-le 4 n in
    let w₁ : Lies s (at + 1) (le32 n ++ b) = lies-right (0 ∷ []) (le32 n ++ b) (at + 1) refl w in
    let w₂ : Lies s (at + 5) b = lies-right (le32 n) b (at + 5) (omega arith) w₁ in
    let size : size_at s at ≡ n = lies-number s (at + 1) 4 n (omega arith) (lies-left (le32 n) b w₁) in
    let i = lies-inside s (at + 5) b w₂ in
    let e : length (enc_argument (simple b)) ≡ 5 + n = ap suc (length-append (le32 n) b) ∙ omega arith in
    let q : eqb (get_or s at 0) 0 ≡ true = eq-eqb (get_or s at 0) 0 (lies-head s at 0 (le32 n ++ b) w) in
    record {
      inside = record { room = omega arith; inside = omega arith; empty = λ z. absurd (true≢false (sym q ∙ z)) };
      ends = omega arith;
      is = rw q (ap simple (ap (part s (at + 5)) size ∙ lies-part s (at + 5) b w₂));
    }
arg-read s at cursor v w =
    let l = length-le 4 0 in
    let w₁ : Lies s (at + 1) (le32 0) = lies-right (1 ∷ []) (le32 0) (at + 1) refl w in
    let size : size_at s at ≡ 0 = lies-number s (at + 1) 4 0 (omega arith) w₁ in
    let i = lies-inside s (at + 1) (le32 0) w₁ in
    let e : length (enc_argument cursor) ≡ 5 = omega arith in
    let h = lies-head s at 1 (le32 0) w in
    record {
      inside = record { room = omega arith; inside = omega arith; empty = λ z. size };
      ends = omega arith;
      is = rw (ne_eqb (get_or s at 0) 0 (λ q. omega arith));
    }

-- ---- arguments

record ArgsRead (s : Bytes) (n at : ℕ) (l : List Argument) : Type 0 where
  inside : ArgsIn s n at
  ends : args_end s n at ≡ at + length (enc_all enc_argument l)
  are : args_at s n at ≡ l

-- so are arguments
args_read : (s : Bytes) (l : List Argument) (n at : ℕ) → n ≡ length l → All ValidArgument l → Lies s at (enc_all enc_argument l) → ArgsRead s n at l
unfolding ArgsIn args_end args_at
args_read s [] n at q v w = rw q (record { inside = let i = lies-inside s at [] w in omega arith; ends = omega arith; are = refl })
args_read s (a ∷ l) n at q v w =
    let r = arg-read s at a v.0 (lies-left (enc_argument a) (enc_all enc_argument l) w) in
    let m = args_read s l (length l) (next_at s at) refl v.1 (lies-right (enc_argument a) (enc_all enc_argument l) (next_at s at) r.ends w) in
    let e = length-append (enc_argument a) (enc_all enc_argument l) in
    rw q
    (record {
      inside = (r.inside, m.inside);
      ends = let x = r.ends in let y = m.ends in omega arith;
      are = ap₂ (λ (x : Argument) (y : List Argument). x ∷ y) r.is m.are;
    })

-- ---- a command

record CommandRead (s : Bytes) (at : ℕ) (c : Command) : Type 0 where
  room : at + 19 ≤ length s
  inside : ArgsIn s (read16 s (at + 17)) (at + 19)
  ends : command_next s at ≡ at + length (enc_command c)
  is : command_of s (head_at s at) ≡ c

-- so is a command
command-read : (s : Bytes) (at : ℕ) (c : Command) → ValidCommand c → Lies s at (enc_command c) → CommandRead s at c
unfolding enc_command
command-read s at c v w =
    let n = length c.args in
    let es : Bytes = enc_all enc_argument c.args in
    let e₁ = length-le 8 c.ttl in
    let e₂ = length-le 8 c.cursor in
    let e₃ = length-le 2 n in
    let k = v.count in
    let l₀ : Lies s at ((c.flags ∷ []) ++ (le64 c.ttl ++ (le64 c.cursor ++ (le16 n ++ es)))) = w in
    let l₁ : Lies s (at + 1) (le64 c.ttl ++ (le64 c.cursor ++ (le16 n ++ es))) = lies-right (c.flags ∷ []) _ (at + 1) refl l₀ in
    let l₂ : Lies s (at + 9) (le64 c.cursor ++ (le16 n ++ es)) = lies-right (le64 c.ttl) _ (at + 9) (omega arith) l₁ in
    let l₃ : Lies s (at + 17) (le16 n ++ es) = lies-right (le64 c.cursor) _ (at + 17) (omega arith) l₂ in
    let l₄ : Lies s (at + 19) es = lies-right (le16 n) es (at + 19) (omega arith) l₃ in
    let i = lies-inside s (at + 19) es l₄ in
    let f : get_or s at 0 ≡ c.flags = lies-head s at c.flags _ l₀ in
    let t : read64 s (at + 1) ≡ c.ttl = lies-number s (at + 1) 8 c.ttl v.ttl (lies-left (le64 c.ttl) _ l₁) in
    let u : read64 s (at + 9) ≡ c.cursor = lies-number s (at + 9) 8 c.cursor v.cursor (lies-left (le64 c.cursor) _ l₂) in
    let m : read16 s (at + 17) ≡ n = lies-number s (at + 17) 2 n (omega arith) (lies-left (le16 n) es l₃) in
    let r = args_read s c.args (read16 s (at + 17)) (at + 19) m v.args l₄ in
    let a₁ = length-append (le64 c.ttl) (le64 c.cursor ++ (le16 n ++ es)) in
    let a₂ = length-append (le64 c.cursor) (le16 n ++ es) in
    let a₃ = length-append (le16 n) es in
    record {
      room = omega arith;
      inside = r.inside;
      ends = r.ends ∙ omega arith;
      is = λ i. record { flags = f i; ttl = t i; cursor = u i; args = r.are i };
    }

-- ---- commands

record CommandsRead (s : Bytes) (n at : ℕ) (l : List Command) : Type 0 where
  inside : CommandsIn s n at
  are : commands_at s n at ≡ l

-- so are commands
commands-read : (s : Bytes) (l : List Command) (n at : ℕ) → n ≡ length l → All ValidCommand l → Lies s at (enc_all enc_command l) → CommandsRead s n at l
unfolding CommandsIn commands_at
commands-read s [] n at q v w = rw q (record { inside = let i = lies-inside s at [] w in omega arith; are = refl })
commands-read s (c ∷ l) n at q v w =
    let r = command-read s at c v.0 (lies-left (enc_command c) (enc_all enc_command l) w) in
    let m = commands-read s l (length l) (command_next s at) refl v.1 (lies-right (enc_command c) (enc_all enc_command l) (command_next s at) r.ends w) in
    rw q
    (record {
      inside = (r.room, r.inside, m.inside);
      are = ap₂ (λ (x : Command) (y : List Command). x ∷ y) r.is m.are;
    })

-- ---- the record

-- what is read of a valid record's bytes: it itself, all of it inside
pub record Decoded (s : Bytes) (r : Record) : Type 0 where
  pub room : 8 ≤ length s
  pub inside : CommandsIn s (read16 s 6) 8
  pub is : record_at s ≡ r

-- THE RECORD: read by their positions, the bytes of a valid record are that record
pub decoded : (s : Bytes) (r : Record) → ValidRecord r → s ≡ enc_record r → Decoded s r
unfolding enc_record record_at le
decoded s r v e =
    let n = length r.commands in
    let k = v.count in
    let cs : Bytes = enc_all enc_command r.commands in
    let e₃ = length-le 2 n in
    let w : Lies s 0 (enc_record r) = record { front = []; back = []; is = e ∙ sym (append-nil (enc_record r)); place = refl } in
    let l₀ : Lies s 0 ((84 ∷ 82 ∷ 80 ∷ 1 ∷ 0 ∷ []) ++ ((r.flags ∷ []) ++ (le16 n ++ cs))) = w in
    let l₁ : Lies s 5 ((r.flags ∷ []) ++ (le16 n ++ cs)) = lies-right (84 ∷ 82 ∷ 80 ∷ 1 ∷ 0 ∷ []) _ 5 refl l₀ in
    let l₂ : Lies s 6 (le16 n ++ cs) = lies-right (r.flags ∷ []) _ 6 refl l₁ in
    let l₃ : Lies s 8 cs = lies-right (le16 n) cs 8 (omega arith) l₂ in
    let i = lies-inside s 8 cs l₃ in
    let f : get_or s 5 0 ≡ r.flags = lies-head s 5 r.flags _ l₁ in
    let m : read16 s 6 ≡ n = lies-number s 6 2 n (omega arith) (lies-left (le16 n) cs l₂) in
    let c = commands-read s r.commands (read16 s 6) 8 m v.commands l₃ in
    record {
      room = omega arith;
      inside = c.inside;
      is = λ i. record { flags = f i; commands = c.are i };
    }

-- the same, where the check said fine
pub decoded-is : (s : Bytes) (w : IsRecord s) → Decoded s w.value
decoded-is s w = decoded s w.value w.valid w.bytes
