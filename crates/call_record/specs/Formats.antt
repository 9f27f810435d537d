-- The record's format: how an argument, a command and the record are read, put together from the formats of the crate `format`, so that
-- the laws of reading come with them. Assumes nothing.
use Rattle.std.specs.Prelude.{◌≡◌, refl, Bool, true, false, cond, List, [], ◌∷◌, ◌++◌, ℕ, ◌/◌, ◌%◌, ◌^◌, ◌≤◌, ◌<◌, eqb, leb, ltb, length}
use Rattle.std.proofs.Common.{sym, ap, ◌∙◌, true≢false, append-nil, arith, lt-ltb, ltb-true, le-leb, leb-true, leb-false, eqb-true}
use Rattle.std.proofs.lemmas.Bool.{false≢true, eqb-false}
use Rattle.buffer.specs.Cases.{by_test}
use Rattle.buffer.specs.Field.{le}
use Rattle.config.specs.Limits.{max_commands, max_arguments, max_argument}
use Rattle.format.specs.Format.{Format, byte_f}
use Rattle.format.specs.Both.{both_f}
use Rattle.format.specs.Map.{From, map_f}
use Rattle.format.specs.Numbers.{number_f}
use Rattle.format.specs.Words.{word_f, list_f, text_f}
use Rattle.call_record.specs.Record.{Argument, simple, cursor, Command, Record, bit, enc_argument, enc_command, enc_record, ValidArgument}
use Rattle.call_record.specs.Record.{ValidCommand, ValidRecord}

-- ---- arguments

-- how long an argument's text may be: a cursor has none
abbrev pub text_max : Bool → ℕ
text_max true = max_argument
text_max false = 0

-- four bytes hold it
pub text-fits : (b : Bool) → text_max b < 256 ^ 4
text-fits true = omega arith
text-fits false = omega arith

-- length and bytes
abbrev pub body_f : Bool → Format (List ℕ)
body_f b = text_f 4 (text_max b) (text-fits b)

-- 0 or 1
abbrev pub kind_b : ℕ → Bool
kind_b k = ltb k 2

abbrev pub KindBody : Format (ℕ × List ℕ)
KindBody = both_f (byte_f kind_b 0 refl) (λ k. body_f (eqb k 0))

-- an argument by its kind
abbrev pub argument_if : Bool → List ℕ → Argument
argument_if true l = simple l
argument_if false l = cursor

-- an argument from kind and bytes
abbrev pub argument_of : ℕ × List ℕ → Argument
argument_of x = argument_if (eqb x.0 0) x.1

-- no bytes
no_text : (l : List ℕ) → length l ≤ 0 → l ≡ []
no_text [] h = refl
no_text (x ∷ l) h = absurd (omega arith)

-- its bytes are those of the record
pub arg-written : (x : ℕ × List ℕ) → KindBody.valid x → enc_argument (argument_of x) ≡ KindBody.enc x
unfolding enc_argument
arg-written (k, l) h = go (eqb k 0) refl h.1
  where
    one_left : (k : ℕ) → k < 2 → (k ≡ 0 → ⊥) → 1 ≡ k
    one_left k z n = omega arith

    go : (b : Bool) → eqb k 0 ≡ b → (body_f b).valid l → enc_argument (argument_if b l) ≡ k ∷ (body_f b).enc l
    go true e v = ap (λ (n : ℕ). n ∷ (le 4 (length l) ++ l)) (sym (eqb-true k 0 e))
    go false e v =
        let z : l ≡ [] = no_text l v.0 in
        rw (z, append-nil (le 4 0)) (ap (λ (n : ℕ). n ∷ le 4 0) (one_left k (ltb-true k 2 h.0) (eqb-false k 0 e)))

-- it is valid
pub arg_kept : (x : ℕ × List ℕ) → KindBody.valid x → ValidArgument (argument_of x)
unfolding ValidArgument
arg_kept (k, l) h = go (eqb k 0) h.1
  where
    go : (b : Bool) → (body_f b).valid l → ValidArgument (argument_if b l)
    go true v = v
    go false v = tt

-- every valid argument is read so
pub arg-onto : (a : Argument) → ValidArgument a → From KindBody.valid argument_of a
unfolding ValidArgument
arg-onto (simple l) h = record { value = (0, l); fine = (refl, h); same = refl }
arg-onto cursor h = record { value = (1, []); fine = (refl, (omega arith, tt)); same = refl }

-- the format of an argument
abbrev pub argument_f : Format Argument
argument_f = map_f KindBody argument_of enc_argument ValidArgument arg-written arg_kept arg-onto

-- ---- commands

-- only bits 0 to 3; without bit 1 not bits 2 and 3
abbrev pub flags_b : ℕ → Bool
flags_b f = cond (leb f 15) (cond (bit 1 f) true (leb f 3)) false

-- what the test says, bit by bit
pub record Flags (f : ℕ) : Type 0 where
  pub low : f < 16
  pub enable : bit 2 f ≡ true → bit 1 f ≡ true
  pub client : bit 3 f ≡ true → bit 1 f ≡ true

-- the test says so
pub flags-are : (f : ℕ) → flags_b f ≡ true → Flags f
flags-are f e =
    by_test (leb f 15)
    (λ t. let l = leb-true f 15 t in
    by_test (bit 1 f)
    (λ u. record { low = omega arith; enable = λ z. u; client = λ z. u })
    (λ u. let k : leb f 3 ≡ true = rw (t, u) at e in
    let h = leb-true f 3 k in
    record {
      low = omega arith;
      enable = λ z. let i : f / 4 % 2 ≡ 1 = eqb-true _ _ z in absurd (omega arith);
      client = λ z. let i : f / 8 % 2 ≡ 1 = eqb-true _ _ z in absurd (omega arith);
    }))
    (λ t. let k : false ≡ true = rw t at e in absurd (false≢true k))

-- and only then
pub are-flags : (f : ℕ) → Flags f → flags_b f ≡ true
are-flags f w =
    let l = w.low in
    rw (le-leb f 15 (omega arith))
    (by_test (bit 1 f)
    (λ u. rw u)
    (λ u. rw u
    (by_test (bit 2 f)
    (λ v. absurd (false≢true (sym u ∙ w.enable v)))
    (λ v. by_test (bit 3 f)
    (λ x. absurd (false≢true (sym u ∙ w.client x)))
    (λ x. le-leb f 3 (low f l (eqb-false _ _ v) (eqb-false _ _ x)))))))
  where
    high : (g : ℕ) → 1 ≤ g → g ≤ 3 → (g % 2 ≡ 1 → ⊥) → (g / 2 % 2 ≡ 1 → ⊥) → ⊥
    high g l k a b = omega arith

    low : (f : ℕ) → f < 16 → (f / 4 % 2 ≡ 1 → ⊥) → (f / 8 % 2 ≡ 1 → ⊥) → f ≤ 3
    low f l a b =
        let c : f / 8 ≡ f / 4 / 2 = omega arith in
        by_test (leb f 3) (λ t. leb-true f 3 t) (λ t. absurd (high (f / 4) (let i = leb-false f 3 t in omega arith) (omega arith) a (λ z. b (rw c z))))

-- the largest TTL: 0 where there is none
abbrev pub ttl_max : Bool → ℕ
ttl_max true = 18446744073709551615
ttl_max false = 0

-- eight bytes hold it
pub ttl-fits : (b : Bool) → ttl_max b < 256 ^ 8
ttl-fits true = omega arith
ttl-fits false = omega arith

-- a TTL, by whether there is one
abbrev pub ttl_f : Bool → Format ℕ
ttl_f b = number_f 8 (ttl_max b) (ttl-fits b)

-- two bytes hold a count
pub count_fits : 1024 < 256 ^ 2
count_fits = omega arith

-- the arguments behind their count
abbrev pub arguments_f : Format (List Argument)
arguments_f = list_f 2 max_arguments count_fits argument_f

-- a cursor, and the arguments
abbrev pub CursorArgs : Format (ℕ × List Argument)
CursorArgs = both_f (ttl_f true) (λ c. arguments_f)

-- what follows the flags
abbrev pub after_flags : ℕ → Format (ℕ × (ℕ × List Argument))
after_flags f = both_f (ttl_f (bit 3 f)) (λ t. CursorArgs)

abbrev pub CommandParts : Format (ℕ × (ℕ × (ℕ × List Argument)))
CommandParts = both_f (byte_f flags_b 0 refl) after_flags

-- a command from its fields
abbrev pub command_of : ℕ × (ℕ × (ℕ × List Argument)) → Command
command_of x = record { flags = x.0; ttl = x.1.0; cursor = x.1.1.0; args = x.1.1.1 }

-- what a TTL may be
ttl-valid : (b : Bool) (n : ℕ) → n ≤ ttl_max b → (n < 2 ^ 64) × (b ≡ false → n ≡ 0)
ttl-valid true n h = (omega arith, λ e. absurd (true≢false e))
ttl-valid false n h = (omega arith, λ e. omega arith)

-- and conversely
valid-ttl : (b : Bool) (n : ℕ) → n < 2 ^ 64 → (b ≡ false → n ≡ 0) → n ≤ ttl_max b
valid-ttl true n h z = omega arith
valid-ttl false n h z = let y = z refl in omega arith

-- its bytes are those of the record
pub com-written : (x : ℕ × (ℕ × (ℕ × List Argument))) → CommandParts.valid x → enc_command (command_of x) ≡ CommandParts.enc x
unfolding enc_command
com-written x h = refl

-- it is valid
pub com-kept : (x : ℕ × (ℕ × (ℕ × List Argument))) → CommandParts.valid x → ValidCommand (command_of x)
com-kept x h =
    let t = ttl-valid (bit 3 x.0) x.1.0 h.1.0 in
    let f = flags-are x.0 h.0 in
    record {
      flags = f.low;
      enable = f.enable;
      client = f.client;
      no-ttl = t.1;
      ttl = t.0;
      cursor = (ttl-valid true x.1.1.0 h.1.1.0).0;
      count = h.1.1.1.0;
      args = h.1.1.1.1;
    }

-- every valid command is read so
pub com-onto : (c : Command) → ValidCommand c → From CommandParts.valid command_of c
com-onto c v =
    record {
      value = (c.flags, (c.ttl, (c.cursor, c.args)));
      fine = (
        are-flags c.flags (record { low = v.flags; enable = v.enable; client = v.client }),
        (
          valid-ttl (bit 3 c.flags) c.ttl v.ttl v.no-ttl,
          (valid-ttl true c.cursor v.cursor (λ e. absurd (true≢false e)), (v.count, v.args)),
        ),
      );
      same = refl;
    }

-- the format of a command
abbrev pub command_f : Format Command
command_f = map_f CommandParts command_of enc_command ValidCommand com-written com-kept com-onto

-- ---- the record

-- the mark and the version, which are always the same
abbrev pub start : List ℕ
start = 84 ∷ 82 ∷ 80 ∷ 1 ∷ 0 ∷ []

-- only bit 0
abbrev pub head_b : ℕ → Bool
head_b f = ltb f 2

-- the commands behind their count
abbrev pub commands_f : Format (List Command)
commands_f = list_f 2 max_commands count_fits command_f

-- flags and commands
abbrev pub FlagsCommands : Format (ℕ × List Command)
FlagsCommands = both_f (byte_f head_b 0 refl) (λ f. commands_f)

abbrev pub RecordParts : Format (Unit {0} × (ℕ × List Command))
RecordParts = both_f (word_f start) (λ u. FlagsCommands)

-- a record from its fields
abbrev pub record_of : Unit {0} × (ℕ × List Command) → Record
record_of x = record { flags = x.1.0; commands = x.1.1 }

-- its bytes
pub rec-written : (x : Unit {0} × (ℕ × List Command)) → RecordParts.valid x → enc_record (record_of x) ≡ RecordParts.enc x
unfolding enc_record le
rec-written x h = refl

-- it is valid
pub rec-kept : (x : Unit {0} × (ℕ × List Command)) → RecordParts.valid x → ValidRecord (record_of x)
rec-kept x h = record { flags = ltb-true _ _ h.1.0; count = h.1.1.0; commands = h.1.1.1 }

-- every valid record is read so
pub rec-onto : (r : Record) → ValidRecord r → From RecordParts.valid record_of r
rec-onto r v =
    record {
      value = (tt, (r.flags, r.commands));
      fine = (tt, (lt-ltb r.flags 2 v.flags, (v.count, v.commands)));
      same = refl;
    }

-- the format of a record
abbrev pub record_f : Format Record
record_f = map_f RecordParts record_of enc_record ValidRecord rec-written rec-kept rec-onto
