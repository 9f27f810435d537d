-- `arg_idx`: an argument by its number, as in cmd.rs; and the bytes that arguments add to `cmd.data`. Assumes nothing.
use Rattle.std.specs.Prelude.{◌≡◌, Option, Some, None, cond, List, [], ◌∷◌, ℕ, zero, suc, ◌+◌, ◌-◌, eqb, length, get_or}
use Rattle.std.proofs.Common.{ap, ◌∙◌, arith, add-one, eq-eqb, ne_eqb}
use Rattle.buffer.specs.Cases.{by_test}
use Rattle.buffer.specs.Same.{Bytes}
use Rattle.buffer.specs.Part.{part}
use Rattle.buffer.specs.PartLaws.{length_part}
use Rattle.call_record.specs.Record.{Argument, simple, cursor}
use Rattle.cursor.specs.At.{range_bytes, RangeIn, argument_of, size_at, arg_at, args_at, args_of, ArgIn, own}
use Rattle.cursor.specs.Steps.{args_none, Stepped}
use Rattle.cursor.specs.declared.Arg.{Arg}
use Rattle.cursor.specs.declared.Args.{Args}
use Rattle.cursor.specs.declared.Range.{Range}

-- bytes, or nothing
pub data Text : Type 0 where
  none : Text
  text : Bytes → Text

-- an argument, with n bytes in `cmd.data` before it: a cursor is not there, nor is one where `cmd.data` is empty up to its end
abbrev pub arg_text : ℕ → Argument → Text
arg_text n (simple b) = cond (eqb (n + length b) 0) none (text b)
arg_text n cursor = none

-- argument i, with n bytes before the first
abbrev pub arg_idx_from : ℕ → List Argument → ℕ → Text
arg_idx_from n [] i = none
arg_idx_from n (a ∷ l) zero = arg_text n a
arg_idx_from n (a ∷ l) (suc i) = arg_idx_from (n + length (own a)) l i

-- argument i of a command
abbrev pub arg_idx : List Argument → ℕ → Text
arg_idx l i = arg_idx_from 0 l i

-- what `arg_idx` answers stands for: a part of the record, or nothing
abbrev pub found_text : Bytes → Option Range → Text
found_text s (Some g) = text (range_bytes s g)
found_text s None = none

abbrev pub FoundIn : Bytes → Option Range → Type 0
FoundIn s (Some g) = RangeIn s g
FoundIn s None = Unit {0}

-- ---- laws

-- an argument's own bytes are the part behind its head
pub own_is : (s : Bytes) (at : ℕ) → ArgIn s at → own (arg_at s at) ≡ part s (at + 5) (size_at s at)
unfolding part
own_is s at w = by_test (eqb (get_or s at 0) 0) (λ t. rw t) (λ t. let z = w.empty t in rw (t, z))

-- how many they are
pub own-length : (s : Bytes) (at : ℕ) → ArgIn s at → length (own (arg_at s at)) ≡ size_at s at
own-length s at w = let i = w.inside in ap length (own_is s at w) ∙ length_part s (at + 5) (size_at s at) (omega arith)

-- nothing is left
pub idx-none : (s : Bytes) (m at n i : ℕ) → m ≡ 0 → arg_idx_from n (args_at s m at) i ≡ none
idx-none s m at n i q = rw (args_none s m at q)

module _ (s : Bytes) (k : Args) (a : Arg) (r : Args) (w : Stepped s k a r) (n : ℕ) where
  -- one further
  pub idx-next : (i j : ℕ) → i ≡ j + 1 → arg_idx_from n (args_of s k) i ≡ arg_idx_from (n + length (own (argument_of s a))) (args_of s r) j
  idx-next i j p = let z : i ≡ suc j = p ∙ add-one j in rw (w.are, z)

  -- this one
  pub idx-this : arg_idx_from n (args_of s k) 0 ≡ arg_text n (argument_of s a)
  idx-this = rw w.are

-- one with bytes of its own
module _ (s : Bytes) (g : Range) (h : RangeIn s g) (n : ℕ) where
  pub text-empty : n + (g.end - g.start) ≡ 0 → arg_text n (simple (range_bytes s g)) ≡ none
  text-empty z = rw (length_part s g.start (g.end - g.start) (omega arith), eq-eqb (n + (g.end - g.start)) 0 z)

  pub text-found : (n + (g.end - g.start) ≡ 0 → ⊥) → arg_text n (simple (range_bytes s g)) ≡ text (range_bytes s g)
  text-found z = rw (length_part s g.start (g.end - g.start) (omega arith), ne_eqb (n + (g.end - g.start)) 0 z)
