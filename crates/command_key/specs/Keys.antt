-- By the cases of a command key: what lies inside, and which bytes it stands for. Assumes nothing.
use Rattle.std.specs.Prelude.{◌≡◌, refl, Bool, [], ◌∷◌, ◌++◌, ◌-◌, ◌≤◌, length, take, drop}
use Rattle.std.proofs.Math.Path.{sym}
use Rattle.std.proofs.Common.{ap, ◌∙◌, append-nil, arith}
use Rattle.buffer.specs.Same.{Bytes}
use Rattle.buffer.specs.Part.{part}
use Rattle.buffer.specs.PartLaws.{length_part}
use Rattle.config.specs.Limits.{max_bytes}
use Rattle.call_record.specs.Record.{simple}
use Rattle.cursor.specs.At.{range_bytes, RangeIn, args_of, ArgsHere}
use Rattle.cursor.specs.declared.Args.{Args}
use Rattle.cursor.specs.declared.Range.{Range}
use Rattle.command_key.specs.Key.{command_key, name_bytes, key_bytes, KeyIn}
use Rattle.command_key.specs.declared.CommandKey.{CommandKey}
use Rattle.command_key.specs.declared.CommandKey.TheVariants.{Part, Joined, Named}

-- a path that is empty adds nothing, so that `GET` has one as well
pub named-joined : (n k p : Bytes) → command_key (simple n ∷ (simple k ∷ (simple p ∷ []))) ≡ n ++ (k ++ p)
unfolding command_key
named-joined n k p = ap (λ (z : Bytes). n ++ (k ++ z)) (append-nil p)

-- the bytes of a range, as they are cut out, and how many they are
pub range_length : (s : Bytes) (g : Range) → RangeIn s g → length (range_bytes s g) ≡ g.end - g.start
range_length s g w = let a = w.0 in let b = w.1 in length_part s g.start (g.end - g.start) (omega arith)

-- what is cut out
abbrev pub cut_of : Bytes → Range → Bytes
cut_of s g = take (g.end - g.start) (drop g.start s)

-- it is the range
pub range-cut : (s : Bytes) (g : Range) → cut_of s g ≡ range_bytes s g
unfolding part
range-cut s g = refl

-- how long it is
pub cut-length : (s : Bytes) (g : Range) → RangeIn s g → length (cut_of s g) ≡ g.end - g.start
cut-length s g w = ap length (range-cut s g) ∙ range_length s g w

-- ---- by cases

module _ (s : Bytes) (key : CommandKey) (w : KeyIn s key) where
  pub part_in : (g : Range) → key ≡ Part g → RangeIn s g
  unfolding KeyIn
  part_in g e = rw e at w

  -- a range is the range
  pub part_bytes : (g : Range) → key ≡ Part g → range_bytes s g ≡ key_bytes s key
  unfolding key_bytes
  part_bytes g e = rw e

  -- the arguments lie inside
  pub joined_in : (k : Args) → key ≡ Joined k → ArgsHere s k
  unfolding KeyIn
  joined_in k e = rw e at w

  -- they are joined
  pub joined_bytes : (k : Args) → key ≡ Joined k → command_key (args_of s k) ≡ key_bytes s key
  unfolding key_bytes
  joined_bytes k e = rw e

  -- key and path lie inside
  pub named_in : (json : Bool) (g p : Range) → key ≡ Named json g p → RangeIn s g × RangeIn s p × (length s ≤ max_bytes)
  unfolding KeyIn
  named_in json g p e = rw e at w

  -- name, key and path
  pub named-bytes : (json : Bool) (g p : Range) → key ≡ Named json g p → name_bytes json ++ (range_bytes s g ++ range_bytes s p) ≡ key_bytes s key
  unfolding key_bytes
  named-bytes json g p e = sym (named-joined (name_bytes json) (range_bytes s g) (range_bytes s p)) ∙ rw e
