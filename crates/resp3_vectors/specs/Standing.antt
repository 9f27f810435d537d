-- A cursor that stands in a list, before some of its elements. Assumes nothing.
use Rattle.std.specs.Prelude.{◌≡◌, ◌+◌, ◌<◌, Option, Some}
use Rattle.std.proofs.Math.Option.{some}
use Rattle.std.proofs.Math.Option as option
use Rattle.std.proofs.Common.{arith}
use Rattle.buffer.specs.Same.{Bytes}
use Rattle.resp3.specs.Value.{Value, Values, none, more}
use Rattle.resp3_element.specs.declared.Cursor.{Cursor}
use Rattle.resp3_element.specs.Meaning.{Stands, Holds}

-- the cursor stands before some values
pub record Standing (s : Bytes) (c : Cursor) : Type 0 where
  pub vs : Values
  pub stands : Stands s c vs

-- the elements that were found
pub standing : (s : Bytes) (x : Option Cursor) (c : Cursor) (o : option.Option Values) → x ≡ Some c → Holds s x o → Standing s c
standing s x c o e h = go o (rw e at h)
  where
    go : (o : option.Option Values) → Holds s (Some c) o → Standing s c
    go (some vs) g = record { vs = vs; stands = g }
    go option.none g = absurd g

-- d stands one element further than c
pub record Further (s : Bytes) (c d : Cursor) : Type 0 where
  pub at : Standing s d
  pub less : d.left < c.left
  pub one : c.left ≡ d.left + 1

-- so does the cursor that `next` answers
pub further : (s : Bytes) (c d : Cursor) → Standing s c → 0 < c.left → ((v : Value) (vs : Values) → Stands s c (more v vs) → Stands s d vs) → Further s c d
further s c d w l f = go w.vs w.stands
  where
    go : (vs : Values) → Stands s c vs → Further s c d
    go none g = absurd (omega (arith, g.left))
    go (more v vs) g =
        let k = f v vs g in record { at = record { vs = vs; stands = k }; less = omega (arith, g.left, k.left); one = omega (arith, g.left, k.left) }
