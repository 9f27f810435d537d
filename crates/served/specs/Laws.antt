-- The passes of resolving over no replies find and write what the definitions of Served.antt say. Assumes nothing.
-- (Where a definition changes, a worked case is to say so first: this file cites one.)
use Rattle.std.proofs.Math.Path.{◌≡◌}
use Rattle.std.specs.Prelude.{Bool, true, false, List, [], ℕ, ◌+◌, length}
use Rattle.std.proofs.Math.Option.{Option, some}
use Rattle.std.proofs.Math.Option as option
use Rattle.buffer.specs.Same.{Bytes}
use Rattle.buffer.specs.Part.{part, put}
use Rattle.config.specs.declared.CacheMode.TheVariants.{All}
use Rattle.resp3.specs.Value.{Value, Values, array, none, more}
use Rattle.planning.specs.Plan as nodes
use Rattle.resolving.specs.Resolve.{Resolved, cause7, answered}
use Rattle.resolving_walk.specs.Walk.{walk}
use Rattle.resolving_walk.specs.Same.{result_head}
use Rattle.resolving_step.specs.declared.Walk.{Walk}
use Rattle.resolving_passes.specs.Passes.{Starts, answer_bytes}
use Rattle.resp3_element.specs.declared.Cursor.{Cursor}

-- what becomes of commands that are given no replies, by their answers
abbrev pub unreplied : Option Values → Resolved
unreplied option.none = cause7 []
unreplied (some vs) = answered vs []

-- no replies at all, as one value: the empty array, in a transaction as the only reply
abbrev pub no_list : Bool → Value
no_list false = array none
no_list true = array (more (array none) none)

-- no bytes of replies, lent as a part of the plan
abbrev pub no_replies : Bytes → Bytes
no_replies plan = part plan 0 0

abbrev pub no_cursor : Cursor
no_cursor = record { at = 0; end = 0; left = 0 }

-- what was written of a result
abbrev pub WrittenFrom : Bytes → Bytes → Walk → Bool → ℕ → Bytes → Bytes → ℕ → Type 0
WrittenFrom p s c transaction n buffer after r =
    (ns : List nodes.Node) (es rs : Values) → Starts p s c ns es rs
    → (r ≡ length (result_head transaction n) + length (answer_bytes (walk All 0 ns es rs)))
    × (after ≡ put (put buffer 0 (result_head transaction n)) (length (result_head transaction n)) (answer_bytes (walk All 0 ns es rs)))
