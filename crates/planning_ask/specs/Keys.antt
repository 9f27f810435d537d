-- Names of several-key commands, and command keys as this code gathers them: they are planning's. Assumes nothing.
use Rattle.std.specs.Prelude.{◌≡◌, refl, Bool, true, false, ◌++◌, ℕ, Option, None, Some}
use Rattle.std.proofs.Common.{sym, ap₂, ◌∙◌, arith}
use Rattle.buffer.specs.Cases.{by_test}
use Rattle.buffer.specs.Same.{Bytes, same}
use Rattle.buffer.specs.SameLaws.{same-eq}
use Rattle.buffer.specs.Ascii.{ascii}
use Rattle.commands.specs.MultiKey.{multi_key, single_name}
use Rattle.commands.specs.declared.MultiKey.{MultiKey}
use Rattle.commands.specs.declared.MultiKey.TheVariants.{Mget, JsonMget}
use Rattle.cursor.specs.At.{range_bytes, command_of}
use Rattle.cursor.specs.declared.Head.{Head}
use Rattle.cursor.specs.declared.Range.{Range}
use Rattle.command_key.specs.Key as key
use Rattle.command_key.specs.Keys.{named-joined}
use Rattle.command_key.specs.declared.CommandKey.TheVariants.{Joined, Named}
use Rattle.planning.specs.Outcome.{whole_key, part_key}
use Rattle.planning_ask.specs.Asked.{several_name, path_in, SeveralIn}
use Rattle.planning_ask.specs.declared.Several.{Several}

-- ---- names

-- of which command
abbrev pub several_of : Bool → Option MultiKey
several_of true = Some JsonMget
several_of false = Some Mget

-- the name is the command's
pub several-name : (n : Bytes) (json : Bool) → multi_key n ≡ several_of json → several_name json ≡ n
unfolding multi_key several_name
several-name n true q =
    by_test (same n (ascii "MGET")) (λ t. let y : Some Mget ≡ Some JsonMget = rw t at q in let z : ◌≡◌ {A = ℕ} 0 1 = cc in absurd (omega arith))
    (λ t. by_test (same n (ascii "JSON.MGET")) (λ u. sym (same-eq _ _ u))
    (λ u. let y : None ≡ Some JsonMget = rw (t, u) at q in let z : ◌≡◌ {A = ℕ} 0 1 = cc in absurd (omega arith)))
several-name n false q =
    by_test (same n (ascii "MGET")) (λ t. sym (same-eq _ _ t))
    (λ t. by_test (same n (ascii "JSON.MGET")) (λ u. let y : Some JsonMget ≡ Some Mget = rw (t, u) at q in let z : ◌≡◌ {A = ℕ} 0 1 = cc in absurd (omega arith))
    (λ u. let y : None ≡ Some Mget = rw (t, u) at q in let z : ◌≡◌ {A = ℕ} 0 1 = cc in absurd (omega arith)))

-- what one of its keys is asked for by
single-name : (json : Bool) → single_name (multi_key (several_name json)) ≡ key.name_bytes json
unfolding multi_key several_name single_name key.name_bytes same
single-name true = refl
single-name false = refl

-- ---- command keys

-- one key
pub whole-key : (s : Bytes) (h : Head) (k : Bytes) → (whole_key (command_of s h) k).command ≡ key.key_bytes s (Joined h.args)
unfolding whole_key key.key_bytes
whole-key s h k = refl

-- one of several
pub part-key : (s : Bytes) (v : Several) (k : Range) → SeveralIn s v
    → (part_key (several_name v.json) (path_in s v) (range_bytes s k)).command ≡ key.key_bytes s (Named v.json k v.path)
unfolding part_key key.key_bytes key.command_key
part-key s v k w =
    ap₂ (λ (x : Bytes) (y : Bytes). x ++ (range_bytes s k ++ y)) (single-name v.json) w.joins
    ∙ sym (named-joined (key.name_bytes v.json) (range_bytes s k) (range_bytes s v.path))
