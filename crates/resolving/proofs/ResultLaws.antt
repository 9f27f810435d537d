-- The result written out, and that it has an answer for each command. Assumes nothing.
-- (Where a definition changes, a worked case is to say so first: this file cites one.)
use Rattle.std.specs.Prelude.{◌≡◌, refl, true, false, List, [], ◌∷◌, ℕ, suc, length}
use Rattle.std.proofs.Common.{ap, subst}
use Rattle.std.proofs.Math.Option.{Option, some}
use Rattle.std.proofs.Math.Option as option
use Prim.Native.Char.{code}
use Rattle.config.specs.declared.CacheMode.{CacheMode}
use Rattle.resp3.specs.Value.{Value, Values, count, counted, encs, encode}
use Rattle.book.specs.Calls.{Storing}
use Rattle.resolving.specs.Plan.{Command, Plan}
use Rattle.resolving.specs.Convert.{replies_of}
use Rattle.resolving.specs.Resolve.{Outcome, wrong, gives, take_command, Resolved, cause7, answered, behind, go_on, take_commands, from_replies, resolve}
use Rattle.resolving.specs.Result.{result_bytes}

-- `*n` and the answers, one after the other
pub result-written : (answers : Values) → result_bytes false answers ≡ code "*" ∷ counted (count answers) (encs answers [])
unfolding result_bytes encode
result-written answers = refl

-- in a transaction the same inside `*1`
pub result-wrapped : (answers : Values) → result_bytes true answers ≡ code "*" ∷ counted 1 (result_bytes false answers)
unfolding result_bytes encode
result-wrapped answers = refl

-- the answers, where there are answers, are n
abbrev Many : ℕ → Resolved → Type 0
Many n (cause7 ss) = Unit {0}
Many n (answered vs ss) = count vs ≡ n

-- one command more, one answer more
one_more : (n : ℕ) (v : Value) (ss : List Storing) (r : Resolved) → Many n r → Many (suc n) (behind v ss r)
one_more n v ss (cause7 later) h = tt
one_more n v ss (answered vs later) h = ap suc h

-- an answer for each of some commands
many-commands : (mode : CacheMode) (clock : ℕ) (cs : List Command) (rs : Values) → Many (length cs) (take_commands mode clock cs rs)
many-commands mode clock [] rs = refl
many-commands mode clock (c ∷ cs) rs = go (take_command mode clock c rs) (λ q. many-commands mode clock cs q)
  where
    go : (o : Outcome) → ((q : Values) → Many (length cs) (take_commands mode clock cs q)) → Many (suc (length cs)) (go_on o (λ q. take_commands mode clock cs q))
    go wrong h = tt
    go (gives v ss q) h = one_more (length cs) v ss (take_commands mode clock cs q) (h q)

-- there are as many answers as the plan has commands
pub as_many : (p : Plan) (mode : CacheMode) (clock : ℕ) (v : Value) (answers : Values) (ss : List Storing)
    → resolve p mode clock v ≡ answered answers ss → count answers ≡ length p.commands
unfolding resolve
as_many p mode clock v answers ss e = subst (Many (length p.commands)) e (go (replies_of p.transaction v))
  where
    go : (o : Option Values) → Many (length p.commands) (from_replies o (λ rs. take_commands mode clock p.commands rs))
    go option.none = tt
    go (some rs) = many-commands mode clock p.commands rs
