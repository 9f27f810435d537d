-- The result is one RESP3 value, and what is stored is within the limits, where plan and replies are: proved. specs/Kept.antt has the words. Assumes nothing.
use Rattle.std.specs.Prelude.{◌≡◌, Bool, true, false, List, [], ◌∷◌, ℕ, ◌+◌, ◌≤◌, length}
use Rattle.std.proofs.Common.{sym, ap, ◌∙◌, arith, length-append}
use Rattle.config.specs.Limits.{max_bytes, max_depth}
use Rattle.config.specs.declared.CacheMode.{CacheMode}
use Rattle.resp3.specs.Value.{Value, Values, array, none, more, deepest, Valid, Valids, encs, encode}
use Rattle.resp3.specs.Rows.{enc-is}
use Rattle.book.specs.Calls.{Storing}
use Rattle.resolving.specs.Plan.{Plan}
use Rattle.resolving.specs.Resolve.{Resolved, cause7, answered, resolve}
use Rattle.resolving.specs.Result.{result_of}
use Rattle.resolving.specs.Made.{Every, Made, AllMade, ResolvedHas, Closed}
use Rattle.resolving.specs.Kept.{Sent, Asked, Within, Storable, AllStorable, Kept}
use Rattle.resolving.proofs.MadeLaws.{resolved-has}

-- ---- the properties are closed

-- a value is no longer than the row that it begins
first_small : (v : Value) (vs : Values) → length (encode v) + length (encs vs []) ≡ length (encs (more v vs) [])
first_small v vs = sym (ap length (enc-is v (encs vs [])) ∙ length-append (encode v) (encs vs []))

-- each value of a row that is valid, not too deep and not too long is so itself
every-sent : (vs : Values) → Valids vs → deepest vs ≤ max_depth → length (encs vs []) ≤ max_bytes → Every Sent vs
every-sent none ok deep small = tt
every-sent (more v vs) ok deep small =
    let k = first_small v vs in
    (record { ok = ok.0; deep = omega arith; small = omega arith }, every-sent vs ok.1 (omega arith) (omega arith))

-- a row of valid values is valid
every-valid : (vs : Values) → Every Valid vs → Valids vs
every-valid none h = tt
every-valid (more v vs) h = (h.0, every-valid vs h.1)

-- an array's elements take less room than it does
elements-small : (vs : Values) → length (encs vs []) ≤ length (encode (array vs))
unfolding encode
elements-small vs = simp length-append (omega arith)

-- what `resolved-has` asks of the properties
limits-closed : Closed Sent Asked Valid
limits-closed =
    record {
      elements = λ vs g. let k = elements-small vs in let j = g.small in let d = g.deep in every-sent vs g.ok (omega arith) (omega arith);
      hands = λ v g. g.ok;
      unfilled = tt;
      lists = λ vs h. every-valid vs h;
    }

-- ---- the theorems

-- a store made of an asked key and a sent reply may be stored
made-storable : (s : Storing) → Made Sent Asked Valid s → Storable s
made-storable s h =
    record {
      key = rw h.wanted h.asked.key;
      command = rw h.wanted h.asked.command;
      value = record { small = rw h.value h.given.small; v = h.reply; means = record { ok = h.given.ok; deep = h.given.deep; is = h.value } };
      expiry = let a = h.asked.expiry in let b = h.expiry in omega arith;
    }

-- each of them
all-storable : (ss : List Storing) → AllMade Sent Asked Valid ss → AllStorable ss
all-storable [] h = tt
all-storable (s ∷ ss) h = (made-storable s h.0, all-storable ss h.1)

-- the result of valid answers is valid
result-valid : (transaction : Bool) (vs : Values) → Every Valid vs → Valid (result_of transaction vs)
result-valid false vs h = every-valid vs h
result-valid true vs h = (every-valid vs h, tt)

-- the same of what becomes of a plan
keeps : (transaction : Bool) (r : Resolved) → ResolvedHas Sent Asked Valid r → Kept transaction r
keeps transaction (cause7 ss) h = all-storable ss h
keeps transaction (answered vs ss) h = (result-valid transaction vs h.0, all-storable ss h.1)

-- of a plan within the limits and replies that are a value within them
pub resolved-kept : (p : Plan) (mode : CacheMode) (clock : ℕ) (v : Value) → Within p → Sent v → Kept p.transaction (resolve p mode clock v)
resolved-kept p mode clock v w s = keeps p.transaction (resolve p mode clock v) (resolved-has Sent Asked Valid limits-closed p mode clock v w s)
