-- A `Vec<Value>` that grows at its end and is assigned to by index, as values in a row. Assumes nothing.
use Rattle.std.specs.Prelude.{◌≡◌, refl, ℕ, zero, suc}
use Rattle.std.proofs.Common.{ap}
use Rattle.resp3.specs.Value.{Value, Values, none, more, count}

-- one row after the other
abbrev pub joined : Values → Values → Values
joined none ws = ws
joined (more v vs) ws = more v (joined vs ws)

-- `vec.push(w)`
abbrev pub push_back : Values → Value → Values
push_back vs w = joined vs (more w none)

-- `vec[i] = w`
abbrev pub set_at : Values → ℕ → Value → Values
set_at none i w = none
set_at (more v vs) zero w = more w vs
set_at (more v vs) (suc i) w = more v (set_at vs i w)

-- nothing added
pub joined-none : (vs : Values) → joined vs none ≡ vs
joined-none none = refl
joined-none (more v vs) = ap (more v) (joined-none vs)

-- a value in front of the second row, or at the end of the first
pub joined-push : (vs : Values) (w : Value) (ws : Values) → joined vs (more w ws) ≡ joined (push_back vs w) ws
joined-push none w ws = refl
joined-push (more v vs) w ws = ap (more v) (joined-push vs w ws)

-- a push adds one
pub count-push : (vs : Values) (w : Value) → count (push_back vs w) ≡ suc (count vs)
count-push none w = refl
count-push (more v vs) w = ap suc (count-push vs w)

-- assigning to the first value of the second row
pub set-joined : (vs : Values) (v w : Value) (ws : Values) → set_at (joined vs (more v ws)) (count vs) w ≡ joined (push_back vs w) ws
set-joined none v w ws = refl
set-joined (more u vs) v w ws = ap (more u) (set-joined vs v w ws)
