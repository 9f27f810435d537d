-- One key more: what a turn of a loop over several keys means for the places that are left; and how many keys there can be. Assumes nothing.
use Rattle.std.specs.Prelude.{◌≡◌, refl, List, [], ◌∷◌, length, take}
use Rattle.std.proofs.Common.{sym, ap, ◌∙◌, arith}
use Prim.Native.Nat.{ℕ, zero, suc, ◌+◌, ◌*◌, ◌≤◌}
use Rattle.std.proofs.Math.Numerals.{add-one}
use Rattle.buffer.specs.Same.{Bytes}
use Rattle.config.specs.declared.Settings.{Settings}
use Rattle.cursor.specs.At.{next_at, args_at, args_of, ArgsIn}
use Rattle.cursor.specs.Steps.{in_start, in-more, args_none, args_more}
use Rattle.cursor.specs.declared.Args.{Args}
use Rattle.book.specs.Book.{Row}
use Rattle.planning.specs.Outcome.{Place, part_keys}
use Rattle.planning.proofs.Small.{simples-count}
use Rattle.planning_ask.specs.Asked.{several_name, path_in, simples_of, SeveralIn, KeyStep}
use Rattle.planning_ask.specs.declared.KeyAt.{KeyAt}
use Rattle.planning_ask.specs.declared.Several.{Several}
use Rattle.sharded_lru.specs.Lent.{setup_now}
use Rattle.planning_outcome.specs.Result.{places_on}
use Rattle.planning_places.specs.Pieces.{place_at}

module _ (g : Settings) (rows : ℕ → Row) (t e : ℕ) (s : Bytes) (v : Several) where
  -- the places of the first n simple arguments before a cursor
  abbrev pub places_from : Args → ℕ → List Place
  places_from k n = places_on (setup_now g) rows t e (part_keys (several_name v.json) (path_in s v) (take n (simples_of s k)))

  -- none are left
  pub places-none : (k : Args) (n : ℕ) → n ≡ 0 → places_from k n ≡ []
  unfolding places_on part_keys
  places-none k n q = rw q

  -- the first, and the others
  pub places-more : (k : Args) (r : KeyAt) (n m : ℕ) → n ≡ m + 1 → KeyStep s k r → places_from k n ≡ place_at g rows t e s v r.key ∷ places_from r.rest m
  unfolding places_on part_keys
  places-more k r n m q w = let z : n ≡ suc m = q ∙ add-one m in rw (z, w.is)

-- as many simple arguments are left as keys
pub enough-more : (s : Bytes) (k : Args) (r : KeyAt) (n m : ℕ) → n ≡ m + 1 → KeyStep s k r → n ≤ length (simples_of s k) → m ≤ length (simples_of s r.rest)
enough-more s k r n m q w h = let l = ap length w.is in omega arith

-- ---- how many keys there can be

-- an argument takes 5 bytes at least
args-few : (s : Bytes) (n at : ℕ) → ArgsIn s n at → at + 5 * n ≤ length s
args-few s zero at w = let i = in_start s zero at w in omega arith
args-few s (suc n) at w = let v = in-more s (suc n) n at (sym (add-one n)) w in let i = args-few s n (next_at s at) v.1 in omega arith

-- as many arguments as were asked for
args_count : (s : Bytes) (n at : ℕ) → length (args_at s n at) ≡ n
args_count s zero at = ap length (args_none s zero at refl)
args_count s (suc n) at = ap length (args_more s (suc n) n at (sym (add-one n))) ∙ ap suc (args_count s n (next_at s at))

-- no more keys than bytes
pub keys-few : (s : Bytes) (v : Several) → SeveralIn s v → v.keys ≤ length s
keys-few s v w =
    let k = v.args in
    let a = args-few s k.left k.at w.here in
    let b = args_count s k.left k.at in
    let c = simples-count (args_of s k) in
    let d = w.enough in
    omega arith
