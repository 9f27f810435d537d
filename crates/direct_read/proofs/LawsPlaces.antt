-- The places of `MGET`'s keys: each waits for its own key or is filled; with values that count as the server's where it is filled, and the server's own for the
-- keys that wait, they count as the server's whole answer. Assumes both, that each value counts as equal to itself, and that each PTTL has a reply.
-- Letters: sv server, n name, k key, u a key with its command key, x client expiry.
use Rattle.std.specs.Prelude.{◌≡◌, refl, drop}
use Rattle.std.proofs.Common.{sym, ◌∙◌, subst, arith}
use Rattle.std.proofs.Math.Path.{ap}
use Prim.Native.Nat.{ℕ, suc}
use mathlib.Core.List.{List, [], ◌∷◌, ◌++◌, map, append-nil}
use Rattle.std.proofs.Math.ListN.{length}
use Rattle.buffer.specs.Same.{Bytes}
use Rattle.buffer.specs.Ascii.{ascii}
use Rattle.resp3.specs.Value.{Value, Values, none, more}
use Rattle.resp3.specs.Decode.{decode}
use Rattle.resp3.proofs.Law.{decode-law}
use Rattle.call_record.specs.Record.{Command}
use Rattle.book.specs.Book as book
use Rattle.book.specs.Book.{Answer}
use Rattle.planning.specs.Ask.{several_keys}
use Rattle.planning.specs.Outcome.{Place, filled, waiting, part_key, part_keys, wants, place_by, place, places, missing, served_values, outcome}
use Rattle.planning.specs.Sent.{Packed, keys_of, pttls}
use Rattle.planning.specs.Plan.{nodes_of}
use Rattle.plan_outcomes.specs.Outcomes.{values_given, place_given}
use Rattle.resolving.specs.Resolve.{fill}
use Rattle.demand.specs.Words.{places_in}
use Rattle.demand.proofs.Places.{got_of, command-places}
use Rattle.direct_read.specs.Server.{Server, read_of, RepliedAll, ServedAs, ServedBy, EachLike}

-- ---- which key a place waits for

-- each place is filled, or waits for the key at its place
unfoldable pub Placed : List Bytes → List Place → Type 0
Placed [] [] = Unit {0}
Placed [] (pl ∷ ps) = ⊥
Placed (k ∷ ks) [] = ⊥
Placed (k ∷ ks) (filled v ∷ ps) = Placed ks ps
Placed (k ∷ ks) (waiting u ∷ ps) = (u.key ≡ k) × Placed ks ps

-- with one key more
place-placed : (n : Bytes) (path : List Bytes) (k : Bytes) (said : List Answer) (ks : List Bytes) (ps : List Place) → Placed ks ps
    → Placed (k ∷ ks) (place said (part_key n path k) ∷ ps)
unfolding Placed place place_by part_key
place-placed n path k [] ks ps w = (refl, w)
place-placed n path k (book.hit v ∷ said) ks ps w = w
place-placed n path k (book.miss ∷ said) ks ps w = (refl, w)
place-placed n path k (book.stored ∷ said) ks ps w = (refl, w)
place-placed n path k (book.no_space ∷ said) ks ps w = (refl, w)
place-placed n path k (book.invalidated ∷ said) ks ps w = (refl, w)
place-placed n path k (book.number i ∷ said) ks ps w = (refl, w)

-- of all keys, whatever the answers to their lookups
pub places-placed : (n : Bytes) (path : List Bytes) (ks : List Bytes) (said : List Answer) → Placed ks (places said (part_keys n path ks))
unfolding places part_keys Placed
places-placed n path [] said = tt
places-placed n path (k ∷ ks) said =
    place-placed n path k said ks (places (drop 1 said) (part_keys n path ks)) (places-placed n path ks (drop 1 said))

-- the plan shows these places
pub mget-places : (c : Command) (ks : List Bytes) (x : ℕ) (said : List Answer)
    → places_in (nodes_of (outcome c (several_keys (ascii "MGET") ks [] x) said) ++ []) ≡ map got_of (places said (part_keys (ascii "MGET") [] ks))
mget-places c ks x said =
    command-places c (several_keys (ascii "MGET") ks [] x) said []
    ∙ (unfold wants places_in in append-nil (map got_of (places said (part_keys (ascii "MGET") [] ks))))

-- ---- what fills them

module _ (R : Value → Value → Type 0) where
  -- what served bytes are read as counts as equal to what the server has
  pub served-like : (v : Bytes) (a : Value) → ServedAs R v a → R (decode v) a
  served-like v a s = subst (λ (z : Value). R z a) (sym (decode-law v s.value s.means)) s.like

  -- each value counts as equal to itself: so do the values of a row
  pub each-itself : ((v : Value) → R v v) → (vs : Values) → EachLike R vs vs
  unfolding EachLike
  each-itself alike none = tt
  each-itself alike (more v vs) = (alike v, each-itself alike vs)

module _ (R : Value → Value → Type 0) (sv : Server) where
  -- all served: their values count as the server's
  pub all-served : (ks : List Bytes) (ps : List Place) → Placed ks ps → ServedBy R sv ks (map got_of ps) → missing ps ≡ []
      → EachLike R (values_given (served_values ps)) (read_of sv ks)
  unfolding Placed ServedBy EachLike got_of missing values_given served_values read_of
  all-served [] [] w s q = tt
  all-served [] (pl ∷ ps) w s q = absurd w
  all-served (k ∷ ks) [] w s q = absurd w
  all-served (k ∷ ks) (filled v ∷ ps) w s q = (served-like R v (sv k) s.0, all-served ks ps w s.1 q)
  all-served (k ∷ ks) (waiting u ∷ ps) w s q = absurd (let z : suc (length (missing ps)) ≡ 0 = ap length q in omega arith)

  -- some missing: the server's values for these, and a reply to each of their PTTLs, fill the places (others may stand behind the PTTLs)
  module _ (alike : (v : Value) → R v v) (S : Packed → Value → Type 0) (clock x : ℕ) (others : List Packed) where
    pub some-missing : (ks : List Bytes) (ps : List Place) (rs : Values) → Placed ks ps → ServedBy R sv ks (map got_of ps)
        → RepliedAll S (pttls (keys_of (missing ps)) ++ others) rs
        → EachLike R (fill clock (map (place_given x) ps) (read_of sv (keys_of (missing ps))) rs).places (read_of sv ks)
    unfolding Placed ServedBy EachLike got_of missing keys_of pttls RepliedAll read_of place_given
    some-missing [] [] rs w s r = tt
    some-missing [] (pl ∷ ps) rs w s r = absurd w
    some-missing (k ∷ ks) [] rs w s r = absurd w
    some-missing (k ∷ ks) (filled v ∷ ps) rs w s r = (served-like R v (sv k) s.0, some-missing ks ps rs w s.1 r)
    some-missing (k ∷ ks) (waiting u ∷ ps) none w s r = absurd r
    some-missing (k ∷ ks) (waiting u ∷ ps) (more p rs) w s r =
        (subst (λ (j : Bytes). R (sv u.key) (sv j)) w.0 (alike (sv u.key)), some-missing ks ps rs w.1 s r.1)
