-- One `MGET`, from what planning asks for it to its answer: whatever its outcome is, resolving answers with what counts as the server's whole answer. Assumes
-- that every served value counts as the server's at its place, that the replies are the server's to what is sent, and that each value counts as itself.
-- Letters: sv server, k key, c command, x client expiry, m mode, o the keys that are missing.
use Rattle.std.specs.Prelude.{◌≡◌, ℕ, get_or}
use Rattle.std.proofs.Math.Path.{refl, ap}
use Rattle.std.proofs.Common.{◌∙◌, subst, arith}
use mathlib.Core.List.{List, [], ◌∷◌, ◌++◌, map, append-nil}
use Rattle.buffer.specs.Same.{Bytes}
use Rattle.buffer.specs.Ascii.{ascii}
use Rattle.config.specs.declared.CacheMode.{CacheMode}
use Rattle.resp3.specs.Value.{Value, array, Values, none, more}
use Rattle.call_record.specs.Record.{simple, Command}
use Rattle.book.specs.Book.{Answer}
use Rattle.book.specs.Calls.{Wanted}
use Rattle.planning.specs.Ask.{Ask, several_keys}
use Rattle.planning.specs.Outcome.{Place, item, multiple, as_simple, part_keys, places, missing, served_values, multiple_item, outcome}
use Rattle.planning.specs.Sent.{Packed, itself, keys_of, packs, sends}
use Rattle.planning.specs.Plan.{nodes_of}
use Rattle.plan_outcomes.specs.Outcomes.{values_given, place_given, served_given, missing_given, command_given}
use Rattle.resolving.specs.Resolve.{fill, take_multiple, take_command}
use Rattle.demand.specs.Words.{places_in}
use Rattle.demand.proofs.Places.{got_of}
use Rattle.direct_read.specs.Server.{Server, read_of, whole_answer, Replied, to_mget, to_pttl, to_caching, RepliedAll, ServedBy, EachLike}
use Rattle.direct_read.proofs.LawsAnswer.{Gives, handed-answer, past-caching}
use Rattle.direct_read.proofs.LawsAsked.{Asked, for_nothing, handed_over, for_keys, mget-itself}
use Rattle.direct_read.proofs.LawsPlaces.{Placed, places-placed, mget-places, each-itself, all-served, some-missing}

-- an array whose values count each as equal to the one of vs at its place
pub record ArrayLike (R : Value → Value → Type 0) (vs : Values) (v : Value) : Type 0 where
  pub answers : Values
  pub like : EachLike R answers vs
  pub is : v ≡ array answers

module _ (sv : Server) where
  -- to `MGET` of some keys it replies the whole answer for them
  mget-replied : {p : Packed} {v : Value} → Replied sv p v → (ks : List Bytes) → p ≡ ascii "MGET" ∷ ks → v ≡ whole_answer sv ks
  mget-replied (to_mget js) ks q = let e : js ≡ ks = cc in ap (whole_answer sv) e
  mget-replied (to_pttl k v) ks q =
      absurd (let e : ascii "PTTL" ≡ ascii "MGET" = cc in let z : ◌≡◌ {A = ℕ} 80 77 = ap (λ (b : Bytes). get_or b 0 0) e in omega arith)
  mget-replied (to_caching v) ks q =
      absurd (let e : ascii "CLIENT" ≡ ascii "MGET" = cc in let z : ◌≡◌ {A = ℕ} 67 77 = ap (λ (b : Bytes). get_or b 0 0) e in omega arith)

  module _ (R : Value → Value → Type 0) (alike : (v : Value) → R v v) (clock : ℕ) (c : Command) (ks : List Bytes) where
    -- what counts as its whole answer for these keys; it does itself
    abbrev pub IsLike : Value → Type 0
    IsLike = ArrayLike R (read_of sv ks)

    whole_like : (u : Value) → u ≡ whole_answer sv ks → IsLike u
    unfolding whole_answer
    whole_like u e = record { answers = read_of sv ks; like = each-itself R alike (read_of sv ks); is = e }

    -- some missing: the array of the missing ones, and the PTTLs behind it
    filled_in : (x : ℕ) (ps : List Place) (vs : Values) → Placed ks ps → ServedBy R sv ks (map got_of ps)
        → RepliedAll (Replied sv) (packs c (multiple (ascii "MGET") ps [] x) ++ []) vs
        → Gives IsLike (take_multiple clock (map (place_given x) ps) vs)
    unfolding RepliedAll packs whole_answer
    filled_in x ps none w s r = absurd r
    filled_in x ps (more v vs) w s r =
        let e : v ≡ array (read_of sv (keys_of (missing ps))) =
        mget-replied r.0 (keys_of (missing ps) ++ []) refl ∙ ap (λ (l : List Bytes). array (read_of sv l)) (append-nil (keys_of (missing ps))) in
        let f = fill clock (map (place_given x) ps) (read_of sv (keys_of (missing ps))) vs in
        record {
          value = array f.places;
          fits = record { answers = f.places; like = some-missing R sv alike (Replied sv) clock x [] ks ps vs w s r.1; is = refl };
          stores = f.stores;
          rest = f.rest;
          is = rw e refl;
        }

    -- its keys, by those that are missing
    keys-answer : (x : ℕ) (ps : List Place) (o : List Wanted) → missing ps ≡ o → Placed ks ps → ServedBy R sv ks (map got_of ps) → (m : CacheMode) (vs : Values)
        → RepliedAll (Replied sv) (sends m c (item (multiple_item o (ascii "MGET") ps [] x)) ++ []) vs
        → Gives IsLike (take_command m clock (command_given (item (multiple_item o (ascii "MGET") ps [] x))) vs)
    unfolding multiple_item sends command_given served_given missing_given
    keys-answer x ps [] q w s m vs r =
        record {
          value = array (values_given (served_values ps));
          fits = record { answers = values_given (served_values ps); like = all-served R sv ks ps w s q; is = refl };
          stores = [];
          rest = vs;
          is = refl;
        }
    keys-answer x ps (u ∷ o) q w s m vs r =
        past-caching IsLike (Replied sv) m (packs c (multiple (ascii "MGET") ps [] x)) vs (λ q. take_multiple clock (map (place_given x) ps) q)
        (λ us t. filled_in x ps us w s t) r

    -- whatever it asks for
    pub mget-answer : {a : Ask} → Asked (λ x. several_keys (ascii "MGET") ks [] x) a → (said : List Answer) → c.args ≡ simple (ascii "MGET") ∷ as_simple ks
        → ServedBy R sv ks (places_in (nodes_of (outcome c a said) ++ [])) → (m : CacheMode) (vs : Values)
        → RepliedAll (Replied sv) (sends m c (outcome c a said) ++ []) vs
        → Gives IsLike (take_command m clock (command_given (outcome c a said)) vs)
    unfolding outcome sends command_given
    mget-answer for_nothing said q s m vs r =
        handed-answer IsLike (Replied sv) (itself c) m clock vs (λ u t. whole_like u (mget-replied t ks (mget-itself c ks q))) r
    mget-answer handed_over said q s m vs r =
        handed-answer IsLike (Replied sv) (itself c) m clock vs (λ u t. whole_like u (mget-replied t ks (mget-itself c ks q))) r
    mget-answer (for_keys x) said q s m vs r =
        let ps : List Place = places said (part_keys (ascii "MGET") [] ks) in
        keys-answer x ps (missing ps) refl (places-placed (ascii "MGET") [] ks said) (subst (ServedBy R sv ks) (mget-places c ks x said) s) m vs r
