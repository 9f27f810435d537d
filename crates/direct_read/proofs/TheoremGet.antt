-- One `GET` through the cache is the server's answer: Get.antt's statements, proved. Assumes nothing.
-- Letters: R when two values count as equal, sv server, k key, c command, x client expiry, m mode.
use Rattle.std.specs.Prelude.{◌≡◌, ℕ, List, [], ◌∷◌, ◌++◌, get_or}
use Rattle.std.proofs.Math.Path.{refl}
use Rattle.std.proofs.Common.{sym, ap, ◌∙◌, subst, arith}
use Rattle.buffer.specs.Same.{Bytes}
use Rattle.buffer.specs.Ascii.{ascii}
use Rattle.config.specs.Config.{mode_of}
use Rattle.config.specs.declared.CacheMode.{CacheMode}
use Rattle.resp3.specs.Value.{Value, Values, none, more, encode}
use Rattle.resp3.specs.Decode.{decode}
use Rattle.call_record.specs.Record.{simple, Command, transaction}
use Rattle.book.specs.Book.{Answer}
use Rattle.book.specs.Calls.{Wanted, missing_until}
use Rattle.planning.specs.Ask.{Ask, one_key}
use Rattle.planning.specs.Outcome.{Place, filled, waiting, item, single, whole_key, place, single_item, outcome}
use Rattle.planning.specs.Sent.{Packed, itself, packs, sends}
use Rattle.planning.specs.Plan.{served_nodes, missing_nodes, nodes_of}
use Rattle.plan_outcomes.specs.Outcomes.{served_given, missing_given, command_given}
use Rattle.resolving.specs.Store.{store_of}
use Rattle.resolving.specs.Resolve.{take_single, take_command}
use Rattle.resolving.specs.Result.{result_of}
use Rattle.demand.specs.Words.{places_in}
use Rattle.direct_read.specs.Server.{Server, RepliedAll, ServedBy}
use Rattle.direct_read.specs.Get.{GetReplied, to_get, to_pttl, to_caching, DirectGetLike, DirectGet}
use Rattle.direct_read.specs.Alike.{Alike, DirectGetAlike}
use Rattle.direct_read.proofs.LawsAnswer.{Gives, handed-answer, past-caching}
use Rattle.direct_read.proofs.LawsRun.{g, served-only, replied-only, answer-only}
use Rattle.direct_read.proofs.LawsAsked.{Asked, for_nothing, handed_over, for_keys, get-asked, get-itself}
use Rattle.direct_read.proofs.LawsPlaces.{served-like}

module _ (sv : Server) where
  -- to `GET` of a key it replies what it has there
  get-replied : {p : Packed} {v : Value} → GetReplied sv p v → (k : Bytes) → p ≡ ascii "GET" ∷ k ∷ [] → v ≡ sv k
  get-replied (to_get j) k q = let e : j ≡ k = cc in ap sv e
  get-replied (to_pttl j v) k q =
      absurd (let e : ascii "PTTL" ≡ ascii "GET" = cc in let z : ◌≡◌ {A = ℕ} 80 71 = ap (λ (b : Bytes). get_or b 0 0) e in omega arith)
  get-replied (to_caching v) k q =
      absurd (let e : ascii "CLIENT" ≡ ascii "GET" = cc in let z : ◌≡◌ {A = ℕ} 67 71 = ap (λ (b : Bytes). get_or b 0 0) e in omega arith)

  module _ (R : Value → Value → Type 0) (alike : (v : Value) → R v v) (clock : ℕ) (c : Command) (k : Bytes)
      (args : c.args ≡ simple (ascii "GET") ∷ simple k ∷ []) where
    -- what counts as what it has there; its own reply does
    abbrev pub IsLike : Value → Type 0
    IsLike v = R v (sv k)

    reply-like : (u : Value) → GetReplied sv (itself c) u → IsLike u
    reply-like u t = subst (λ (z : Value). R z (sv k)) (sym (get-replied t k (get-itself c k args))) (alike (sv k))

    -- missing: the PTTL's reply, and its own behind it
    own-reply : (w : Wanted) (x : ℕ) (vs : Values) → RepliedAll (GetReplied sv) (packs c (single w x) ++ []) vs
        → Gives IsLike (take_single clock (missing_until x w) vs)
    unfolding RepliedAll packs
    own-reply w x none r = absurd r
    own-reply w x (more p none) r = absurd r.1
    own-reply w x (more p (more v vs)) r =
        record { value = v; fits = reply-like v r.1.0; stores = store_of clock (missing_until x w) p v; rest = vs; is = refl }

    -- its key, by its place
    key-answer : (x : ℕ) (pl : Place) → ServedBy R sv (k ∷ []) (places_in (nodes_of (item (single_item pl x)) ++ [])) → (m : CacheMode) (vs : Values)
        → RepliedAll (GetReplied sv) (sends m c (item (single_item pl x)) ++ []) vs
        → Gives IsLike (take_command m clock (command_given (item (single_item pl x))) vs)
    unfolding single_item nodes_of served_nodes missing_nodes places_in ServedBy sends command_given served_given missing_given
    key-answer x (filled v) s m vs r = record { value = decode v; fits = served-like R v (sv k) s.0; stores = []; rest = vs; is = refl }
    key-answer x (waiting w) s m vs r =
        past-caching IsLike (GetReplied sv) m (packs c (single w x)) vs (λ q. take_single clock (missing_until x w) q) (λ us t. own-reply w x us t) r

    -- whatever it asks for
    get-answer : {a : Ask} → Asked (λ x. one_key k x) a → (said : List Answer) → ServedBy R sv (k ∷ []) (places_in (nodes_of (outcome c a said) ++ []))
        → (m : CacheMode) (vs : Values) → RepliedAll (GetReplied sv) (sends m c (outcome c a said) ++ []) vs
        → Gives IsLike (take_command m clock (command_given (outcome c a said)) vs)
    unfolding outcome sends command_given
    get-answer for_nothing said s m vs r = handed-answer IsLike (GetReplied sv) (itself c) m clock vs reply-like r
    get-answer handed_over said s m vs r = handed-answer IsLike (GetReplied sv) (itself c) m clock vs reply-like r
    get-answer (for_keys x) said s m vs r = key-answer x (place said (whole_key c k)) s m vs r

-- THE THEOREM
pub direct-get-like : DirectGetLike
direct-get-like R alike sv a w =
    let u =
    get-answer sv R alike a.clock' w.c w.k w.args
    (get-asked w.c w.k w.args (g R (GetReplied sv) sv a w.r (w.k ∷ []) w.run) a.clock) _
    (served-only R (GetReplied sv) sv a w.r (w.k ∷ []) w.run w.c w.one) (mode_of a.mode) w.run.answers
    (replied-only R (GetReplied sv) sv a w.r (w.k ∷ []) w.run w.c w.one) in
    record {
      value = u.value;
      like = u.fits;
      is = answer-only R (GetReplied sv) sv a w.r (w.k ∷ []) w.run w.c w.one (λ v. R v (sv w.k)) u;
    }

-- THE THEOREM, EXACTLY
pub direct-get : DirectGet
direct-get sv a w =
    let u = direct-get-like (◌≡◌ {A = Value}) (λ v. refl) sv a w in
    u.is ∙ ap (λ (v : Value). encode (result_of (transaction w.r) (more v none))) u.like

-- THE THEOREM, with nulls of any spelling alike
pub direct-get-alike : DirectGetAlike
direct-get-alike sv a w = direct-get-like Alike (λ v. refl) sv a w
