-- Resolving place by place, as Resolve.antt defines it, is what the Rust's loops do. Assumes nothing.
-- (Where a definition changes, a worked case is to say so first: this file cites one.)
use Rattle.std.specs.Prelude.{◌≡◌, refl, Bool, true, false, List, [], ◌∷◌, ◌++◌, ℕ, pos, negsuc, Option, Some, None, ℤ}
use Rattle.std.proofs.Common.{sym, ◌∙◌, append_assoc, append-nil}
use Rattle.std.proofs.Math.Option.{some}
use Rattle.std.proofs.Math.Option as option
use Rattle.buffer.specs.Cases.{by_test}
use Rattle.config.specs.declared.CacheMode.{CacheMode}
use Rattle.config.specs.declared.CacheMode.TheVariants.{All, OptIn}
use Rattle.resp3.specs.Value.{Value, Values, null, array, none, more, count}
use Rattle.resp3_element.specs.Meaning.{is_error, integer_of, array_of}
use Rattle.book.specs.Calls.{Missing, Storing}
use Rattle.resolving.specs.Plan.{Place, served, waiting, Command, handed_on, cached, cached_array, single, multiple, Plan}
use Rattle.resolving.specs.Convert.{replies_of}
use Rattle.resolving.specs.Store.{expiry_of, store_of}
use Rattle.resolving.specs.Resolve.{Outcome, wrong, gives, take_reply, opt_in, take_single, Filled, fill, fill_from, take_multiple, take_command}
use Rattle.resolving.specs.Resolve.{Resolved, cause7, answered, behind, go_on, take_commands, from_replies, resolve}
use Rattle.resolving.specs.Result.{result_of}
use Rattle.resolving.specs.Vec.{joined, push_back, joined-none, joined-push, count-push, set-joined}
use Rattle.resolving.specs.Rust.{expire_time, insert_unless_error, Out, err, ok, attempt, next_reply, resolve_single, response_of, parts_of, zip_loop}
use Rattle.resolving.specs.Rust.{if_array, resolve_multiple, after_skip, arm, Returned, failed, returned, finish, command_loop, from_value}
use Rattle.resolving.specs.Rust.{resolve_rust}

-- ---- a store

-- the expiry
expire-same : (now client : ℕ) (pttl : Option ℤ) → expire_time now client pttl ≡ expiry_of now client pttl
expire-same now client None = refl
expire-same now client (Some (pos n)) = refl
expire-same now client (Some (negsuc n)) = refl

-- what the lru is told of one reply
insert-same : (now : ℕ) (m : Missing) (v pttl : Value) (lru : List Storing) → insert_unless_error now m v pttl lru ≡ lru ++ store_of now m pttl v
insert-same now m v pttl lru =
    by_test (is_error v) (λ e. rw e (sym (append-nil lru))) (λ e. rw (e, expire-same now m.expiry (integer_of pttl)))

-- ---- one command

-- a command's outcome, after what the lru was told before it
abbrev out_of : List Storing → Outcome → Out
out_of lru wrong = err lru
out_of lru (gives v ss rs) = ok v (lru ++ ss) rs

-- filled places behind others, after what the lru was told before
abbrev out_filled : Values → List Storing → Filled → Out
out_filled before lru f = ok (array (joined before f.places)) (lru ++ f.stores) f.rest

-- with no element left, the places stay as they are
fill_none : (now : ℕ) (ps : List Place) (rs : Values) → fill now ps none rs ≡ record { places = response_of ps; stores = []; rest = rs }
fill_none now [] rs = refl
fill_none now (served w ∷ ps) rs = rw (fill_none now ps rs)
fill_none now (waiting m ∷ ps) rs = rw (fill_none now ps rs)

-- and so they do with no PTTL left
fill-dry : (now : ℕ) (ps : List Place) (vs : Values) → fill now ps vs none ≡ record { places = response_of ps; stores = []; rest = none }
fill-dry now [] none = refl
fill-dry now [] (more v vs) = refl
fill-dry now (served w ∷ ps) vs = rw (fill-dry now ps vs)
fill-dry now (waiting m ∷ ps) none = rw (fill-dry now ps none)
fill-dry now (waiting m ∷ ps) (more v vs) = rw (fill-dry now ps (more v vs))

-- the loop over the zips, once the places before are done
zip-same : (now : ℕ) (ps : List Place) (vs rs before : Values) (lru : List Storing)
    → zip_loop now vs rs (parts_of (count before) ps) (joined before (response_of ps)) lru ≡ out_filled before lru (fill now ps vs rs)
zip-same now ps none rs before lru = rw (fill_none now ps rs, append-nil lru)
zip-same now ps (more v vs) none before lru = rw (fill-dry now ps (more v vs), append-nil lru)
zip-same now [] (more v vs) (more t rs) before lru = rw (append-nil lru)
zip-same now (served w ∷ ps) (more v vs) (more t rs) before lru =
    rw (joined-push before w (response_of ps), ← count-push before w, joined-push before w (fill now ps (more v vs) (more t rs)).places)
    (zip-same now ps (more v vs) (more t rs) (push_back before w) lru)
zip-same now (waiting m ∷ ps) (more v vs) (more t rs) before lru =
    rw (
      set-joined before null v (response_of ps),
      ← count-push before v,
      joined-push before v
          (fill now ps vs rs).places,
      insert-same now m v t lru,
      ← append_assoc lru (store_of now m t v) (fill now ps vs rs).stores,
    )
    (zip-same now ps vs rs (push_back before v) (lru ++ store_of now m t v))

-- the same from the first place on, where the reply is an array
array_same : (now : ℕ) (ps : List Place) (o : option.Option Values) (rs : Values) (lru : List Storing)
    → if_array now ps o rs lru ≡ out_of lru (fill_from now ps o rs)
array_same now ps option.none rs lru = refl
array_same now ps (some vs) rs lru = zip-same now ps vs rs none lru

-- several keys
multiple-same : (now : ℕ) (ps : List Place) (rs : Values) (lru : List Storing) → resolve_multiple now ps rs lru ≡ out_of lru (take_multiple now ps rs)
multiple-same now ps none lru = refl
multiple-same now ps (more v rs) lru = array_same now ps (array_of v) rs lru

-- one key
single-same : (now : ℕ) (m : Missing) (rs : Values) (lru : List Storing) → resolve_single now m rs lru ≡ out_of lru (take_single now m rs)
single-same now m none lru = refl
single-same now m (more t none) lru = refl
single-same now m (more t (more v rs)) lru = rw (insert-same now m v t lru)

-- a reply handed on
reply-same : (rs : Values) (lru : List Storing) → next_reply rs lru ≡ out_of lru (take_reply rs)
reply-same none lru = refl
reply-same (more v rs) lru = rw (append-nil lru)

-- opt-in: two ways to go on that agree still agree after the dropped reply
skip-same : (mode : CacheMode) (f : Values → List Storing → Out) (g : Values → Outcome) → ((r : Values) (l : List Storing) → f r l ≡ out_of l (g r))
    → (rs : Values) (lru : List Storing) → after_skip mode f rs lru ≡ out_of lru (opt_in mode rs g)
skip-same All f g h rs lru = h rs lru
skip-same OptIn f g h none lru = refl
skip-same OptIn f g h (more v rs) lru = h rs lru

-- any command
arm_same : (mode : CacheMode) (now : ℕ) (c : Command) (rs : Values) (lru : List Storing) → arm mode now c rs lru ≡ out_of lru (take_command mode now c rs)
arm_same mode now handed_on rs lru = reply-same rs lru
arm_same mode now (cached v) rs lru = rw (append-nil lru)
arm_same mode now (cached_array vs) rs lru = rw (append-nil lru)
arm_same mode now (single m) rs lru = skip-same mode _ _ (λ r l. single-same now m r l) rs lru
arm_same mode now (multiple ps) rs lru = skip-same mode _ _ (λ r l. multiple-same now ps r l) rs lru

-- ---- all commands

-- what becomes of a plan, as the Rust returns it
abbrev pub as_returned : Bool → Resolved → Returned
as_returned transaction (cause7 ss) = failed ss
as_returned transaction (answered vs ss) = returned (result_of transaction vs) ss

-- the same behind other answers and stores
abbrev returned_after : Bool → Values → List Storing → Resolved → Returned
returned_after transaction before lru (cause7 ss) = failed (lru ++ ss)
returned_after transaction before lru (answered vs ss) = returned (result_of transaction (joined before vs)) (lru ++ ss)

-- the result
finish-same : (transaction : Bool) (vs : Values) → finish transaction vs ≡ result_of transaction vs
finish-same true vs = refl
finish-same false vs = refl

-- one answer more before the others, or one less to come
behind-same : (transaction : Bool) (before : Values) (lru : List Storing) (v : Value) (ss : List Storing) (r : Resolved)
    → returned_after transaction (push_back before v) (lru ++ ss) r ≡ returned_after transaction before lru (behind v ss r)
behind-same transaction before lru v ss (cause7 later) = rw (append_assoc lru ss later)
behind-same transaction before lru v ss (answered vs later) = rw (append_assoc lru ss later, joined-push before v vs)

-- the loop over the commands, once those before are done
loop-same : (transaction : Bool) (mode : CacheMode) (now : ℕ) (cs : List Command) (rs before : Values) (lru : List Storing)
    → command_loop transaction mode now cs rs before lru ≡ returned_after transaction before lru (take_commands mode now cs rs)
loop-same transaction mode now [] rs before lru = rw (append-nil lru, joined-none before, finish-same transaction before)
loop-same transaction mode now (c ∷ cs) rs before lru =
    rw (arm_same mode now c rs lru) (go (take_command mode now c rs) (λ v ss q. loop-same transaction mode now cs q (push_back before v) (lru ++ ss)))
  where
    go : (o : Outcome)
        → ((v : Value) (ss : List Storing) (q : Values) → command_loop transaction mode now cs q (push_back before v) (lru ++ ss)
        ≡ returned_after transaction (push_back before v) (lru ++ ss) (take_commands mode now cs q))
        → attempt (out_of lru o) (λ l. failed l) (λ v l rest. command_loop transaction mode now cs rest (push_back before v) l)
        ≡ returned_after transaction before lru (go_on o (λ q. take_commands mode now cs q))
    go wrong h = rw (append-nil lru)
    go (gives v ss q) h = h v ss q ∙ behind-same transaction before lru v ss (take_commands mode now cs q)

-- before the first command nothing is done
after_nothing : (transaction : Bool) (r : Resolved) → returned_after transaction none [] r ≡ as_returned transaction r
after_nothing transaction (cause7 ss) = refl
after_nothing transaction (answered vs ss) = refl

-- the Rust returns what resolving is defined to be, on every plan, mode, clock and value
pub same-as-rust : (p : Plan) (mode : CacheMode) (now : ℕ) (v : Value) → resolve_rust p mode now v ≡ as_returned p.transaction (resolve p mode now v)
unfolding resolve_rust resolve
same-as-rust p mode now v = go (replies_of p.transaction v)
  where
    go : (o : option.Option Values) → from_value o (λ rs. command_loop p.transaction mode now p.commands rs none [])
        ≡ as_returned p.transaction (from_replies o (λ rs. take_commands mode now p.commands rs))
    go option.none = refl
    go (some rs) = loop-same p.transaction mode now p.commands rs none [] ∙ after_nothing p.transaction (take_commands mode now p.commands rs)
