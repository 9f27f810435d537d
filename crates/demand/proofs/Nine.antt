-- Cause 9 over the exported functions (`CauseNine`): a call that cause 1 lets through is refused as 9 exactly if no sequence of real calls from a setup of
-- this size and arena length leaves its arena. An image is left by single stores, one for each entry. Assumes that the arena's bytes are bytes.
use Rattle.std.specs.Prelude.{◌≡◌, ◌≢◌, ℕ, ◌^◌, ◌<◌, true, false, ltb, length}
use Rattle.std.proofs.Math.Path.{refl, sym, ap₂, fun_ext}
use Rattle.std.proofs.Common.{ap, ◌∙◌, subst}
use native.Mathlib.Omega.{arith}
use Rattle.std.proofs.Math.Option.{Option, none, some, none-ne-some}
use mathlib.Core.List.{List, [], ◌∷◌, map}
use borrow.Author.Tests.{ltb-true, ltb-false, le-ltb, leb-true}
use Rattle.buffer.specs.Cases.{by_test}
use Rattle.buffer.specs.Same.{Bytes}
use Rattle.buffer.specs.Field.{Octets}
use Rattle.config.specs.Limits.{max_key, max_command_key, max_bytes}
use Rattle.config.specs.Causes.{bad_config, bad_arena}
use Rattle.config.specs.Config.{refused, settings_of}
use Rattle.format.specs.Lists.{All}
use Rattle.resp3.specs.Ends.{is_value}
use Rattle.resp3.proofs.Law.{value-law}
use Rattle.book.specs.Book as book
use Rattle.book.specs.Book.{Setup, Row, Item, Entry, Keyed, plus, fresh, on}
use Rattle.book.specs.Calls.{Call, single, after_calls}
use Rattle.book.specs.Each.{Each}
use Rattle.book.specs.Counted.{Counted}
use Rattle.book.specs.Storable.{StorableEntries}
use Rattle.arena.specs.Decode.{may_store, decode}
use Rattle.arena.specs.Tests.{Fits}
use Rattle.arena.proofs.Tests.{every-yes}
use Rattle.arena.specs.Layout.{encode}
use Rattle.arena.specs.Image.{Image}
use Rattle.arena.proofs.Image.{decode-exact}
use Rattle.arena.proofs.Octets.{EventOctets, arena-octets}
use Rattle.arena.specs.Held.{Held, lend, book_of}
use Rattle.arena.proofs.Stores.{storing}
use Rattle.arena.proofs.Reach.{building, building-all, singles, not_yet, reached}
use Rattle.call_entry.specs.Entered.{no_cause, on_rows, entered}
use Rattle.single_calls.specs.Single as one
use Rattle.single_calls.specs.AsCall.{call_of}
use Rattle.push.specs.Push as pushes
use Rattle.cache_manager.specs.Pipeline as plannings
use Rattle.caching_cmd.specs.Call as resolvings
use Rattle.demand.specs.Call.{RealCall, planning, resolving, push, lookup, store, invalidate, new_epoch, Given, Stepped, cause_of, setup_by, step}
use Rattle.demand.specs.Call.{setup_with, book_call, book_calls}
use Rattle.demand.specs.Demand.{LeftBy, CauseNine}
use Rattle.demand.specs.Replies.{Response, respond}
use Rattle.demand.specs.CorollaryWords.{mode_in, LentArena}
use Rattle.demand.proofs.Bridge.{is-fine, is-sized}
use Rattle.demand.proofs.ModeRefused.{step-refused, number-refused}
use Rattle.demand.proofs.OneCall.{return-is}
use Rattle.demand.proofs.InTurn.{image-field, rows-field}
use Rattle.demand.proofs.Refusals.{never-nine, other-mode}

-- every call but a new epoch is lent the arena
lent-arena : (c : RealCall) → c ≢ new_epoch → LentArena c
lent-arena (planning m d t e bytes plan send) other = tt
lent-arena (resolving m d t e plan replies answer) other = tt
lent-arena (push m d bytes) other = tt
lent-arena (lookup m d t e k c) other = tt
lent-arena (store m d e k c v x) other = tt
lent-arena (invalidate m d k) other = tt
lent-arena new_epoch other = other refl

-- ---- the number 9 is given exactly where the arena is no image

module _ (size : ℕ) (h : Held) where
  -- the arena's length, and the book's setup
  abbrev n : ℕ
  n = length h.arena

  abbrev p : Setup
  p = setup_with size n

  -- where it is none
  gives-nine : (c : RealCall) → LentArena c → refused size (mode_in c) n ≡ false → decode is_value p h.arena ≡ none
      → cause_of (step size c h).return ≡ bad_arena
  unfolding cause_of step mode_in setup_with settings_of plannings.plan_call plannings.cause_of resolvings.resolve_call
      one.single_call pushes.push_call on_rows entered
  gives-nine (planning m d t e bytes plan send) a f q = rw (is-fine size n m d f) (rw q)
  gives-nine (resolving m d t e plan replies answer) a f q = rw (is-fine size n m d f) (rw q)
  gives-nine (push m d bytes) a f q = rw (is-fine size n m d f) (rw q)
  gives-nine (lookup m d t e k c) a f q = rw (is-fine size n m d f) (rw q)
  gives-nine (store m d e k c v x) a f q = rw (is-fine size n m d f) (rw q)
  gives-nine (invalidate m d k) a f q = rw (is-fine size n m d f) (rw q)
  gives-nine new_epoch a f q = absurd a

  -- where it is one, what is held is a book's
  not-nine : (c : RealCall) → LentArena c → refused size (mode_in c) n ≡ false → (rows : ℕ → Row) → decode is_value p h.arena ≡ some rows
      → cause_of (step size c h).return ≢ bad_arena
  not-nine c a f rows q e =
      let im : Image is_value p h.arena rows = decode-exact is_value p h.arena rows q in
      let is = return-is size n (is-sized size n (mode_in c) 0 f) (book_of rows h) im.formed c a in
      never-nine size n c (respond p size n c (book_of rows h))
      (sym (ap (λ (x : Held). cause_of (step size c x).return) (held im) ∙ ap cause_of is) ∙ e)
    where
      held : Image is_value p h.arena rows → h ≡ lend p n (book_of rows h)
      held im = unfold lend in λ i. record { arena = sym im.bytes i; counts = h.counts; next = h.next }

  -- cause 1 lets the call through
  passes : (c : RealCall) → LentArena c → cause_of (step size c h).return ≢ bad_config → refused size (mode_in c) n ≡ false
  passes c a ne =
      by_test (refused size (mode_in c) n)
      (λ b. absurd (ne (ap (λ (x : Stepped). cause_of x.return) (step-refused size n c h refl a b silent) ∙ number-refused size n c a b silent)))
      (λ f. f)
    where
      -- whatever the book would say
      silent : Response
      silent = record { reply = none; place = 0 }

-- ---- an image is left by single stores

-- a call of the book with a key as a real call, under mode 0 and a default TTL of 0
unfoldable as_real : Keyed → RealCall
as_real (book.lookup k c t e) = lookup 0 0 t e k c
as_real (book.store k c v x e) = store 0 0 e k c v x
as_real (book.invalidate k) = invalidate 0 0 k

module _ (size n : ℕ) (pass : refused size 0 n ≡ false) where
  -- a real call that the book is told of as it is
  record Told (q : Keyed) : Type 0 where
    told : book_call size n (as_real q) ≡ single q
    given : Given (as_real q)

  -- causes 3 and 6 let through what may be stored
  store_told : (k c v : Bytes) (x e : ℕ) → may_store is_value k c v ≡ true → book_call size n (store 0 0 e k c v x) ≡ single (book.store k c v x e)
  unfolding book_call call_of one.overlong one.wrong_bytes may_store
  store_told k c v x e may =
      let w = every-yes _ may in
      rw (
        is-fine size n 0 0 pass,
        le-ltb max_key (length k) (leb-true (length k) max_key w.0),
        le-ltb max_command_key (length c) (leb-true (length c) max_command_key w.1.0),
        le-ltb max_bytes (length v) ((value-law v).0 w.1.1.0).small,
        w.1.1.0,
      )

  -- the store of an entry
  entries-told : (it : Item) (ens : List Entry) → Fits is_value (setup_with size n) it → StorableEntries (may_store is_value) it.key ens
      → All (λ en. EventOctets (on (storing it en))) ens → All (λ en. Told (storing it en)) ens
  unfolding as_real
  entries-told it [] f w o = tt
  entries-told it (en ∷ ens) f w o = (
    record {
      told = store_told it.key en.command en.value it.expiry it.epoch w.0;
      given = (zero_word, zero_word, f.epoch, o.0.0, o.0.1.0, o.0.1.1, f.expiry);
    },
    entries-told it ens f w.1 o.1,
  )
    where
      zero_word : 0 < 2 ^ 64
      zero_word = omega arith

  items-told : (row : Row) → Each (Fits is_value (setup_with size n)) row → Each (λ it. All (λ en. EventOctets (on (storing it en))) it.entries) row
      → Each (λ it. All (λ en. Told (storing it en)) it.entries) row
  items-told [] f o = tt
  items-told (it ∷ row) f o = (entries-told it it.entries f.0 f.0.entries o.0, items-told row f.1 o.1)

  -- of some such calls
  all_told : (qs : List Keyed) → All Told qs → book_calls size n (map as_real qs) ≡ singles qs
  unfolding book_calls
  all_told [] w = refl
  all_told (q ∷ qs) w = ap₂ (λ (c : Call) (cs : List Call). c ∷ cs) w.0.told (all_told qs w.1)

  all-given : (qs : List Keyed) → All Told qs → All Given (map as_real qs)
  all-given [] w = tt
  all-given (q ∷ qs) w = (w.0.given, all-given qs w.1)

module _ (size : ℕ) (s : Bytes) where
  -- the book's setup for these bytes
  abbrev p' : Setup
  p' = setup_with size (length s)

  module _ (pass : refused size 0 (length s) ≡ false) (b : Octets s) (rows : ℕ → Row) (q : decode is_value p' s ≡ some rows) where
    -- the rows are well-formed and these bytes are theirs
    im : Image is_value p' s rows
    im = decode-exact is_value p' s rows q

    -- one store for each entry
    abbrev qs : List Keyed
    qs = building p'.shards rows

    -- the book is told of each store as it is
    row_told : (i : ℕ) → Each (λ it. All (λ en. Told size (length s) pass (storing it en)) it.entries) (rows i)
    row_told i =
        by_test (ltb i p'.shards)
        (λ e.
        items-told size (length s) pass (rows i) (im.formed.fine i).fits
        (arena-octets p' (length s) rows (subst Octets (sym im.bytes) b) i (ltb-true i p'.shards e)))
        (λ e.
        subst (λ (r : Row). Each (λ it. All (λ en. Told size (length s) pass (storing it en)) it.entries) r)
        (sym (im.formed.beyond i (ltb-false i p'.shards e))) tt)

    stores-told : All (Told size (length s) pass) qs
    stores-told = building-all (Told size (length s) pass) p'.shards rows row_told

    -- they make these rows
    rows_are : (i : ℕ) → (after_calls p' (singles qs) (fresh (plus 0 0 0))).rows i ≡ rows i
    rows_are i =
        by_test (ltb i p'.shards)
        (λ e. reached p' (plus 0 0 0) rows (λ j. (im.formed.fine j).sound) p'.shards i (ltb-true i p'.shards e))
        (λ e.
        not_yet p' (plus 0 0 0) rows (λ j. (im.formed.fine j).sound) p'.shards i (ltb-false i p'.shards e)
        ∙ sym (im.formed.beyond i (ltb-false i p'.shards e)))

    -- the setup that they start from: mode 0, a default TTL of 0, counts of 0, and the arena as it is
    no-counts : Counted (plus 0 0 0)
    no-counts = record { hits = omega arith; misses = omega arith; invalidates = omega arith }

    sets-up : (setup_by size 0 0 s).cause ≡ no_cause
    sets-up = rw (is-fine size (length s) 0 0 pass) refl

    -- so they leave these bytes
    image-left : LeftBy size s
    image-left =
        record {
          mode = 0;
          ttl = 0;
          old = s;
          lent = plus 0 0 0;
          as_long = refl;
          word = omega arith;
          octets = b;
          set-up = sets-up;
          counted = no-counts;
          calls = map as_real qs;
          given = all-given size (length s) pass qs stores-told;
          left =
              image-field size 0 0 s (plus 0 0 0) sets-up no-counts (map as_real qs) (all-given size (length s) pass qs stores-told)
              ∙ ap (λ (cs : List Call). encode p' (length s) (after_calls p' cs (fresh (plus 0 0 0))).rows) (all_told size (length s) pass qs stores-told)
              ∙ ap (encode p' (length s)) (fun_ext rows_are) ∙ im.bytes;
        }

  -- what a sequence leaves is an image
  left-image : LeftBy size s → decode is_value p' s ≡ none → ⊥
  left-image l q =
      none-ne-some _
      (sym q ∙ ap₂ (λ (k : ℕ) (a : Bytes). decode is_value (setup_with size k) a) (sym l.as_long) (sym l.left)
      ∙ rows-field size l.mode l.ttl l.old l.lent l.set-up l.counted l.calls l.given)

-- ---- the theorem

pub nine : CauseNine
nine size c h other b ne = (λ e l. by-decode e l (decode is_value (p size h) h.arena) refl, λ f. to-nine f (decode is_value (p size h) h.arena) refl)
  where
    a : LentArena c
    a = lent-arena c other

    pass : refused size (mode_in c) (length h.arena) ≡ false
    pass = passes size h c a ne

    zero-passes : refused size 0 (length h.arena) ≡ false
    zero-passes = other-mode size (mode_in c) (length h.arena) 0 pass (le-ltb 1 0 (omega arith))

    by-decode : cause_of (step size c h).return ≡ bad_arena → LeftBy size h.arena → (o : Option (ℕ → Row)) → decode is_value (p size h) h.arena ≡ o → ⊥
    by-decode e l none q = left-image size h.arena l q
    by-decode e l (some rows) q = not-nine size h c a pass rows q e

    to-nine : (LeftBy size h.arena → ⊥) → (o : Option (ℕ → Row)) → decode is_value (p size h) h.arena ≡ o → cause_of (step size c h).return ≡ bad_arena
    to-nine f none q = gives-nine size h c a pass q
    to-nine f (some rows) q = absurd (f (image-left size h.arena zero-passes b rows q))
