-- The ways through a single call, as laws of its definition: refused, or the book's call on the arena that it left. Assumes what `Lent` says of the arena.
use mathlib.Core.Path.{◌≡◌, refl, sym, ap, ◌∙◌, subst}
use Prim.Native.Nat.{ℕ, ◌-◌}
use native.Mathlib.Omega.{arith}
use mathlib.Core.Bool.{Bool, true, false, cond}
use mathlib.Core.Option.{none, some}
use lib.ListN.{length}
use Rattle.std.specs.Prelude.{Result, Ok, Err, Some}
use Rattle.buffer.specs.Same.{Bytes}
use Rattle.buffer.specs.Part.{part}
use Rattle.buffer.specs.PartLaws.{length_part}
use Rattle.config.specs.Causes.{too_long, bad_reply, number, cause_numbered}
use Rattle.config.specs.Config.{checked}
use Rattle.config.specs.declared.Settings.{Settings}
use Rattle.config.specs.declared.Cause.{Cause}
use Rattle.config.specs.declared.Cause.TheVariants.{NoSpace}
use Rattle.statistics.specs.OfBook.{counts_of, adding}
use Rattle.statistics.specs.OfBookLaws.{adding-counts}
use Rattle.statistics.specs.declared.Statistics.{Statistics}
use Rattle.resp3.specs.Ends.{is_value}
use Rattle.book.specs.Book.{Setup, Row, Counts, plus, count, Answer, stored, no_space as spaceless, invalidated, Keyed, lookup, on, put, effect}
use Rattle.book.specs.Book.{after, after_all, answer_to}
use Rattle.book.specs.Calls.{ons, call-defs}
use Rattle.arena.specs.Layout.{encode}
use Rattle.arena.specs.Decode.{read_arena, decode}
use Rattle.arena.proofs.Image.{decodes}
use Rattle.arena.specs.Place.{arena_place}
use Rattle.arena.specs.Held.{Held, lend}
use Rattle.command_key.specs.Key.{key_bytes}
use Rattle.shard_lookup.specs.Looked.{Told, BeginsAt}
use Rattle.shard_lookup.specs.declared.Looked.{Looked}
use Rattle.shard_lookup.specs.declared.Looked.TheVariants.{Hit as Got, Miss as Missed}
use Rattle.shard_lookup.specs.Whole.{whole_key, whole-bytes}
use Rattle.sharded_lru.specs.Lent.{setup_now, Lent, effect_in, rows_after}
use Rattle.sharded_lru.specs.Laws.{sized}
use Rattle.sharded_lru.specs.Admit.{admitted, Entered}
use Rattle.call_entry.specs.Laws.{is-entered, not_entered}
use Rattle.call_entry.specs.Entered.{no_cause, holding}
use Rattle.single_calls.specs.Single.{Return, refused_as, overlong, wrong_bytes, number_of, served_by, called_on, imaged, single_call}
use Rattle.single_calls.specs.Place.{place_in, served_at, place_left, place_under, lookup_place}
use Rattle.single_calls.specs.AnswerLaws.{done-is, refused-is, hit-is, miss-is, denied-is}
use Rattle.single_calls.specs.Answers.{Left, LookupLeft, InvalidationLeft, looked_up}

-- ---- causes 1 and 9

module _ (size mode ttl : ℕ) (q : Keyed) (s : Bytes) where
  -- a call that is not admitted
  pub not-admitted : (cause : Cause) (lent : Counts) (next : ℕ) → admitted size mode ttl s ≡ Err cause
      → single_call size mode ttl q (holding s lent next) ≡ refused_as (number cause) (holding s lent next)
  unfolding single_call
  not-admitted cause lent next e =
      not_entered (λ n. refused_as n (holding s lent next)) (λ g rows. imaged (setup_now g) rows q (holding s lent next)) size mode ttl cause s e

  -- one that is
  pub is-admitted : (g : Settings) (lent : Counts) (next : ℕ) → Entered size mode ttl s g
      → single_call size mode ttl q (holding s lent next) ≡ imaged (setup_now g) (read_arena (setup_now g) s) q (holding s lent next)
  unfolding single_call
  is-admitted g lent next w =
      is-entered (λ n. refused_as n (holding s lent next)) (λ g rows. imaged (setup_now g) rows q (holding s lent next)) _ s g _ w.fine w.read

-- and the place of what it serves
pub place-admitted : (size mode ttl : ℕ) (k c : Bytes) (t e : ℕ) (s : Bytes) (g : Settings) (lent : Counts) (next : ℕ) → Entered size mode ttl s g
    → lookup_place size mode ttl k c t e (holding s lent next)
    ≡ place_left (setup_now g) k c (imaged (setup_now g) (read_arena (setup_now g) s) (lookup k c t e) (holding s lent next))
unfolding lookup_place place_under
place-admitted size mode ttl k c t e s g lent next w = rw (is-admitted size mode ttl (lookup k c t e) s g lent next w, w.fine)

-- ---- causes 3 and 6

module _ (p : Setup) (rows : ℕ → Row) (q : Keyed) (h : Held) where
  pub too_long_lem : overlong q ≡ true → imaged p rows q h ≡ refused_as too_long h
  unfolding imaged
  too_long_lem e = rw e

  pub bad-bytes : overlong q ≡ false → wrong_bytes q ≡ true → imaged p rows q h ≡ refused_as bad_reply h
  unfolding imaged
  bad-bytes e f = rw (e, f)

  pub called : overlong q ≡ false → wrong_bytes q ≡ false → imaged p rows q h ≡ called_on p rows q h
  unfolding imaged
  called e f = rw (e, f)

-- ---- refused, everything is left as it was

module _ (d : Return) (cause : Cause) (some-cause : cause_numbered (number cause) ≡ Some cause) (s : Bytes) where
  pub left-refused : (lent : Counts) (next : ℕ) → d ≡ refused_as (number cause) (holding s lent next) → Left d s (Err cause)
  left-refused lent next e = rw e (record { answer = refused-is (refused_as (number cause) (holding s lent next)) cause some-cause refl; cause = refl; arena = refl })

  pub lookup-refused : (c : Statistics) (next at : ℕ) → d ≡ refused_as (number cause) (holding s (counts_of c) next) → 0 ≡ at
      → LookupLeft d at s (record { found = Err cause; counts = c })
  lookup-refused c next at e a =
      rw e
      (record {
        answer = denied-is (refused_as (number cause) (holding s (counts_of c) next)) at cause some-cause refl;
        cause = refl;
        value = refl;
        place = a;
        within = tt;
        arena = refl;
        counts = refl;
      })

  pub invalidation-refused : (c : Statistics) (next : ℕ) → d ≡ refused_as (number cause) (holding s (counts_of c) next)
      → InvalidationLeft d s (record { answer = Err cause; counts = c })
  invalidation-refused c next e =
      rw e (record { answer = refused-is (refused_as (number cause) (holding s (counts_of c) next)) cause some-cause refl; cause = refl; arena = refl; counts = refl })

-- nothing is served there, so that the place is the arena's start
pub no-place-left : (p : Setup) (k c : Bytes) (d : Return) (n : ℕ) (h : Held) → d ≡ refused_as n h → 0 ≡ place_left p k c d
unfolding place_left served_at
no-place-left p k c d n h e = rw e

pub no_place : (size mode ttl : ℕ) (k c : Bytes) (t u n : ℕ) (h g : Held) → single_call size mode ttl (lookup k c t u) h ≡ refused_as n g
    → 0 ≡ lookup_place size mode ttl k c t u h
unfolding lookup_place
no_place size mode ttl k c t u n h g e = go (checked size mode ttl (length h.arena))
  where
    go : (f : Result Settings Cause) → 0 ≡ place_under f k c (single_call size mode ttl (lookup k c t u) h)
    go (Err cause) = unfold place_under in refl
    go (Ok f) = unfold place_under in no-place-left (setup_now f) k c _ n g e

-- ---- the book's call

-- a lookup of command key c left the arena u and was answered r
abbrev Gets : Settings → Bytes → (ℕ → Row) → Bytes → ℕ → ℕ → Looked → Bytes → Type 0
Gets g u rows k t e r c =
    Lent g u (rows_after (setup_now g) (on (lookup k c t e)) rows) × Told u (effect_in (setup_now g) (lookup k c t e) rows) r
    × BeginsAt (arena_place (setup_now g) k c (rows_after (setup_now g) (on (lookup k c t e)) rows)) r

-- one of a command key that is all of its source
pub whole-get : (g : Settings) (u : Bytes) (rows : ℕ → Row) (k c : Bytes) (t e : ℕ) (r : Looked) → Gets g u rows k t e r (key_bytes c (whole_key c))
    → Gets g u rows k t e r c
whole-get g u rows k c t e r w = subst (Gets g u rows k t e r) (whole-bytes c) w

-- a call that neither 3 nor 6 refuses found the arena s and left u
module _ (g : Settings) (s u : Bytes) (rows : ℕ → Row) (q : Keyed) (next : ℕ) (n : length u ≡ length s) (w : Lent g u (rows_after (setup_now g) (on q) rows))
    (e : overlong q ≡ false) (f : wrong_bytes q ≡ false) where
  abbrev here : Counts → Return
  here lent = imaged (setup_now g) rows q (holding s lent next)

  arena-is : (lent : Counts) → u ≡ (here lent).held.arena
  unfolding called_on lend call-defs ons after_all after put effect rows_after
  arena-is lent =
      sym w.image.bytes ∙ ap (λ (m : ℕ). encode (setup_now g) m (rows_after (setup_now g) (on q) rows)) n
      ∙ ap (λ (r : Return). r.held.arena) (sym (called (setup_now g) rows q (holding s lent next) e f))

  counts-are : (lent more : Counts) → (effect_in (setup_now g) q rows).adds ≡ more → count lent more ≡ (here lent).held.counts
  unfolding called_on lend call-defs ons after_all after put effect
  counts-are lent more a =
      ap (count lent) (sym a) ∙ ap (λ (r : Return). r.held.counts) (sym (called (setup_now g) rows q (holding s lent next) e f))

  cause-is : (lent : Counts) (a : Answer) → (effect_in (setup_now g) q rows).answer ≡ a → number_of a ≡ (here lent).cause
  unfolding called_on answer_to effect
  cause-is lent a b = ap number_of (sym b) ∙ ap (λ (r : Return). r.cause) (sym (called (setup_now g) rows q (holding s lent next) e f))

  value-is : (lent : Counts) (a : Answer) → (effect_in (setup_now g) q rows).answer ≡ a → served_by a ≡ (here lent).value
  unfolding called_on answer_to effect
  value-is lent a b = ap served_by (sym b) ∙ ap (λ (r : Return). r.value) (sym (called (setup_now g) rows q (holding s lent next) e f))

  -- a store, whether its value was kept
  pub store-left : (lent : Counts) (b kept : Bool) → b ≡ kept → cond b stored spaceless ≡ (effect_in (setup_now g) q rows).answer
      → Left (here lent) u (cond kept (Ok tt) (Err NoSpace))
  unfolding number_of
  store-left lent b true i a =
      let n = cause-is lent stored (sym (rw i at a)) in
      record { answer = done-is (here lent) n; cause = n; arena = arena-is lent }
  store-left lent b false i a =
      let n = cause-is lent spaceless (sym (rw i at a)) in
      record { answer = refused-is (here lent) NoSpace refl n; cause = n; arena = arena-is lent }

  -- the rows that it left are read from its arena, so that the place of a value served is the place in them
  place_is : (lent : Counts) (k c v : Bytes) → some v ≡ (here lent).value
      → arena_place (setup_now g) k c (rows_after (setup_now g) (on q) rows) ≡ place_left (setup_now g) k c (here lent)
  unfolding place_left served_at place_in
  place_is lent k c v e =
      let d : decode is_value (setup_now g) u ≡ some (rows_after (setup_now g) (on q) rows) = (decodes is_value (setup_now g) u (sized g u _ w) _).1 w.image in
      rw (sym e, sym (arena-is lent), d)

  -- with none, it is the arena's start
  no-place-is : (lent : Counts) (k c : Bytes) → none ≡ (here lent).value → 0 ≡ place_left (setup_now g) k c (here lent)
  unfolding place_left served_at
  no-place-is lent k c e = rw (sym e)

  module _ (c : Statistics) where
    -- a lookup, by what the shards answered
    pub lookup-left : (k b : Bytes) (r : Looked) → Told u (effect_in (setup_now g) q rows) r
        → BeginsAt (arena_place (setup_now g) k b (rows_after (setup_now g) (on q) rows)) r
        → LookupLeft (here (counts_of c)) (place_left (setup_now g) k b (here (counts_of c))) u (looked_up c r)
    unfolding number_of served_by
    lookup-left k b (Got from to) t l =
        let x = t.0 in
        let y = t.1 in
        let n = cause-is (counts_of c) _ t.2 in
        let v = value-is (counts_of c) _ t.2 in
        let i : from ≡ place_left (setup_now g) k b (here (counts_of c)) = l ∙ place_is (counts_of c) k b _ v in
        let m : length (part u from (to - from)) ≡ to - from = length_part u from (to - from) (omega arith) in
        record {
          answer = hit-is (here (counts_of c)) _ _ from to n v i (omega arith);
          cause = n;
          value = v;
          place = i;
          within = (t.0, t.1);
          arena = arena-is (counts_of c);
          counts = adding-counts c _ ∙ counts-are (counts_of c) _ t.3;
        }
    lookup-left k b (Missed m) t l =
        let n = cause-is (counts_of c) _ t.0 in
        let v = value-is (counts_of c) _ t.0 in
        record {
          answer = miss-is (here (counts_of c)) _ n v;
          cause = n;
          value = v;
          place = no-place-is (counts_of c) k b v;
          within = tt;
          arena = arena-is (counts_of c);
          counts = adding-counts c _ ∙ counts-are (counts_of c) _ t.1;
        }

    -- an invalidation, by the entries dropped
    pub invalidation-left : (m : ℕ) → (effect_in (setup_now g) q rows).answer ≡ invalidated → (effect_in (setup_now g) q rows).adds ≡ plus 0 0 m
        → InvalidationLeft (here (counts_of c)) u (record { answer = Ok tt; counts = adding c (plus 0 0 m) })
    unfolding number_of
    invalidation-left m a b =
        record {
          answer = done-is (here (counts_of c)) (cause-is (counts_of c) _ a);
          cause = cause-is (counts_of c) _ a;
          arena = arena-is (counts_of c);
          counts = adding-counts c _ ∙ counts-are (counts_of c) _ b;
        }
