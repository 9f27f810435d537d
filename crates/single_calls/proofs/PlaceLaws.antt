-- The place of what a single lookup serves, by the book: in the rows after the call where the book's answer is a hit, else the arena's start. And that it
-- depends on the arena alone of what the caller holds. Assumes that cause 1 lets the settings through.
use Rattle.std.specs.Prelude.{◌≡◌, ℕ, length, Result, Ok, Err}
use Rattle.std.proofs.Math.Path.{refl, ap, ap₂}
use Rattle.std.proofs.Common.{◌∙◌}
use Rattle.std.proofs.Math.Option.{Option, none, some}
use Rattle.buffer.specs.Cases.{by_test}
use Rattle.buffer.specs.Same.{Bytes}
use Rattle.config.specs.Config.{checked}
use Rattle.config.specs.Laws.{passed}
use Rattle.config.specs.declared.Settings.{Settings}
use Rattle.config.specs.declared.Cause.{Cause}
use Rattle.siphash.specs.Sip.{sip_hash13}
use Rattle.resp3.specs.Ends.{is_value}
use Rattle.book.specs.Book.{Setup, Row, Book, Counts, Keyed, lookup, key_of, after, after_all, effect, put, answer_to, answers}
use Rattle.book.specs.Calls.{Call, ons, after_call, reply_to, call-defs}
use Rattle.book.proofs.Trace.{Proper}
use Rattle.arena.specs.Decode.{decode}
use Rattle.arena.specs.Tests.{WellFormed}
use Rattle.arena.specs.Image.{Sized}
use Rattle.arena.proofs.Image.{encoded-length, decode-encode}
use Rattle.arena.proofs.Sizes.{sized, proper}
use Rattle.arena.proofs.Sequence.{outcome_of, one-call}
use Rattle.arena.specs.Held.{Held, lend}
use Rattle.arena.specs.Place.{arena_place}
use Rattle.sharded_lru.specs.Lent.{setup_now}
use Rattle.sharded_lru.specs.Laws.{formed-set}
use Rattle.sharded_lru.specs.Keeps.{fine-effect}
use Rattle.call_entry.specs.Entered.{holding, on_rows, entered}
use Rattle.single_calls.specs.Single.{Return, refused_as, overlong, wrong_bytes, called_on, imaged, single_call}
use Rattle.single_calls.specs.AsCall.{call_of, outcome_value, returned}
use Rattle.single_calls.specs.AsCallLaws.{as_call}
use Rattle.single_calls.specs.Place.{place_in, served_at, place_left, place_under, lookup_place}

-- ---- by the book

-- a lookup, and a call that is refused, leave well-formed rows well-formed
looked-formed : (p : Setup) → Proper p → (k c : Bytes) (t e : ℕ) (bk : Book) → WellFormed is_value p bk.rows
    → WellFormed is_value p (after_call p (call_of (lookup k c t e)) bk).rows
unfolding call_of call-defs ons after_all after put effect answers key_of
looked-formed p o k c t e bk w =
    by_test (overlong (lookup k c t e)) (λ a. rw a w)
    (λ a. rw a (unfold wrong_bytes in
    formed-set p (p.shard_of k) _ bk.rows (o.in-range k) (fine-effect p o.some_key (lookup k c t e) _ tt (w.fine (p.shard_of k))) w))

-- the place on the arena that encodes the book's rows
pub lookup-place : (size mode ttl n : ℕ) (g : Settings) → checked size mode ttl n ≡ Ok g → (k c : Bytes) (t e : ℕ) (bk : Book)
    → WellFormed is_value (setup_now g) bk.rows
    → let b : Call = call_of (lookup k c t e) in
    lookup_place size mode ttl k c t e (lend (setup_now g) n bk)
    ≡ served_at (outcome_value (outcome_of (reply_to (setup_now g) b bk))) (arena_place (setup_now g) k c (after_call (setup_now g) b bk).rows)
unfolding lookup_place place_under place_left place_in
lookup-place size mode ttl n g q k c t e bk w =
    let p : Setup = setup_now g in
    let b : Call = call_of (lookup k c t e) in
    let ok = passed size mode ttl n g q in
    let z : Sized p n = sized sip_hash13 size mode ttl n g ok in
    let o : Proper p = proper sip_hash13 size mode ttl n g ok in
    let l : length (lend p n bk).arena ≡ n = unfold lend in encoded-length is_value p n z bk.rows w in
    let f : checked size mode ttl (length (lend p n bk).arena) ≡ Ok g = ap (checked size mode ttl) l ∙ q in
    let d : single_call size mode ttl (lookup k c t e) (lend p n bk)
    ≡ returned (lookup k c t e) (record { outcome = outcome_of (reply_to p b bk); held = lend p n (after_call p b bk) }) =
    as_call size mode ttl (lookup k c t e) (lend p n bk) g f ∙ ap (returned (lookup k c t e)) (one-call is_value p n z o b bk w) in
    let r : decode is_value p (lend p n (after_call p b bk)).arena ≡ some (after_call p b bk).rows =
    unfold lend in decode-encode is_value p n z (after_call p b bk).rows (looked-formed p o k c t e bk w) in
    rw (f, d, r)

-- ---- it is the same whatever counts and next number the caller holds

module _ (s : Bytes) (a b : Counts) (m n : ℕ) (q : Keyed) where
  -- what a call serves and the arena that it leaves
  abbrev Alike : (Held → Return) → Type 0
  Alike call = ((call (holding s a m)).value ≡ (call (holding s b n)).value) × ((call (holding s a m)).held.arena ≡ (call (holding s b n)).held.arena)

  rows_alike : (p : Setup) (rows : ℕ → Row) → Alike (imaged p rows q)
  unfolding imaged
  rows_alike p rows =
      by_test (overlong q) (λ t. rw t (refl, refl))
      (λ t. by_test (wrong_bytes q) (λ u. rw (t, u) (refl, refl))
      (λ u. rw (t, u) (unfold called_on answer_to effect lend call-defs ons after_all after put in (refl, refl))))

  -- the call by the outcome of cause 1's test
  abbrev by : Result Settings Cause → Held → Return
  by f h = entered (λ n. refused_as n h) (λ g rows. imaged (setup_now g) rows q h) f h.arena

  call-alike : (f : Result Settings Cause) → Alike (by f)
  unfolding entered
  call-alike (Err cause) = (refl, refl)
  call-alike (Ok g) = go (decode is_value (setup_now g) s)
    where
      go : (o : Option (ℕ → Row)) → Alike (λ h. on_rows (λ n. refused_as n h) (λ rows. imaged (setup_now g) rows q h) o)
      go none = unfold on_rows in (refl, refl)
      go (some rows) = unfold on_rows in rows_alike (setup_now g) rows

pub place-alike : (size mode ttl : ℕ) (k c : Bytes) (t e : ℕ) (s : Bytes) (a b : Counts) (m n : ℕ)
    → lookup_place size mode ttl k c t e (holding s a m) ≡ lookup_place size mode ttl k c t e (holding s b n)
unfolding lookup_place single_call
place-alike size mode ttl k c t e s a b m n = go (checked size mode ttl (length s))
  where
    go : (f : Result Settings Cause) → place_under f k c (by s a b m n (lookup k c t e) f (holding s a m))
        ≡ place_under f k c (by s a b m n (lookup k c t e) f (holding s b n))
    go (Err cause) = unfold place_under in refl
    go (Ok g) =
        let l = call-alike s a b m n (lookup k c t e) (Ok g) in
        unfold place_under place_left in
        ap₂ (λ (v : Option Bytes) (u : Bytes). served_at v (place_in (setup_now g) k c (decode is_value (setup_now g) u))) l.0 l.1
