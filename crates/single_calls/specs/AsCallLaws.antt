-- A single call is the book's call on bytes: what demand 3's sequences are made of is what the single calls do. Assumes that cause 1 lets the settings
-- through.
use Rattle.std.specs.Prelude.{◌≡◌, ℕ, Bool, true, false, ◌||◌, length, Ok}
use Rattle.std.proofs.Math.Path.{refl}
use Rattle.std.proofs.Common.{sym, ap, ltb-false}
use Rattle.std.proofs.lemmas.Bool.{false≢true, not-false}
use Rattle.std.proofs.Math.Option.{Option, none, some}
use Rattle.buffer.specs.Cases.{by_test}
use Rattle.buffer.specs.Same.{Bytes}
use Rattle.config.specs.Config.{checked}
use Rattle.config.specs.declared.Settings.{Settings}
use Rattle.resp3.specs.Ends.{is_value}
use Rattle.book.specs.Book.{Setup, Row, Keyed, lookup, store, invalidate, answers}
use Rattle.book.specs.Calls.{refused, ons, events_of, call-defs}
use Rattle.book.proofs.Storable.{StorableEvents}
use Rattle.arena.specs.Decode.{may_store, decode}
use Rattle.arena.proofs.Sequence.{denied, outcome_of, call_with, call_on}
use Rattle.arena.specs.Held.{Held}
use Rattle.shard_store.specs.Store.{Storable}
use Rattle.sharded_lru.specs.Lent.{setup_now}
use Rattle.sharded_lru.specs.Keeps.{MayStore, may-store}
use Rattle.call_entry.specs.Entered.{on_rows, entered}
use Rattle.call_entry.specs.Laws as entry
use Rattle.single_calls.specs.Single.{refused_as, overlong_by, overlong, wrong_bytes, called_on, imaged, single_call}
use Rattle.single_calls.specs.AsCall.{call_of, outcome_number, outcome_value, returned, Numbers}

-- a call that is refused leaves what the caller holds
refused-held : (p : Setup) (rows : ℕ → Row) (h : Held) → decode is_value p h.arena ≡ some rows
    → call_with p (some rows) refused h ≡ record { outcome = denied; held = h }
unfolding call_with call-defs answers outcome_of
refused-held p rows h d = ap (λ (k : Held). record { outcome = denied; held = k }) (sym (entry.refused-held p rows h d))

-- a single call is the book's call on bytes
pub as_call : (size mode ttl : ℕ) (q : Keyed) (h : Held) (g : Settings) → checked size mode ttl (length h.arena) ≡ Ok g
    → single_call size mode ttl q h ≡ returned q (call_on is_value (setup_now g) (call_of q) h)
unfolding single_call entered call_on
as_call size mode ttl q h g e = rw e (go (decode is_value (setup_now g) h.arena) refl)
  where
    long : (rows : ℕ → Row) → decode is_value (setup_now g) h.arena ≡ some rows → overlong q ≡ true
        → imaged (setup_now g) rows q h ≡ returned q (call_with (setup_now g) (some rows) (call_of q) h)
    long rows d t = unfold imaged call_of outcome_number outcome_value in rw (t, refused-held (setup_now g) rows h d, t)

    wrong : (rows : ℕ → Row) → decode is_value (setup_now g) h.arena ≡ some rows → overlong q ≡ false → wrong_bytes q ≡ true
        → imaged (setup_now g) rows q h ≡ returned q (call_with (setup_now g) (some rows) (call_of q) h)
    wrong rows d t u = unfold imaged call_of outcome_number outcome_value in rw (t, u, refused-held (setup_now g) rows h d, t)

    done : (rows : ℕ → Row) → overlong q ≡ false → wrong_bytes q ≡ false
        → imaged (setup_now g) rows q h ≡ returned q (call_with (setup_now g) (some rows) (call_of q) h)
    done rows t u = unfold imaged call_of call_with called_on outcome_number outcome_value outcome_of call-defs ons answers in rw (t, u)

    go : (o : Option (ℕ → Row)) → decode is_value (setup_now g) h.arena ≡ o
        → on_rows (λ n. refused_as n h) (λ rows. imaged (setup_now g) rows q h) o ≡ returned q (call_with (setup_now g) o (call_of q) h)
    go none d = unfold on_rows call_with outcome_number outcome_value in refl
    go (some rows) d =
        unfold on_rows in
        by_test (overlong q) (λ t. long rows d t) (λ t. by_test (wrong_bytes q) (λ u. wrong rows d t u) (λ u. done rows t u))

-- ---- what such a call stores may be stored, as the sequences ask

-- neither test of two holds where their disjunction does not
neither : (a b : Bool) → (a || b) ≡ false → (a ≡ false) × (b ≡ false)
neither true b e = absurd (false≢true (sym e))
neither false b e = (refl, e)

-- lengths that 3 lets through
pub not-overlong : (k c v : Bytes) → overlong_by (length k) (length c) (length v) ≡ false → Storable k c v
not-overlong k c v e =
    let a = neither _ _ e in
    let b = neither _ _ a.0 in
    record { key = ltb-false _ _ b.0; command = ltb-false _ _ b.1; value = ltb-false _ _ a.1 }

keyed-storable : (q : Keyed) → Numbers q → overlong q ≡ false → wrong_bytes q ≡ false → MayStore q
unfolding overlong wrong_bytes
keyed-storable (lookup k c t e) n o b = tt
keyed-storable (store k c v x e) n o b = may-store k c v x e (not-overlong k c v o) (not-false (is_value v) b) n.0 n.1
keyed-storable (invalidate k) n o b = tt

pub call-storable : (q : Keyed) → Numbers q → StorableEvents (may_store is_value) (events_of (call_of q))
unfolding call_of events_of ons
call-storable q n =
    by_test (overlong q) (λ t. rw t tt) (λ t. by_test (wrong_bytes q) (λ u. rw (t, u) tt) (λ u. rw (t, u) (keyed-storable q n t u, tt)))
