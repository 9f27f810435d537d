-- No plan that planning wrote breaks a rule (C10 of docs/BEHAVIOUR.md): on well-formed rows every value that a lookup serves is a RESP3 value, so what
-- planning writes there is a plan and is read as its outcomes, with nothing assumed of the answers. Assumes that the rows are well-formed, as those of
-- every image are, and that the record is valid.
use Rattle.std.proofs.Math.Path.{◌≡◌, subst}
use Rattle.std.specs.Prelude.{refl, List, [], ◌∷◌, ℕ, ◌≤◌, length}
use Rattle.std.proofs.Math.Option.{Option, none, some, none-ne-some, some-injective}
use Rattle.std.proofs.Common.{arith}
use Rattle.buffer.specs.Cases.{by_test}
use Rattle.buffer.specs.Same.{Bytes, same}
use Rattle.config.specs.Limits.{max_bytes}
use Rattle.config.specs.declared.Settings.{Settings}
use Rattle.format.specs.Lists.{All}
use Rattle.resp3.specs.Value.{IsValue}
use Rattle.resp3.specs.Ends.{is_value}
use Rattle.resp3.proofs.Law.{value-law}
use Rattle.call_record.specs.Record.{Record, enc_record, ValidRecord, transaction}
use Rattle.book.specs.Book.{Setup, Entry, Item, Row, Book, Answer, find, without, value_for, current, serve, lookup_item, key_of, effect_on, effect, answer_to}
use Rattle.book.specs.Calls.{Wanted}
use Rattle.book.specs.Each.{Each}
use Rattle.book.proofs.EachLaws.{each-find}
use Rattle.book.specs.Lookups.{dry}
use Rattle.book.proofs.Lookups.{planned}
use Rattle.book.specs.Storable.{StorableEntries, StorableItem}
use Rattle.arena.specs.Decode.{may_store}
use Rattle.arena.specs.Tests.{WellFormed}
use Rattle.arena.proofs.Tests.{every-yes}
use Rattle.planning.specs.Ask.{ask, any_late}
use Rattle.planning.specs.Outcome.{wanted, outcomes}
use Rattle.planning.specs.Planning.{Planned, because, done, planned_from, short, plan_answer, plan_on}
use Rattle.planning.proofs.Kept.{GoodAnswer}
use Rattle.plan_outcomes.specs.Law.{Read}
use Rattle.plan_outcomes.proofs.Law.{planned-read}

-- an entry's value is a value
value-good : (k c : Bytes) (ens : List Entry) (v : Bytes) → StorableEntries (may_store is_value) k ens → value_for c ens ≡ some v → IsValue v
unfolding value_for may_store
value-good k c [] v g f = absurd (none-ne-some v f)
value-good k c (en ∷ ens) v g f =
    by_test (same c en.command)
    (λ q. subst IsValue (some-injective en.value v (rw q at f)) ((value-law en.value).0 (every-yes _ g.0).1.1.0))
    (λ q. value-good k c ens v g.1 (rw q at f))

-- so what is served is one
serve-good : (o : Option Bytes) (row : Row) → ((v : Bytes) → o ≡ some v → IsValue v) → GoodAnswer (serve o row).answer
unfolding serve GoodAnswer
serve-good none row h = tt
serve-good (some v) row h = h v refl

lookup-good : (k c : Bytes) (t e : ℕ) (row : Row) → Each (StorableItem (may_store is_value)) row → (o : Option Item) → find k row ≡ o
    → GoodAnswer (lookup_item o k c t e row).answer
unfolding lookup_item GoodAnswer
lookup-good k c t e row w none f = tt
lookup-good k c t e row w (some it) f =
    by_test (current t e it)
    (λ l.
    rw l
    (serve-good (value_for c it.entries) (it ∷ without k row)
    (λ v q. value-good it.key c it.entries v (each-find (StorableItem (may_store is_value)) k row it w f).entries q)))
    (λ l. rw l tt)

-- of every lookup
pub dry-good : (p : Setup) (bk : Book) (t e : ℕ) (ws : List Wanted) → WellFormed is_value p bk.rows → All GoodAnswer (dry p bk t e ws)
unfolding dry answer_to effect effect_on key_of
dry-good p bk t e [] w = tt
dry-good p bk t e (x ∷ ws) w =
    let row = bk.rows (p.shard_of x.key) in
    (lookup-good x.key x.command t e row (w.fine (p.shard_of x.key)).fits (find x.key row) refl, dry-good p bk t e ws w)

module _ (p : Setup) (bk : Book) (g : Settings) (t e : ℕ) (r : Record) (plan_room send_room : ℕ) where
  -- the answers to its lookups
  abbrev said : List Answer
  said = dry p bk t e (wanted (ask g t) r.commands)

  -- what planning writes, where no cause refuses it
  pub plan-read : (x : Planned) → WellFormed is_value p bk.rows → ValidRecord r → length (enc_record r) ≤ max_bytes
      → plan_on p bk g t e r plan_room send_room ≡ done x → Read x.plan (transaction r) (outcomes (ask g t) r.commands said)
  unfolding plan_on plan_answer
  plan-read x w v b q =
      by_test (any_late g t r.commands)
      (λ l. absurd (let z : because 4 ≡ done x = rw l at q in let y : ◌≡◌ {A = ℕ} 0 1 = cc in omega arith))
      (λ l.
      by_test (short (ask g t) g r plan_room send_room said)
      (λ s. absurd (let z : because 5 ≡ done x = rw (planned, l, s) at q in let y : ◌≡◌ {A = ℕ} 0 1 = cc in omega arith))
      (λ s.
      let z : done (planned_from (ask g t) g r said) ≡ done x = rw (planned, l, s) at q in
      let y : planned_from (ask g t) g r said ≡ x = cc in
      subst (λ (d : Planned). Read d.plan (transaction r) (outcomes (ask g t) r.commands said)) y
      (planned-read g t r said v b l (dry-good p bk t e (wanted (ask g t) r.commands) w))))
