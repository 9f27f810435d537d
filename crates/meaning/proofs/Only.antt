-- The cases of Meaning.antt exclude each other and settle the answer: two answers to the same arguments that are both a case there are one answer. So an export
-- answers x exactly if x is a case (`plan-exactly` and the others). Assumes nothing.
use Rattle.std.specs.Prelude.{◌≡◌, refl, ◌↔◌, Bool, true, false, ℕ, length, Result, Option as Maybe, Err}
use Rattle.std.proofs.Common.{sym, ap, ap₂, subst, ◌∙◌, arith}
use Rattle.std.proofs.Math.Option.{some-injective}
use Rattle.buffer.specs.Same.{Bytes}
use Rattle.config.specs.Config.{refused, settings_of}
use Rattle.config.specs.declared.Settings.{Settings}
use Rattle.resp3.specs.Value.{Value, Means}
use Rattle.resp3.proofs.Law as values
use Rattle.resp3_prefix.specs.Begun.{first_value}
use Rattle.resp3_prefix.specs.Law.{complete-law, least-law, more-law, never-law}
use Rattle.resp3_prefix.specs.declared.NotWhole.{NotWhole}
use Rattle.resp3_prefix.specs.declared.NotWhole.TheVariants.{Lacks}
use Rattle.call_record.specs.Record.{Record}
use Rattle.call_record.specs.Check.{record-one, wrong-once, record-right}
use Rattle.book.specs.Book.{Row, Counts, Keyed}
use Rattle.arena.specs.Held.{Held}
use Rattle.sharded_lru.specs.Lent.{setup_now}
use Rattle.planning.specs.Plan.{Plan, enc_plan}
use Rattle.planning.specs.Rules.{GoodPlan}
use Rattle.plan.proofs.Law as plans
use Rattle.resolving_walk.specs.Commands.{plan_read}
use Rattle.resolving.specs.Resolve.{resolve}
use Rattle.single_calls.specs.Single.{Return, refused_as, single_call}
use Rattle.call_entry.specs.Entered.{holding}
use Rattle.push.specs.Push.{pushed_on}
use Rattle.cache_manager.specs.Pipeline as plannings
use Rattle.cache_manager.specs.Pipeline.{Left, refusal, recorded}
use Rattle.caching_cmd.specs.Call as resolvings
use Rattle.caching_cmd.specs.Call.{ResolveReturn, resolved_on}
use Rattle.config.specs.declared.Cause.{Cause}
use Rattle.served.specs.Served.{served_answers, served_from, buffer_from, served_call, served_buffer}
use Rattle.caching.specs.Planned.{plan_by}
use Rattle.caching.specs.Resolved.{resolve_by}
use Rattle.caching.specs.Pushed.{push_by}
use Rattle.caching.specs.Exported.{lookup_by}
use Rattle.caching.specs.Place.{place_by}
use Rattle.meaning.specs.Meaning.{Enters, wrong_settings, no_image, on_image, Plans, record_too_long, no_record, of_record, Resolves, no_plan}
use Rattle.meaning.specs.Rows.{Image}
use Rattle.meaning.specs.Meaning.{no_replies, of_plan, Pushes, no_push, of_value, Calls, part_too_long, no_value, on_book, Looks, key_too_long, looked_up}
use Rattle.meaning.specs.Meaning.{Serves, no_plan_served, of_plan_served, EndsSo, is_complete, lacks, never}
use Rattle.meaning.proofs.Readings.{readings}
use Rattle.meaning.proofs.Theorems.{plan-means, resolve-means, push-means, lookup-means, single-means, served-means, value-end-means}

-- no test both holds and fails
never_both : {b : Bool} → b ≡ true → b ≡ false → ⊥
never_both e f = let z : ◌≡◌ {A = ℕ} 0 1 = cc in omega arith

-- ---- causes 1 and 9

module _ {R : Type 0} (size mode ttl : ℕ) (s : Bytes) (refusal : ℕ → R) (goes_on : Settings → (ℕ → Row) → R → Type 0)
    (one : (g : Settings) (rows : ℕ → Row) (x y : R) → goes_on g rows x → goes_on g rows y → x ≡ y) where
  abbrev given : Settings
  given = settings_of size mode ttl (length s)

  -- an arena is the image of one book's rows
  rows-one : refused size mode (length s) ≡ false → (a b : ℕ → Row) → Image (setup_now given) s a → Image (setup_now given) s b → a ≡ b
  rows-one f a b i j =
      some-injective a b (sym ((readings.rows_of size mode ttl s f a).1 i) ∙ (readings.rows_of size mode ttl s f b).1 j)

  pub enters-one : {x y : R} → Enters size mode ttl s refusal goes_on x → Enters size mode ttl s refusal goes_on y → x ≡ y
  enters-one (wrong_settings e) (wrong_settings f) = refl
  enters-one (wrong_settings e) (no_image f n) = absurd (never_both e f)
  enters-one (wrong_settings e) (on_image f b j y w) = absurd (never_both e f)
  enters-one (no_image e m) (wrong_settings f) = absurd (never_both f e)
  enters-one (no_image e m) (no_image f n) = refl
  enters-one (no_image e m) (on_image f b j y w) = absurd (m b j)
  enters-one (on_image e a i x v) (wrong_settings f) = absurd (never_both f e)
  enters-one (on_image e a i x v) (no_image f n) = absurd (n a i)
  enters-one (on_image e a i x v) (on_image f b j y w) = one given a x y v (subst (λ (rows : ℕ → Row). goes_on given rows y) (sym (rows-one e a b i j)) w)

-- ---- planning

module _ (clock epoch : ℕ) (bytes plan send : Bytes) (h : Held) (g : Settings) (rows : ℕ → Row) where
  plans-one : {x y : Left} → Plans clock epoch bytes plan send h g rows x → Plans clock epoch bytes plan send h g rows y → x ≡ y
  plans-one (record_too_long l) (record_too_long m) = refl
  plans-one (record_too_long l) (no_record m o f) = absurd (omega arith)
  plans-one (record_too_long l) (of_record m r w e) = absurd (omega arith)
  plans-one (no_record l o f) (record_too_long m) = absurd (omega arith)
  plans-one (no_record l o f) (no_record m p d) =
      ap (λ (i : ℕ). refusal clock epoch bytes plan send h (plannings.wrong_at i)) (wrong-once bytes o p f d)
  plans-one (no_record l o f) (of_record m r w e) = absurd (record-right bytes (record { value = r; valid = w; bytes = e }) o f)
  plans-one (of_record l r w e) (record_too_long m) = absurd (omega arith)
  plans-one (of_record l r w e) (no_record m o f) = absurd (record-right bytes (record { value = r; valid = w; bytes = e }) o f)
  plans-one (of_record l r w e) (of_record m q v d) = ap (λ (z : Record). recorded clock epoch bytes plan send h g rows z) (record-one bytes r q w v e d)

-- ---- resolving, and a push: a plan's bytes are one plan's, a value's bytes one value's

plan-one : (s : Bytes) (p q : Plan) → GoodPlan p → s ≡ enc_plan p → GoodPlan q → s ≡ enc_plan q → p ≡ q
plan-one s p q w e v d = plans.encode_injective p q w v (sym e ∙ d)

value-one : (s : Bytes) (v w : Value) → Means s v → Means s w → v ≡ w
value-one s v w m n = sym (values.decode-law s v m) ∙ values.decode-law s w n

module _ (clock epoch : ℕ) (plan replies buffer : Bytes) (h : Held) (g : Settings) (rows : ℕ → Row) where
  resolves-one : {x y : ResolveReturn} → Resolves clock epoch plan replies buffer h g rows x → Resolves clock epoch plan replies buffer h g rows y → x ≡ y
  resolves-one (no_plan n) (no_plan m) = refl
  resolves-one (no_plan n) (no_replies p m) = absurd (n p)
  resolves-one (no_plan n) (of_plan q w e l v m) = absurd (n (record { plan = q; good = w; is = e }))
  resolves-one (no_replies p n) (no_plan m) = absurd (m p)
  resolves-one (no_replies p n) (no_replies q m) = refl
  resolves-one (no_replies p n) (of_plan q w e l v m) = absurd (n (record { small = l; v = v; means = m }))
  resolves-one (of_plan p w e l v m) (no_plan n) = absurd (n (record { plan = p; good = w; is = e }))
  resolves-one (of_plan p w e l v m) (no_replies q n) = absurd (n (record { small = l; v = v; means = m }))
  resolves-one (of_plan p w e l v m) (of_plan q x d k u n) =
      ap₂ (λ (z : Plan) (y : Value). resolved_on (setup_now g) rows z.transaction epoch (resolve (plan_read z) g.mode clock y) buffer h)
      (plan-one plan p q w e x d) (value-one replies v u m n)

module _ (bytes : Bytes) (h : Held) (g : Settings) (rows : ℕ → Row) where
  pushes-one : {x y : Return} → Pushes bytes h g rows x → Pushes bytes h g rows y → x ≡ y
  pushes-one (no_push n) (no_push m) = refl
  pushes-one (no_push n) (of_value l v m) = absurd (n (record { small = l; v = v; means = m }))
  pushes-one (of_value l v m) (no_push n) = absurd (n (record { small = l; v = v; means = m }))
  pushes-one (of_value l v m) (of_value k w n) = ap (λ (z : Value). pushed_on (setup_now g) rows z h) (value-one bytes v w m n)

-- ---- single calls

module _ (q : Keyed) (h : Held) (g : Settings) (rows : ℕ → Row) where
  calls-one : {x y : Return} → Calls q h g rows x → Calls q h g rows y → x ≡ y
  calls-one (part_too_long l) (part_too_long m) = refl
  calls-one (part_too_long l) (no_value m n) = absurd (never_both l m)
  calls-one (part_too_long l) (on_book m w) = absurd (never_both l m)
  calls-one (no_value l n) (part_too_long m) = absurd (never_both m l)
  calls-one (no_value l n) (no_value m k) = refl
  calls-one (no_value l n) (on_book m w) = absurd (n w)
  calls-one (on_book l w) (part_too_long m) = absurd (never_both m l)
  calls-one (on_book l w) (no_value m n) = absurd (n w)
  calls-one (on_book l w) (on_book m v) = refl

module _ (key command : Bytes) (clock epoch : ℕ) (h : Held) (g : Settings) (rows : ℕ → Row) where
  looks-one : {x y : Return × ℕ} → Looks key command clock epoch h g rows x → Looks key command clock epoch h g rows y → x ≡ y
  looks-one (key_too_long l) (key_too_long m) = refl
  looks-one (key_too_long l) (looked_up m) = absurd (never_both l m)
  looks-one (looked_up l) (key_too_long m) = absurd (never_both m l)
  looks-one (looked_up l) (looked_up m) = refl

-- ---- so a call answers x exactly if x is a case

module _ (size mode ttl : ℕ) (s : Bytes) (lent : Counts) (next : ℕ) where
  abbrev h : Held
  h = holding s lent next

  pub plan-exactly : (clock epoch : ℕ) (bytes plan send : Bytes) (x : Left)
      → (plan_by size mode ttl clock epoch bytes plan send s lent next ≡ x)
      ↔ Enters size mode ttl s (λ n. refusal clock epoch bytes plan send h (plannings.refused_as n)) (Plans clock epoch bytes plan send h) x
  plan-exactly clock epoch bytes plan send x =
      let w = plan-means size mode ttl clock epoch bytes plan send s lent next in (
        λ e. subst (Enters size mode ttl s (λ n. refusal clock epoch bytes plan send h (plannings.refused_as n)) (Plans clock epoch bytes plan send h)) e w,
        λ v. enters-one size mode ttl s _ _ (λ g rows x y u z. plans-one clock epoch bytes plan send h g rows u z) w v,
      )

  pub resolve-exactly : (clock epoch : ℕ) (plan replies answer : Bytes) (x : ResolveReturn)
      → (resolve_by size mode ttl clock epoch plan replies answer s lent next ≡ x)
      ↔ Enters size mode ttl s (λ n. resolvings.refused_as n answer h) (Resolves clock epoch plan replies answer h) x
  resolve-exactly clock epoch plan replies answer x =
      let w = resolve-means size mode ttl clock epoch plan replies answer s lent next in (
        λ e. subst (Enters size mode ttl s (λ n. resolvings.refused_as n answer h) (Resolves clock epoch plan replies answer h)) e w,
        λ v. enters-one size mode ttl s _ _ (λ g rows x y u z. resolves-one clock epoch plan replies answer h g rows u z) w v,
      )

  pub push-exactly : (bytes : Bytes) (x : Return)
      → (push_by size mode ttl bytes s lent next ≡ x) ↔ Enters size mode ttl s (λ n. refused_as n h) (Pushes bytes h) x
  push-exactly bytes x =
      let w = push-means size mode ttl bytes s lent next in (
        λ e. subst (Enters size mode ttl s (λ n. refused_as n h) (Pushes bytes h)) e w,
        λ v. enters-one size mode ttl s _ _ (λ g rows x y u z. pushes-one bytes h g rows u z) w v,
      )

  pub lookup-exactly : (clock epoch : ℕ) (key command : Bytes) (x : Return × ℕ)
      → (◌≡◌ {A = Return × ℕ} (lookup_by size mode ttl clock epoch key command s lent next, place_by size mode ttl clock epoch key command s lent next) x)
      ↔ Enters size mode ttl s (λ n. (refused_as n h, 0)) (Looks key command clock epoch h) x
  lookup-exactly clock epoch key command x =
      let w = lookup-means size mode ttl clock epoch key command s lent next in (
        λ e. subst (Enters size mode ttl s (λ n. (refused_as n h, 0)) (Looks key command clock epoch h)) e w,
        λ v. enters-one size mode ttl s _ _ (λ g rows x y u z. looks-one key command clock epoch h g rows u z) w v,
      )

  -- a store, or an invalidation
  pub single-exactly : (q : Keyed) (x : Return) → (single_call size mode ttl q h ≡ x) ↔ Enters size mode ttl s (λ n. refused_as n h) (Calls q h) x
  single-exactly q x =
      let w = single-means size mode ttl q s lent next in (
        λ e. subst (Enters size mode ttl s (λ n. refused_as n h) (Calls q h)) e w,
        λ v. enters-one size mode ttl s _ _ (λ g rows x y u z. calls-one q h g rows u z) w v,
      )

-- ---- a plan answered alone, and the end of the first value

serves-one : (plan buffer : Bytes) {x y : Result (Maybe ℕ) Cause × Bytes} → Serves plan buffer x → Serves plan buffer y → x ≡ y
serves-one plan buffer (no_plan_served n) (no_plan_served m) = refl
serves-one plan buffer (no_plan_served n) (of_plan_served q v d) = absurd (n (record { plan = q; good = v; is = d }))
serves-one plan buffer (of_plan_served p w e) (no_plan_served n) = absurd (n (record { plan = p; good = w; is = e }))
serves-one plan buffer (of_plan_served p w e) (of_plan_served q v d) =
    ap {B = Result (Maybe ℕ) Cause × Bytes}
    (λ (z : Plan). (
      served_from z.transaction (served_answers (plan_read z).commands) (length buffer),
      buffer_from z.transaction (served_answers (plan_read z).commands) buffer,
    ))
    (plan-one plan p q w e v d)

pub served-exactly : (plan buffer : Bytes) (x : Result (Maybe ℕ) Cause × Bytes)
    → (◌≡◌ {A = Result (Maybe ℕ) Cause × Bytes} (served_call plan (length buffer), served_buffer plan buffer) x) ↔ Serves plan buffer x
served-exactly plan buffer x =
    let w = served-means plan buffer in
    (λ e. subst (Serves plan buffer) e w, λ v. serves-one plan buffer w v)

ends_so : (s : Bytes) {x : Result ℕ NotWhole} → EndsSo s x → first_value s ≡ x
ends_so s (is_complete n c) = (complete-law s n).1 c
ends_so s (lacks m k b l) =
    let w = (more-law s).1 ((k, b), m) in
    let u = least-law s w.0 w.1 in
    let i = l w.0 u.0 in
    let j = u.1 k b in
    w.1 ∙ ap (λ (k : ℕ). Err (Lacks k)) (omega arith)
ends_so s (never m n) = (never-law s).1 (m, n)

pub value-end-exactly : (received : Bytes) (x : Result ℕ NotWhole) → (first_value received ≡ x) ↔ EndsSo received x
value-end-exactly received x = (λ e. subst (EndsSo received) e (value-end-means received), λ v. ends_so received v)
