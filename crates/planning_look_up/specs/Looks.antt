-- Lookups in order, on the arena and the counts: what they make of the book that these hold. Assumes nothing.
-- Letters: g settings, t clock, e epoch, a the arena's bytes, n the counts, w a key with its command key, s the record's bytes, v several keys.
use Rattle.std.specs.Prelude.{◌≡◌, refl, take}
use Rattle.std.proofs.Common.{sym, ap₂, ◌∙◌, arith}
use Rattle.std.proofs.Math.Path.{ap, subst}
use mathlib.Core.List.{List, [], ◌∷◌}
use Prim.Native.Nat.{ℕ, suc, ◌+◌, ◌≤◌}
use Rattle.std.proofs.Math.Numerals.{add-one}
use Rattle.std.proofs.Math.ListN.{length}
use Rattle.buffer.specs.Same.{Bytes}
use Rattle.config.specs.declared.Settings.{Settings}
use Rattle.statistics.specs.OfBook.{counts_of, adding}
use Rattle.statistics.specs.OfBookLaws.{adding-counts}
use Rattle.statistics.specs.declared.Statistics.{Statistics}
use Rattle.call_record.specs.Record.{Command}
use Rattle.cursor.specs.At.{range_bytes, ArgsHere}
use Rattle.cursor.specs.declared.Args.{Args}
use Rattle.book.specs.Book.{Book, Row, Effect, Keyed, lookup, on, count, put, effect, after, after_all}
use Rattle.book.specs.Calls.{Wanted, lookups, ons}
use Rattle.planning.specs.Ask as asks
use Rattle.planning.specs.Outcome.{whole_key, part_key, part_keys, wants}
use Rattle.shard_lookup.specs.Looked.{adds_by, Told, told-adds}
use Rattle.shard_lookup.specs.declared.Looked.{Looked}
use Rattle.sharded_lru.specs.Lent.{setup_now, Lent, Arena, effect_in, rows_after}
use Rattle.sharded_lru.specs.Laws.{rows-after}
use Rattle.key_filter.specs.Filter.{Covers, Filters}
use Rattle.key_filter.specs.Laws.{covers-after, filters-one}
use Rattle.planning_ask.specs.Asked.{simples_of, several_name, path_in, keys_in, wanted_in, SeveralIn, KeyStep}
use Rattle.planning_ask.specs.declared.KeyAt.{KeyAt}
use Rattle.planning_ask.specs.declared.Several.{Several}

-- ---- lookups

-- the arena holds the book's rows, and these are its counts
pub record Keeps (g : Settings) (a : Bytes) (n : Statistics) (bk : Book) : Type 0 where
  pub rows : Lent g a bk.rows
  pub counts : counts_of n ≡ bk.counts

-- from arena and counts to arena and counts, these lookups were done in their order
abbrev pub Looks : Settings → ℕ → ℕ → List Wanted → Bytes → Statistics → Bytes → Statistics → Type 0
Looks g t e ws a n a' n' = (bk : Book) → Keeps g a n bk → Keeps g a' n' (after_all (setup_now g) (ons (lookups t e ws)) bk)

module _ (g : Settings) (t e : ℕ) where
  -- none
  pub looks-none : (a : Bytes) (n : Statistics) → Looks g t e [] a n a n
  unfolding after_all ons lookups
  looks-none a n bk w = w

  -- one, and then others
  pub looks-more : (w : Wanted) (ws : List Wanted) (a a₁ a₂ : Bytes) (n n₁ n₂ : Statistics)
      → Looks g t e (w ∷ []) a n a₁ n₁ → Looks g t e ws a₁ n₁ a₂ n₂ → Looks g t e (w ∷ ws) a n a₂ n₂
  unfolding after_all ons lookups
  looks-more w ws a a₁ a₂ n n₁ n₂ x y bk k = y (after (setup_now g) (on (lookup w.key w.command t e)) bk) (x bk k)

  -- one, by what was answered
  counted : (f : Effect) (a : Bytes) (n : Statistics) (bk : Book) (r : Looked) → counts_of n ≡ bk.counts → Told a f r
      → counts_of (adding n (adds_by r)) ≡ count bk.counts f.adds
  counted f a n bk r q h = adding-counts n (adds_by r) ∙ ap₂ count q (sym (told-adds a f r h))

  told : (q : Keyed) (a a' : Bytes) (n n' : Statistics) (r : Looked) (bk : Book) → n' ≡ adding n (adds_by r)
      → Lent g a' (rows_after (setup_now g) (on q) bk.rows) × Told a' (effect_in (setup_now g) q bk.rows) r
      → Keeps g a n bk → Keeps g a' n' (after (setup_now g) (on q) bk)
  unfolding after put effect rows_after
  told q a a' n n' r bk z h b =
      record { rows = h.0; counts = ap counts_of z ∙ counted (effect_in (setup_now g) q bk.rows) a' n bk r b.counts h.1 }

  pub looks-one : (w : Wanted) (k c a a' : Bytes) (n n' : Statistics) (r : Looked) → w.key ≡ k → w.command ≡ c → n' ≡ adding n (adds_by r)
      → ((rows : ℕ → Row) → Lent g a rows → Lent g a' (rows_after (setup_now g) (on (lookup k c t e)) rows)
      × Told a' (effect_in (setup_now g) (lookup k c t e) rows) r)
      → Looks g t e (w ∷ []) a n a' n'
  unfolding after_all ons lookups
  looks-one w k c a a' n n' r p q z h bk b =
      let d : lookup k c t e ≡ lookup w.key w.command t e = rw (p, q) in
      subst (λ (x : Keyed). Keeps g a' n' (after (setup_now g) (on x) bk)) d (told (lookup k c t e) a a' n n' r bk z (h bk.rows b.rows) b)

  -- the arena is one still
  pub looks-arena : (ws : List Wanted) (a a' : Bytes) (n n' : Statistics) → Looks g t e ws a n a' n' → Arena g a → Arena g a'
  looks-arena ws a a' n n' x w =
      let bk : Book = record { rows = w.rows; counts = counts_of n; next = 0 } in
      record {
        rows = (after_all (setup_now g) (ons (lookups t e ws)) bk).rows;
        lent = (x bk (record { rows = w.lent; counts = refl })).rows;
      }

  -- the rows after lookups are covered as those before
  covers-lookups : (seen : List ℕ) (ws : List Wanted) (bk : Book) → Covers seen bk.rows
      → Covers seen (after_all (setup_now g) (ons (lookups t e ws)) bk).rows
  unfolding after_all ons lookups
  covers-lookups seen [] bk c = c
  covers-lookups seen (w ∷ ws) bk c =
      let q : Keyed = lookup w.key w.command t e in
      covers-lookups seen ws (after (setup_now g) (on q) bk)
      (subst (Covers seen) (sym (rows-after (setup_now g) (on q) bk)) (covers-after (setup_now g) seen q bk.rows tt c))

  -- and a filter that told of the arena still does
  pub looks-filters : (seen : List ℕ) (ws : List Wanted) (a a' : Bytes) (n n' : Statistics) → Looks g t e ws a n a' n' → Arena g a → Filters g a seen
      → Filters g a' seen
  looks-filters seen ws a a' n n' x w f =
      let bk : Book = record { rows = w.rows; counts = counts_of n; next = 0 } in
      filters-one g a' (after_all (setup_now g) (ons (lookups t e ws)) bk).rows seen (x bk (record { rows = w.lent; counts = refl })).rows
      (covers-lookups seen ws bk (f w.rows w.lent))

-- ---- the keys of several, one after the other

-- those that stand behind the cursor k, m of them
abbrev pub wanted_from : Bytes → Several → Args → ℕ → List Wanted
wanted_from s v k m = part_keys (several_name v.json) (path_in s v) (take m (simples_of s k))

-- with m keys left behind the cursor k, whoever looks these up from here has looked up all from the start
pub record Turn (g : Settings) (t e : ℕ) (s : Bytes) (v : Several) (a₀ : Bytes) (n₀ : Statistics) (k : Args) (m : ℕ) (a : Bytes) (n : Statistics) : Type 0 where
  pub here : ArgsHere s k
  pub enough : m ≤ length (simples_of s k)
  pub arena : Arena g a
  pub goes : (a' : Bytes) (n' : Statistics) → Looks g t e (wanted_from s v k m) a n a' n' → Looks g t e (wanted_in s v) a₀ n₀ a' n'

module _ (g : Settings) (t e : ℕ) (s : Bytes) (v : Several) (a₀ : Bytes) (n₀ : Statistics) where
  pub turn-start : SeveralIn s v → Arena g a₀ → Turn g t e s v a₀ n₀ v.args v.keys a₀ n₀
  turn-start i w = record { here = i.here; enough = i.enough; arena = w; goes = λ a' n' x. x }

  -- one key further
  pub turn-next : (k : Args) (m j : ℕ) (a a₁ : Bytes) (n n₁ : Statistics) (r : KeyAt) → m ≡ j + 1 → KeyStep s k r
      → Looks g t e (part_key (several_name v.json) (path_in s v) (range_bytes s r.key) ∷ []) a n a₁ n₁
      → Turn g t e s v a₀ n₀ k m a n → Turn g t e s v a₀ n₀ r.rest j a₁ n₁
  unfolding part_keys
  turn-next k m j a a₁ n n₁ r q i x w =
      let l = ap length i.is in
      let h = w.enough in
      let z : m ≡ suc j = q ∙ add-one j in
      let W : Wanted = part_key (several_name v.json) (path_in s v) (range_bytes s r.key) in
      let d : wanted_from s v k m ≡ W ∷ wanted_from s v r.rest j = rw (z, i.is) in
      record {
        here = i.here;
        enough = omega arith;
        arena = looks-arena g t e (W ∷ []) a a₁ n n₁ x w.arena;
        goes = λ a' n' y. w.goes a' n' (rw d (looks-more g t e W (wanted_from s v r.rest j) a a₁ a' n n₁ n' x y));
      }

  -- all are looked up
  pub turn_end : (k : Args) (m : ℕ) (a : Bytes) (n : Statistics) → m ≡ 0 → Turn g t e s v a₀ n₀ k m a n → Looks g t e (wanted_in s v) a₀ n₀ a n
  unfolding part_keys
  turn_end k m a n q w = w.goes a n (rw q (looks-none g t e a n))

-- ---- what a command looks up

module _ (g : Settings) (t e : ℕ) (c : Command) (a a' : Bytes) (n n' : Statistics) where
  pub wants-nothing : asks.ask g t c ≡ asks.nothing → Looks g t e (wants c (asks.ask g t c)) a n a n
  unfolding wants
  wants-nothing q = rw q (looks-none g t e a n)

  pub wants-uncacheable : asks.ask g t c ≡ asks.uncacheable → Looks g t e (wants c (asks.ask g t c)) a n a n
  unfolding wants
  wants-uncacheable q = rw q (looks-none g t e a n)

  pub wants-one : (k : Bytes) (x : ℕ) → asks.ask g t c ≡ asks.one_key k x → Looks g t e (whole_key c k ∷ []) a n a' n'
      → Looks g t e (wants c (asks.ask g t c)) a n a' n'
  unfolding wants
  wants-one k x q y = rw q y

  pub wants-several : (s : Bytes) (v : Several) (x : ℕ) → asks.ask g t c ≡ asks.several_keys (several_name v.json) (keys_in s v) (path_in s v) x
      → Looks g t e (wanted_in s v) a n a' n' → Looks g t e (wants c (asks.ask g t c)) a n a' n'
  unfolding wants
  wants-several s v x q y = rw q y
