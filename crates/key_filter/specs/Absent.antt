-- A lookup of a key that no item has: it misses, drops nothing and leaves the rows as they were. Assumes nothing.
use Rattle.std.specs.Prelude.{◌≡◌, refl, ℕ, eqb}
use Rattle.std.proofs.Common.{sym, ◌∙◌, subst}
use Rattle.std.proofs.Math.Path.{ap, fun_ext}
use Rattle.std.proofs.Math.Option.{none}
use borrow.Author.Tests.{eqb-true}
use Rattle.buffer.specs.Cases.{by_test}
use Rattle.buffer.specs.Same.{Bytes}
use Rattle.config.specs.declared.Settings.{Settings}
use Rattle.siphash.specs.Shard.{shard_of}
use Rattle.book.specs.Book.{Row, lookup, on, key_of, find, lookup_item, effect_on, set_row}
use Rattle.book.proofs.Trace.{row_here, row-elsewhere}
use Rattle.arena.specs.SetupOf.{setup_of}
use Rattle.shard_lookup.specs.Looked.{Told}
use Rattle.shard_lookup.specs.declared.Looked.TheVariants.{Miss}
use Rattle.sharded_lru.specs.Lent.{setup_now, Lent, effect_in, rows_after}

module _ (g : Settings) (s : Bytes) (rows : ℕ → Row) (k c : Bytes) (t e : ℕ) (absent : find k (rows (shard_of k g.shards)) ≡ none) where
  pub absent-told : Told s (effect_in (setup_now g) (lookup k c t e) rows) (Miss 0)
  unfolding effect_on lookup_item setup_of key_of
  absent-told = rw absent (refl, refl)

  abbrev home : ℕ
  home = shard_of k g.shards

  same_row : (effect_in (setup_now g) (lookup k c t e) rows).row ≡ rows home
  unfolding effect_on lookup_item setup_of key_of
  same_row = rw absent

  same_rows : rows_after (setup_now g) (on (lookup k c t e)) rows ≡ rows
  unfolding rows_after setup_of key_of
  same_rows =
      fun_ext
      (λ i.
      by_test (eqb i home)
      (λ q.
      let z : i ≡ home = eqb-true i home q in
      ap (set_row home (effect_in (setup_now g) (lookup k c t e) rows).row rows) z ∙ row_here home _ rows ∙ same_row ∙ ap rows (sym z))
      (λ q. row-elsewhere home i _ rows q))

  pub absent-lent : Lent g s rows → Lent g s (rows_after (setup_now g) (on (lookup k c t e)) rows)
  absent-lent l = subst (Lent g s) (sym same_rows) l
