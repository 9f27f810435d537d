-- The ways through the whole call, as laws of its definition. Assumes what `Lent` says of the arena.
use Rattle.std.specs.Prelude.{◌≡◌, refl, ℕ, true, false, length, Ok, Err, Some}
use Rattle.std.proofs.Common.{sym, ap, ◌∙◌}
use Rattle.buffer.specs.Same.{Bytes}
use Rattle.config.specs.Causes.{bad_reply, number, cause_numbered}
use Rattle.config.specs.declared.Cause.{Cause}
use Rattle.config.specs.declared.Settings.{Settings}
use Rattle.statistics.specs.declared.Statistics.{Statistics}
use Rattle.resp3.specs.Ends.{is_value}
use Rattle.resp3.specs.Decode.{decode}
use Rattle.resp3.proofs.Law.{value-means}
use Rattle.book.specs.Book.{Setup, Row, Counts}
use Rattle.book.specs.Calls.{after_call}
use Rattle.arena.specs.Layout.{encode}
use Rattle.arena.specs.Decode as arena
use Rattle.arena.specs.Held.{Held, lend, book_of}
use Rattle.resolving.specs.Pushes.{pushed}
use Rattle.sharded_lru.specs.Lent.{setup_now}
use Rattle.sharded_lru.specs.Admit.{admitted, Entered}
use Rattle.call_entry.specs.Entered.{holding}
use Rattle.call_entry.specs.Laws.{is-entered, not_entered}
use Rattle.single_calls.specs.Single.{Return, refused_as}
use Rattle.statistics.specs.OfBook.{counts_of}
use Rattle.single_calls.specs.Answers.{InvalidationLeft}
use Rattle.single_calls.specs.AnswerLaws.{refused-is}
use Rattle.push.specs.Push.{pushed_on, imaged, push_call}
use Rattle.push.specs.Kept.{Kept, One}

-- ---- causes 1 and 9

module _ (size mode ttl : ℕ) (bytes s : Bytes) where
  -- a push that is not admitted
  pub not-admitted : (cause : Cause) (lent : Counts) (next : ℕ) → admitted size mode ttl s ≡ Err cause
      → push_call size mode ttl bytes (holding s lent next) ≡ refused_as (number cause) (holding s lent next)
  unfolding push_call
  not-admitted cause lent next e =
      not_entered (λ n. refused_as n (holding s lent next)) (λ g rows. imaged (setup_now g) rows bytes (holding s lent next)) size mode ttl cause s e

  -- one that is
  pub is-admitted : (g : Settings) (lent : Counts) (next : ℕ) → Entered size mode ttl s g
      → push_call size mode ttl bytes (holding s lent next) ≡ imaged (setup_now g) (arena.read_arena (setup_now g) s) bytes (holding s lent next)
  unfolding push_call
  is-admitted g lent next w =
      is-entered (λ n. refused_as n (holding s lent next)) (λ g rows. imaged (setup_now g) rows bytes (holding s lent next)) _ s g _ w.fine w.read

-- ---- cause 6

module _ (p : Setup) (rows : ℕ → Row) (bytes : Bytes) (h : Held) where
  pub bad-bytes : is_value bytes ≡ false → imaged p rows bytes h ≡ refused_as bad_reply h
  unfolding imaged
  bad-bytes e = rw e

  pub good-bytes : is_value bytes ≡ true → imaged p rows bytes h ≡ pushed_on p rows (decode bytes) h
  unfolding imaged
  good-bytes e = rw e

-- the value that the bytes are
pub one_value : (bytes : Bytes) → is_value bytes ≡ true → One bytes
one_value bytes e = record { value = decode bytes; means = value-means bytes e }

-- ---- what is left

pub push-refused : (d : Return) (cause : Cause) → cause_numbered (number cause) ≡ Some cause → (s : Bytes) (c : Statistics) (next : ℕ)
    → d ≡ refused_as (number cause) (holding s (counts_of c) next) → InvalidationLeft d s (record { answer = Err cause; counts = c })
push-refused d cause f s c next e =
    rw e (record { answer = refused-is (refused_as (number cause) (holding s (counts_of c) next)) cause f refl; cause = refl; arena = refl; counts = refl })

pub push-left : (g : Settings) (rows : ℕ → Row) (bytes s u : Bytes) (lent : Counts) (next : ℕ) (sum : Statistics) (d : Return)
    → d ≡ pushed_on (setup_now g) rows (decode bytes) (holding s lent next) → length u ≡ length s
    → Kept g u sum (after_call (setup_now g) (pushed (decode bytes)) (book_of rows (holding s lent next)))
    → InvalidationLeft d u (record { answer = Ok tt; counts = sum })
unfolding pushed_on lend
push-left g rows bytes s u lent next sum d e l k =
    let bk = after_call (setup_now g) (pushed (decode bytes)) (book_of rows (holding s lent next)) in
    rw e
    (record { answer = refl; cause = refl; arena = sym k.lent.image.bytes ∙ ap (λ (n : ℕ). encode (setup_now g) n bk.rows) l; counts = k.counts })
