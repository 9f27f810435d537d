-- A push on the bytes of a book is the book's call: its whole return, and what is held then. Assumes what Bridge.antt does.
use Rattle.std.specs.Prelude.{◌≡◌, refl, ℕ, false, cond, []}
use Rattle.std.proofs.Common.{ap, ◌∙◌}
use Rattle.std.proofs.Math.Option as option
use Rattle.buffer.specs.Cases.{by_test}
use Rattle.buffer.specs.Same.{Bytes}
use Rattle.config.specs.Causes.{bad_reply}
use Rattle.config.specs.Config.{refused, settings_of}
use Rattle.resp3.specs.Ends.{is_value}
use Rattle.resp3.specs.Decode as resp
use Rattle.book.specs.Book.{Book, invalidate, after_all}
use Rattle.book.specs.Calls.{after_call, call-defs}
use Rattle.arena.specs.Tests.{WellFormed}
use Rattle.arena.proofs.Image.{decode-encode, encoded-length}
use Rattle.arena.specs.Held.{Held, lend}
use Rattle.resolving.specs.Pushes.{pushed}
use Rattle.call_entry.specs.Entered.{no_cause, on_rows, entered}
use Rattle.single_calls.specs.Single.{Return, refused_as}
use Rattle.push.specs.Push.{call_for, pushed_on, imaged, push_call}
use Rattle.demand.specs.Call as real
use Rattle.demand.specs.Call.{Stepped, step, setup_with, book_call}
use Rattle.demand.specs.Replies.{with_next, respond, return_for, push_number}
use Rattle.demand.proofs.Free.{renumbered, push-free}
use Rattle.demand.proofs.Bridge.{is-fine, is-sized, held-fine}

module _ (size n m d : ℕ) (pass : refused size m n ≡ false) (bk : Book) (w : WellFormed is_value (setup_with size n) bk.rows) (bytes : Bytes) where
  -- what a push is given: no next number
  abbrev h : Held
  h = lend (setup_with size n) n (renumbered 0 bk)

  -- a step as what the push returns and leaves shows it
  abbrev shown : Return → Stepped
  shown r = record { return = real.pushed r.cause; held = record { arena = r.held.arena; counts = r.held.counts; next = bk.next } }

  -- causes 1 and 9 let it through
  push-on : push_call size m d bytes h ≡ cond (is_value bytes) (pushed_on (setup_with size n) bk.rows (resp.decode bytes) h) (refused_as bad_reply h)
  unfolding push_call on_rows entered imaged setup_with settings_of lend
  push-on = rw (held-fine size n m d pass (invalidate []) bk 0 w) (rw (decode-encode is_value (setup_with size n) n (is-sized size n m d pass) bk.rows w))

  -- a push that no cause refuses leaves what the book's call leaves
  push-held : pushed_on (setup_with size n) bk.rows (resp.decode bytes) h
      ≡ record {
        cause = no_cause;
        value = option.none;
        held = lend (setup_with size n) n (renumbered 0 (after_call (setup_with size n) (pushed (resp.decode bytes)) bk));
      }
  unfolding pushed_on lend
  push-held =
      rw (encoded-length is_value (setup_with size n) n (is-sized size n m d pass) bk.rows w)
      (ap (λ (z : Book). record { cause = no_cause; value = option.none; held = lend (setup_with size n) n z })
      (push-free (setup_with size n) 0 bk (resp.decode bytes)))

  -- a push as a step
  pub push_step : step size (real.push m d bytes) (lend (setup_with size n) n bk)
      ≡ record {
        return = return_for size n (real.push m d bytes) (respond (setup_with size n) size n (real.push m d bytes) bk);
        held = with_next bk.next (lend (setup_with size n) n (after_call (setup_with size n) (book_call size n (real.push m d bytes)) bk));
      }
  unfolding step book_call return_for push_number call_for lend
  push_step =
      rw (is-fine size n m d pass)
      (ap shown push-on
      ∙ by_test (is_value bytes)
      (λ t. rw t (ap shown push-held))
      (λ t. rw t (unfold call-defs after_all in refl)))
