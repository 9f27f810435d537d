-- A resolving on the bytes of a book is the book's call: its whole return, and what is held then; and events with keys do not see the counts. Assumes what
-- Bridge.antt does.
use Rattle.std.specs.Prelude.{◌≡◌, ℕ, false, List, [], ◌∷◌, leb, replicate}
use Rattle.std.proofs.Math.Path.{refl}
use Rattle.std.proofs.Common.{ap, ◌∙◌}
use Rattle.std.proofs.Math.Option.{Option, none, some}
use Rattle.std.proofs.Math.ListN.{length}
use Rattle.buffer.specs.Cases.{by_test}
use Rattle.buffer.specs.Same.{Bytes}
use Rattle.buffer.specs.Part.{put}
use Rattle.config.specs.Causes.{bad_shape}
use Rattle.config.specs.Config.{refused, settings_of}
use Rattle.config.specs.declared.Settings.{Settings}
use Rattle.resp3.specs.Ends.{is_value}
use Rattle.resp3.specs.Decode as resp
use Rattle.book.specs.Book as book
use Rattle.book.specs.Book.{Setup, Book, Counts, plus, Answer, Keyed, on, answers, answer_to, effect, after, after_all}
use Rattle.book.specs.Calls as calls
use Rattle.book.specs.Calls.{ons, stores, after_call, reply_to, call-defs}
use Rattle.arena.specs.Tests.{WellFormed}
use Rattle.arena.specs.Layout.{encode}
use Rattle.arena.proofs.Image.{decode-encode, encoded-length}
use Rattle.arena.specs.Held.{Held, lend}
use Rattle.planning.specs.Plan as nodes
use Rattle.plan.specs.Decode.{decode_plan}
use Rattle.resolving_walk.specs.Commands.{plan_read}
use Rattle.resolving.specs.Resolve as resolvings
use Rattle.resolving.specs.Resolve.{Resolved, cause7, answered}
use Rattle.resolving.specs.Result.{result_bytes}
use Rattle.caching_cmd.specs.Call.{ResolveReturn, fits, told_to, refused_of, answer_of, buffer_after, resolved_on, planned, resolve_call}
use Rattle.caching_cmd.specs.Told.{told_by}
use Rattle.call_entry.specs.Entered.{no_cause, on_rows, entered}
use Rattle.caching.specs.Resolved.{resolve_return}
use Rattle.demand.specs.Call as real
use Rattle.demand.specs.Call.{Stepped, with_arena, step, setup_with, book_call}
use Rattle.demand.specs.Replies.{respond, return_for, result_reply, resolved_reply, plan_lent, resolving_return}
use Rattle.demand.proofs.Bridge.{is-fine, is-sized, held-fine}

-- the book with other counts and another next number
abbrev pub recounted : Counts → ℕ → Book → Book
recounted lent next bk = record { rows = bk.rows; counts = lent; next = next }

-- events with keys: the same answers and the same rows, whatever the counts and the next number
pub said-any : (p : Setup) (qs : List Keyed) (lent : Counts) (next : ℕ) (bk : Book) → answers p (ons qs) (recounted lent next bk) ≡ answers p (ons qs) bk
unfolding ons answers answer_to effect after book.put
said-any p [] lent next bk = refl
said-any p (q ∷ qs) lent next bk =
    ap (λ (z : List Answer). answer_to p (on q) bk ∷ z) (said-any p qs (book.count lent (effect p q bk).adds) next (after p (on q) bk))

pub keys-any : (p : Setup) (qs : List Keyed) (lent : Counts) (next : ℕ) (bk : Book)
    → (after_all p (ons qs) (recounted lent next bk)).rows ≡ (after_all p (ons qs) bk).rows
unfolding ons effect after book.put after_all
keys-any p [] lent next bk = refl
keys-any p (q ∷ qs) lent next bk = keys-any p qs (book.count lent (effect p q bk).adds) next (after p (on q) bk)

module _ (p : Setup) (n t e : ℕ) (replies answer : Bytes) (bk : Book) (long : length (encode p n bk.rows) ≡ n) where
  -- what a resolving is given, and the step that its return makes
  abbrev h : Held
  h = lend p n (recounted (plus 0 0 0) 0 bk)

  abbrev stepped : ResolveReturn → Stepped
  stepped r = record { return = real.resolved (resolve_return r) r.buffer; held = record { arena = r.held.arena; counts = bk.counts; next = bk.next } }

  -- the step that a return and a call on the book make
  abbrev booked : real.Return → calls.Call → Stepped
  booked r c = record { return = r; held = record { arena = encode p n (after_call p c bk).rows; counts = bk.counts; next = bk.next } }

  -- causes 7 and 8
  resolved-on : (pl : nodes.Plan) (v : Resolved) → stepped (resolved_on p bk.rows pl.transaction e v answer h)
      ≡ booked (resolved_reply t replies answer pl v (reply_to p (told_to pl.transaction e v (length answer)) bk))
      (told_to pl.transaction e v (length answer))
  unfolding resolved_on answer_of buffer_after told_to fits resolved_reply result_reply lend call-defs after_all refused_of
  resolved-on pl (cause7 ss) =
      rw long
      (λ i.
      record {
        return = real.resolved (record { cause = bad_shape; answer = 0; refused = 0 }) (replicate (length answer) 0);
        held = record { arena = encode p n (keys-any p (stores e ss) (plus 0 0 0) 0 bk i); counts = bk.counts; next = bk.next };
      })
  resolved-on pl (answered vs ss) =
      by_test (leb (length (result_bytes pl.transaction vs)) (length answer))
      (λ u.
      rw u
      (rw long
      (λ i.
      record {
        return = real.resolved
            (record {
              cause = no_cause;
              answer = length (result_bytes pl.transaction vs);
              refused = calls.refusals (said-any p (stores e ss) (plus 0 0 0) 0 bk i);
            })
            (put answer 0 (result_bytes pl.transaction vs));
        held = record { arena = encode p n (keys-any p (stores e ss) (plus 0 0 0) 0 bk i); counts = bk.counts; next = bk.next };
      })))
      (λ u. rw u (rw long))

module _ (size n m d : ℕ) (pass : refused size m n ≡ false) (bk : Book) (w : WellFormed is_value (setup_with size n) bk.rows) (t e : ℕ)
    (plan replies answer : Bytes) where
  abbrev g : Settings
  g = settings_of size m d n

  abbrev lent : Held
  lent = lend (setup_with size n) n (recounted (plus 0 0 0) 0 bk)

  -- the arena of a book's rows is as long as the one lent
  long : length (encode (setup_with size n) n bk.rows) ≡ n
  long = encoded-length is_value (setup_with size n) n (is-sized size n m d pass) bk.rows w

  -- causes 1 and 9 let it through
  resolve-on : resolve_call size m d plan replies t e answer lent ≡ planned g bk.rows (decode_plan plan) replies t e answer lent
  unfolding resolve_call on_rows entered setup_with settings_of lend
  resolve-on =
      rw (held-fine size n m d pass (book.invalidate []) (recounted (plus 0 0 0) 0 bk) 0 w)
      (rw (decode-encode is_value (setup_with size n) n (is-sized size n m d pass) bk.rows w))

  -- causes 10 and 6
  planned-on : (o : Option nodes.Plan) → stepped (setup_with size n) n t e replies answer bk long (planned g bk.rows o replies t e answer lent)
      ≡ booked (setup_with size n) n t e replies answer bk long
      (plan_lent t replies answer g o (reply_to (setup_with size n) (told_by g.mode o replies t e (length answer)) bk))
      (told_by g.mode o replies t e (length answer))
  unfolding planned told_by plan_lent setup_with settings_of
  planned-on none = unfold lend call-defs after_all in refl
  planned-on (some pl) =
      by_test (is_value replies)
      (λ u. rw u (resolved-on (setup_with size n) n t e replies answer bk long pl (resolvings.resolve (plan_read pl) g.mode t (resp.decode replies))))
      (λ u. rw u (unfold lend call-defs after_all in refl))

  -- a resolving as a step
  pub resolving-step : step size (real.resolving m d t e plan replies answer) (lend (setup_with size n) n bk)
      ≡ record {
        return = return_for size n (real.resolving m d t e plan replies answer)
            (respond (setup_with size n) size n (real.resolving m d t e plan replies answer) bk);
        held = with_arena (lend (setup_with size n) n (after_call (setup_with size n) (book_call size n (real.resolving m d t e plan replies answer)) bk)).arena
            (lend (setup_with size n) n bk);
      }
  unfolding step book_call return_for resolving_return lend
  resolving-step =
      rw (is-fine size n m d pass)
      (ap (λ (r : ResolveReturn). stepped (setup_with size n) n t e replies answer bk long r) resolve-on ∙ planned-on (decode_plan plan))
