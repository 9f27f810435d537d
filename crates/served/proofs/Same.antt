-- What a plan comes to without replies is what resolving makes of it, whatever the arena, the settings, the clock and the epoch. Assumes nothing.
use Rattle.std.specs.Prelude.{◌≡◌, Bool, [], ℕ, leb, length, replicate, Result, Ok, Err, Option as Maybe, Some, None}
use Rattle.std.proofs.Math.Path.{refl, ap}
use Rattle.std.proofs.Common.{◌∙◌, arith}
use Rattle.std.proofs.Math.Bool.{true, false}
use Rattle.std.proofs.Math.Option.{Option, some}
use Rattle.std.proofs.Math.Option as option
use Rattle.buffer.specs.Same.{Bytes}
use Rattle.buffer.specs.Part.{put}
use Rattle.buffer.specs.Cases.{by_test}
use Rattle.config.specs.Config.{checked}
use Rattle.config.specs.declared.Settings.{Settings}
use Rattle.config.specs.declared.Cause.{Cause}
use Rattle.config.specs.declared.Cause.TheVariants.{BadShape, ShortAnswer}
use Rattle.decimal.specs.Digits.{digits}
use Rattle.resp3.specs.Value.{Values, none, encode}
use Rattle.resp3.specs.Ends.{is_value}
use Rattle.resp3.specs.Decode as resp
use Rattle.resp3.proofs.Law.{value-law, decode-law}
use Rattle.book.specs.Book.{Setup, Row, after_all, answers}
use Rattle.book.specs.Calls.{refusals, ons, stores, call-defs}
use Rattle.arena.specs.Decode.{decode}
use Rattle.arena.proofs.Image.{decode-exact}
use Rattle.arena.specs.Held.{Held, lend, book_of}
use Rattle.sharded_lru.specs.Lent.{setup_now}
use Rattle.planning.specs.Plan as nodes
use Rattle.plan.specs.Decode.{decode_plan}
use Rattle.resolving_walk.specs.Commands.{plan_read}
use Rattle.resolving.specs.Convert.{replies_of}
use Rattle.resolving.specs.Resolve.{Resolved, cause7, answered, resolve, take_commands}
use Rattle.resolving.specs.Result.{result_bytes}
use Rattle.caching_cmd.specs.declared.Answered.{Answered}
use Rattle.caching_cmd.specs.Call.{answered_with, returning, fits, told_to, refused_of, answer_of, buffer_after, resolved_on, planned, resolve_call}
use Rattle.call_entry.specs.Entered.{on_rows, entered}
use Rattle.served.specs.Served.{served_answers, served_from, buffer_from, served_of, buffer_of, served_call, served_buffer}
use Rattle.served.specs.Laws.{no_list}
use Rattle.served.proofs.Laws.{all-served, no-replies, list-none}

-- what resolving would answer: as many bytes and no store refused, or the same cause; a command that needs replies and finds none is cause 7
abbrev pub as_resolving : Result (Maybe ℕ) Cause → Result Answered Cause
as_resolving (Ok (Some n)) = answered_with n 0
as_resolving (Ok None) = Err BadShape
as_resolving (Err cause) = Err cause

-- ---- a book that stays as it was

-- a call without events leaves what the caller holds
nothing-held : (p : Setup) (rows : ℕ → Row) (h : Held) → decode is_value p h.arena ≡ some rows → lend p (length h.arena) (book_of rows h) ≡ h
unfolding lend
nothing-held p rows h e =
    let q = (decode-exact is_value p h.arena rows e).bytes in
    λ i. record { arena = q i; counts = h.counts; next = h.next }

module _ (p : Setup) (rows : ℕ → Row) (h : Held) (e : decode is_value p h.arena ≡ some rows) (transaction : Bool) (epoch : ℕ) (buffer : Bytes) where
  -- answers without stores
  served-on : (vs : Values) → resolved_on p rows transaction epoch (answered vs []) buffer h
      ≡ returning (as_resolving (served_from transaction (some vs) (length buffer))) (buffer_from transaction (some vs) buffer) h
  unfolding resolved_on answer_of buffer_after told_to fits refused_of served_from buffer_from call-defs after_all answers ons stores refusals
  served-on vs =
      by_test (leb (length (result_bytes transaction vs)) (length buffer))
      (λ t. rw t (ap (λ (k : Held). returning (answered_with (length (result_bytes transaction vs)) 0) (put buffer 0 (result_bytes transaction vs)) k)
      (nothing-held p rows h e)))
      (λ t. rw t (ap (λ (k : Held). returning (Err ShortAnswer) buffer k) (nothing-held p rows h e)))

  -- cause 7 before any store
  unserved-on : resolved_on p rows transaction epoch (cause7 []) buffer h ≡ returning (Err BadShape) (replicate (length buffer) 0) h
  unfolding resolved_on answer_of buffer_after told_to fits call-defs after_all answers ons stores
  unserved-on = ap (λ (k : Held). returning (Err BadShape) (replicate (length buffer) 0) k) (nothing-held p rows h e)

-- ---- the theorems, for a call that neither cause 1 nor cause 9 refuses

module _ (size mode ttl : ℕ) (plan : Bytes) (clock epoch : ℕ) (buffer : Bytes) (h : Held) (g : Settings)
    (c : checked size mode ttl (length h.arena) ≡ Ok g)
    (rows : ℕ → Row) (e : decode is_value (setup_now g) h.arena ≡ some rows) (p : nodes.Plan) (d : decode_plan plan ≡ some p) where
  abbrev answers_of : Option Values
  answers_of = served_answers (plan_read p).commands

  -- a resolving with a list of replies
  resolving-is : (replies : Bytes) → is_value replies ≡ true → (rs : Values) → replies_of p.transaction (resp.decode replies) ≡ some rs
      → resolve_call size mode ttl plan replies clock epoch buffer h
      ≡ resolved_on (setup_now g) rows p.transaction epoch (take_commands g.mode clock (plan_read p).commands rs) buffer h
  unfolding resolve_call on_rows entered planned resolve plan_read
  resolving-is replies i rs l = rw (c, e, d, i, l)

  -- what comes out where the plan is one
  call-is : served_call plan (length buffer) ≡ served_from p.transaction answers_of (length buffer)
  unfolding served_of
  call-is = rw d

  buffer-is : served_buffer plan buffer ≡ buffer_from p.transaction answers_of buffer
  unfolding buffer_of
  buffer-is = rw d

  -- where all commands are served, resolving with any list of replies answers the same, reports no refused store and stores nothing
  pub served-resolves : (replies : Bytes) → is_value replies ≡ true → (rs : Values) → replies_of p.transaction (resp.decode replies) ≡ some rs
      → (vs : Values) → served_answers (plan_read p).commands ≡ some vs
      → resolve_call size mode ttl plan replies clock epoch buffer h ≡ returning (as_resolving (served_call plan (length buffer))) (served_buffer plan buffer) h
  served-resolves replies i rs l vs s =
      resolving-is replies i rs l
      ∙ ap (λ (r : Resolved). resolved_on (setup_now g) rows p.transaction epoch r buffer h) (all-served g.mode clock (plan_read p).commands rs vs s)
      ∙ served-on (setup_now g) rows h e p.transaction epoch buffer vs
      ∙ rw (call-is, buffer-is, s)

  -- ---- with no replies at all: `*0`, in a transaction `*1` and `*0`

  abbrev pub no_reply_bytes : Bytes
  no_reply_bytes = encode (no_list p.transaction)

  none-value : (transaction : Bool) → is_value (encode (no_list transaction)) ≡ true
  unfolding encode digits
  none-value true =
      (value-law _).1 (record { small = omega arith; v = no_list true; means = record { ok = (tt, tt); deep = omega arith; is = unfold encode in refl } })
  none-value false = (value-law _).1 (record { small = omega arith; v = no_list false; means = record { ok = tt; deep = omega arith; is = refl } })

  none-decoded : (transaction : Bool) → resp.decode (encode (no_list transaction)) ≡ no_list transaction
  none-decoded true = decode-law _ (no_list true) (record { ok = (tt, tt); deep = omega arith; is = refl })
  none-decoded false = decode-law _ (no_list false) (record { ok = tt; deep = omega arith; is = refl })

  none-listed : replies_of p.transaction (resp.decode no_reply_bytes) ≡ some none
  none-listed = ap (replies_of p.transaction) (none-decoded p.transaction) ∙ list-none p.transaction

  -- where all commands are served, resolving without replies answers the same
  pub served-alone : (vs : Values) → served_answers (plan_read p).commands ≡ some vs
      → resolve_call size mode ttl plan no_reply_bytes clock epoch buffer h
      ≡ returning (as_resolving (served_call plan (length buffer))) (served_buffer plan buffer) h
  served-alone vs s = served-resolves no_reply_bytes (none-value p.transaction) none none-listed vs s

  -- and where some command needs replies, resolving without them is refused as 7
  pub unserved-alone : served_answers (plan_read p).commands ≡ option.none
      → (served_call plan (length buffer) ≡ Ok None)
      × (resolve_call size mode ttl plan no_reply_bytes clock epoch buffer h ≡ returning (Err BadShape) (replicate (length buffer) 0) h)
  unfolding served_from
  unserved-alone s = (
    call-is ∙ rw s,
    resolving-is no_reply_bytes (none-value p.transaction) none none-listed
        ∙ ap (λ (r : Resolved). resolved_on (setup_now g) rows p.transaction epoch r buffer h) (no-replies g.mode clock (plan_read p).commands ∙ rw s)
        ∙ unserved-on (setup_now g) rows h e p.transaction epoch buffer,
  )
