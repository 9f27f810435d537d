-- The clause `seven`: where a resolving that cause 7 refuses stops, and that the stores of the commands before remain. Assumes that the call's return is
-- the book's reply's (`answers`).
use Rattle.std.proofs.Math.Path.{◌≡◌, refl, ap}
use Rattle.std.proofs.Common.{sym, ◌∙◌, subst, arith}
use Rattle.std.specs.Prelude.{ℕ, true, false, List, [], ◌∷◌, ◌++◌, leb, length}
use Rattle.std.proofs.Math.Option.{Option, none, some}
use Rattle.buffer.specs.Cases.{by_test}
use Rattle.buffer.specs.Same.{Bytes}
use Rattle.config.specs.Causes.{bad_shape}
use Rattle.config.specs.Config.{refused, mode_of, settings_of, checked}
use Rattle.config.specs.declared.CacheMode.{CacheMode}
use Rattle.resp3.specs.Ends.{is_value}
use Rattle.resp3.specs.Value.{Value, Values}
use Rattle.resp3.specs.Value as resp3
use Rattle.resp3.specs.Decode as resp
use Rattle.book.specs.Book.{Counts, fresh}
use Rattle.book.specs.Calls as calls
use Rattle.book.specs.Calls.{Storing, Call, after_call, call-defs}
use Rattle.planning.specs.Plan as nodes
use Rattle.plan.specs.Decode.{decode_plan}
use Rattle.resolving_walk.specs.Commands.{plan_read}
use Rattle.resolving.specs.Plan.{Command}
use Rattle.resolving.specs.Convert.{replies_of}
use Rattle.resolving.specs.Resolve.{Outcome, wrong, gives, take_command, Resolved, cause7, answered, behind, take_commands, from_replies, resolve}
use Rattle.resolving.specs.Result.{result_bytes}
use Rattle.caching_cmd.specs.Call.{fits, told_to}
use Rattle.caching_cmd.specs.Told.{told_by}
use Rattle.demand.specs.Call as real
use Rattle.demand.specs.Call.{RealCall, cause_of, book_call}
use Rattle.demand.specs.Demand.{setup, CallIn, returned, number, book_before}
use Rattle.demand.specs.Replies.{Reply, Response, return_for, result_reply, resolved_reply, plan_lent, resolving_return}
use Rattle.demand.specs.CorollaryWords.{StopsAt, no_list, at_command}
use Rattle.demand.specs.Corollaries.{response, Stopped}
use Rattle.demand.proofs.Sequences.{book-last}

-- ---- the command that stops it

-- the commands before it are answered, and with it they are not
record Stop (mode : CacheMode) (clock : ℕ) (commands : List Command) (rs : Values) (ss : List Storing) : Type 0 where
  done : List Command
  failing : Command
  later : List Command
  vs : Values
  splits : commands ≡ done ++ (failing ∷ later)
  answers : take_commands mode clock done rs ≡ answered vs ss
  stops : take_commands mode clock (done ++ (failing ∷ [])) rs ≡ cause7 ss

module _ (mode : CacheMode) (clock : ℕ) where
  -- a command that finds no fitting reply
  here : (c : Command) (cs : List Command) (rs : Values) (ss : List Storing) → take_command mode clock c rs ≡ wrong → cause7 [] ≡ cause7 ss
      → Stop mode clock (c ∷ cs) rs ss
  here c cs rs ss o e =
      let q : [] ≡ ss = cc in
      record {
        done = [];
        failing = c;
        later = cs;
        vs = resp3.none;
        splits = refl;
        answers = ap (λ (z : List Storing). answered resp3.none z) q;
        stops = rw o e;
      }

  -- one that takes replies, and a stop behind it
  there : (c : Command) (cs : List Command) (rs : Values) (v : Value) (ss : List Storing) (rest : Values) (kept : List Storing)
      → take_command mode clock c rs ≡ gives v ss rest → Stop mode clock cs rest kept → Stop mode clock (c ∷ cs) rs (ss ++ kept)
  there c cs rs v ss rest kept o s =
      record {
        done = c ∷ s.done;
        failing = s.failing;
        later = s.later;
        vs = resp3.more v s.vs;
        splits = ap (λ (z : List Command). c ∷ z) s.splits;
        answers = rw o (ap (λ (z : Resolved). behind v ss z) s.answers);
        stops = rw o (ap (λ (z : Resolved). behind v ss z) s.stops);
      }

  -- so some command stops those of cause 7
  stop-in : (cs : List Command) (rs : Values) (ss : List Storing) → take_commands mode clock cs rs ≡ cause7 ss → Stop mode clock cs rs ss
  stop-in [] rs ss e = absurd (let z : ◌≡◌ {A = ℕ} 0 1 = cc in omega arith)
  stop-in (c ∷ cs) rs ss e = go (take_command mode clock c rs) refl (λ q kept. stop-in cs q kept)
    where
      behind-it : (v : Value) (ts : List Storing) (q : Values) → take_command mode clock c rs ≡ gives v ts q
          → ((kept : List Storing) → take_commands mode clock cs q ≡ cause7 kept → Stop mode clock cs q kept)
          → (x : Resolved) → take_commands mode clock cs q ≡ x → behind v ts x ≡ cause7 ss → Stop mode clock (c ∷ cs) rs ss
      behind-it v ts q o again (cause7 kept) f u =
          let k : ts ++ kept ≡ ss = cc in
          subst (λ (z : List Storing). Stop mode clock (c ∷ cs) rs z) k (there c cs rs v ts q kept o (again kept f))
      behind-it v ts q o again (answered vs kept) f u = absurd (let z : ◌≡◌ {A = ℕ} 0 1 = cc in omega arith)

      go : (o : Outcome) → take_command mode clock c rs ≡ o
          → ((q : Values) (kept : List Storing) → take_commands mode clock cs q ≡ cause7 kept → Stop mode clock cs q kept) → Stop mode clock (c ∷ cs) rs ss
      go wrong o again = here c cs rs ss o (rw o at e)
      go (gives v ts q) o again = behind-it v ts q o (λ kept. again q kept) (take_commands mode clock cs q) refl (rw o at e)

  -- as the statement says it
  pub stops_at : (cs : List Command) (o : Option Values) (ss : List Storing) → from_replies o (λ rs. take_commands mode clock cs rs) ≡ cause7 ss
      → StopsAt mode clock cs o ss
  stops_at cs none ss e = let q : [] ≡ ss = cc in subst (λ (z : List Storing). StopsAt mode clock cs none z) q no_list
  stops_at cs (some rs) ss e =
      let s = stop-in cs rs ss e in at_command rs s.done s.failing s.later s.vs ss s.splits s.answers s.stops

-- ---- cause 7

module _ (size n m d t e : ℕ) (lent_plan replies answer : Bytes) where
  -- what a resolving refused as 7 is: its plan, the stores that remain, and the book's call
  pub record Shapeless : Type 0 where
    pub plan : nodes.Plan
    pub decoded : decode_plan lent_plan ≡ some plan
    pub kept : List Storing
    pub resolves : resolve (plan_read plan) (mode_of m) t (resp.decode replies) ≡ cause7 kept
    pub told : book_call size n (real.resolving m d t e lent_plan replies answer) ≡ calls.resolving7 e kept

  -- what the book is told of such a call
  told_is : refused size m n ≡ false
      → book_call size n (real.resolving m d t e lent_plan replies answer) ≡ told_by (mode_of m) (decode_plan lent_plan) replies t e (length answer)
  unfolding book_call checked settings_of
  told_is f = rw f

  told-seven : (pl : nodes.Plan) (ss : List Storing) → is_value replies ≡ true → resolve (plan_read pl) (mode_of m) t (resp.decode replies) ≡ cause7 ss
      → told_by (mode_of m) (some pl) replies t e (length answer) ≡ calls.resolving7 e ss
  unfolding told_by told_to fits
  told-seven pl ss i q = rw i (ap (λ (z : Resolved). told_to pl.transaction e z (length answer)) q)

  module _ (said : Response) where
    abbrev r : Reply
    r = said.reply

    -- from the number back to the causes before it: 8, then 10 and 6, then 1
    by-resolved : (pl : nodes.Plan) (v : Resolved) → cause_of (resolved_reply t replies answer pl v r) ≡ bad_shape → (kept : List Storing) × (v ≡ cause7 kept)
    unfolding cause_of resolved_reply result_reply
    by-resolved pl (cause7 ss) z = (ss, refl)
    by-resolved pl (answered vs ss) z =
        by_test (leb (length (result_bytes pl.transaction vs)) (length answer)) (λ u. absurd (let y : ◌≡◌ {A = ℕ} 0 7 = rw u at z in omega arith))
        (λ u. absurd (let y : ◌≡◌ {A = ℕ} 8 7 = rw u at z in omega arith))

    by-plan : refused size m n ≡ false → (o : Option nodes.Plan) → decode_plan lent_plan ≡ o
        → cause_of (plan_lent t replies answer (settings_of size m d n) o r) ≡ bad_shape → Shapeless
    unfolding cause_of plan_lent settings_of
    by-plan f none q z = absurd (let y : ◌≡◌ {A = ℕ} 10 7 = z in omega arith)
    by-plan f (some pl) q z =
        by_test (is_value replies)
        (λ u.
        let x = by-resolved pl (resolve (plan_read pl) (mode_of m) t (resp.decode replies)) (rw u at z) in
        record {
          plan = pl;
          decoded = q;
          kept = x.0;
          resolves = x.1;
          told = told_is f ∙ ap (λ (o : Option nodes.Plan). told_by (mode_of m) o replies t e (length answer)) q ∙ told-seven pl x.0 u x.1;
        })
        (λ u. absurd (let y : ◌≡◌ {A = ℕ} 6 7 = rw u at z in omega arith))

    pub shapeless : cause_of (return_for size n (real.resolving m d t e lent_plan replies answer) said) ≡ bad_shape → Shapeless
    unfolding return_for resolving_return checked
    shapeless z =
        by_test (refused size m n) (λ f. absurd (let y : ◌≡◌ {A = ℕ} 1 7 = unfold cause_of in rw f at z in omega arith))
        (λ f. by-plan f (decode_plan lent_plan) refl (rw f at z))

-- ---- the clause

module _ (size mode ttl : ℕ) (s : Bytes) (lent : Counts) (cs : List RealCall) (a : CallIn size mode ttl s lent cs)
    (is : returned size mode ttl s lent a ≡ return_for size (length s) a.call (response size mode ttl s lent a)) where
  pub seven-field : (m d t e : ℕ) (plan replies buffer : Bytes) → a.call ≡ real.resolving m d t e plan replies buffer
      → number size mode ttl s lent a ≡ bad_shape
      → Stopped size mode ttl s lent a m t e plan replies
  unfolding resolve plan_read call-defs
  seven-field m d t e plan replies buffer c q =
      let x =
      shapeless size (length s) m d t e plan replies buffer (response size mode ttl s lent a)
      (ap (λ (z : RealCall). cause_of (return_for size (length s) z (response size mode ttl s lent a))) (sym c) ∙ ap cause_of (sym is) ∙ q) in
      record {
        plan = x.plan;
        decoded = x.decoded;
        kept = x.kept;
        stops = stops_at (mode_of m) t (plan_read x.plan).commands (replies_of x.plan.transaction (resp.decode replies)) x.kept x.resolves;
        left =
            book-last size (length s) (setup size mode ttl s lent) a.before a.call (fresh lent)
            ∙ ap (λ (z : RealCall). after_call (setup size mode ttl s lent) (book_call size (length s) z) (book_before size mode ttl s lent a)) c
            ∙ ap (λ (z : Call). after_call (setup size mode ttl s lent) z (book_before size mode ttl s lent a)) x.told;
      }
