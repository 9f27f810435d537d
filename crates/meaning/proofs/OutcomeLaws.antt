-- What a planning and a resolving come to (Outcomes.antt) is what their definitions come to. Assumes nothing.
use Rattle.std.specs.Prelude.{◌≡◌, refl, ◌↔◌, Bool, true, ◌||◌, List, [], ℕ, leb, ltb, length}
use Rattle.std.proofs.lemmas.Bool.{false≢true}
use Rattle.buffer.specs.Cases.{by_test}
use Rattle.buffer.specs.Same.{Bytes}
use Rattle.config.specs.declared.Settings.{Settings}
use Rattle.call_record.specs.Record.{Record}
use Rattle.book.specs.Book.{Setup, Row, Answer, answers}
use Rattle.book.specs.Calls.{Storing, Call, planning, resolving, resolving7, push, push_all, single, take_epoch, refused, lookups, stores, ons}
use Rattle.book.specs.Calls.{is_refused, remaining}
use Rattle.arena.specs.Held.{Held, book_of}
use Rattle.planning.specs.Ask.{ask, any_late}
use Rattle.planning.specs.Outcome.{wanted}
use Rattle.planning.specs.Planning.{Planned, planned_from, short, plan_answer, plan_on}
use Rattle.resolving.specs.Resolve.{Resolved, cause7, answered}
use Rattle.resolving.specs.Result.{result_bytes}
use Rattle.sharded_lru.specs.Lent.{setup_now}
use Rattle.cache_manager.specs.Pipeline.{recorded, pipelined}
use Rattle.caching_cmd.specs.Call.{fits, told_to, answer_of, buffer_after, resolved_on}
use Rattle.meaning.specs.Outcomes.{planning_on, resolving_on, Refuses, is_short, is_stopped, is_refused_one}

-- planning, past 4 and 5
pub recorded-means : (t e : ℕ) (bytes plan send : Bytes) (h : Held) (g : Settings) (rows : ℕ → Row) (r : Record)
    → recorded t e bytes plan send h g rows r ≡ planning_on t e plan send h g rows r
unfolding pipelined plan_on plan_answer short
recorded-means t e bytes plan send h g rows r =
    let x : Planned = planned_from (ask g t) g r (answers (setup_now g) (ons (lookups t e (wanted (ask g t) r.commands))) (book_of rows h)) in
    by_test (any_late g t r.commands) (λ l. rw l)
    (λ l. by_test (ltb (length plan) (length x.plan) || ltb (length send) (length x.send)) (λ b. rw (l, b)) (λ b. rw (l, b)))

-- resolving, past 7 and 8
pub resolved-means : (p : Setup) (rows : ℕ → Row) (transaction : Bool) (e : ℕ) (v : Resolved) (buffer : Bytes) (h : Held)
    → resolved_on p rows transaction e v buffer h ≡ resolving_on p rows transaction e v buffer h
unfolding resolved_on answer_of buffer_after told_to fits
resolved-means p rows transaction e (cause7 ss) buffer h = refl
resolved-means p rows transaction e (answered vs ss) buffer h =
    by_test (leb (length (result_bytes transaction vs)) (length buffer)) (λ l. rw l refl) (λ l. rw l refl)

-- ---- the book's refused calls

refused-so : (c : Call) (said : List Answer) → is_refused c said ≡ true → Refuses said c
unfolding is_refused
refused-so (planning t e ws short) said b = is_short t e ws short b
refused-so (resolving e ss) said b = absurd (false≢true b)
refused-so (resolving7 e ss) said b = is_stopped e ss
refused-so (push ks) said b = absurd (false≢true b)
refused-so push_all said b = absurd (false≢true b)
refused-so (single q) said b = absurd (false≢true b)
refused-so take_epoch said b = absurd (false≢true b)
refused-so refused said b = is_refused_one

so-refused : {said : List Answer} {c : Call} → Refuses said c → is_refused c said ≡ true
unfolding is_refused
so-refused (is_short t e ws short b) = b
so-refused (is_stopped e ss) = refl
so-refused is_refused_one = refl

pub refuses-mean : (c : Call) (said : List Answer) → (is_refused c said ≡ true) ↔ Refuses said c
refuses-mean c said = (refused-so c said, λ w. so-refused w)

-- what they leave
pub stores-remain : (e : ℕ) (ss : List Storing) → remaining (resolving7 e ss) ≡ ons (stores e ss)
unfolding remaining
stores-remain e ss = refl

pub none-remains : (c : Call) → ((e : ℕ) (ss : List Storing) → c ≡ resolving7 e ss → ⊥) → remaining c ≡ []
unfolding remaining
none-remains (planning t e ws short) other = refl
none-remains (resolving e ss) other = refl
none-remains (resolving7 e ss) other = absurd (other e ss refl)
none-remains (push ks) other = refl
none-remains push_all other = refl
none-remains (single q) other = refl
none-remains take_epoch other = refl
none-remains refused other = refl
