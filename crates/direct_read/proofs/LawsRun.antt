-- A run of both calls, down to the outcomes of its commands: every served value counts as the server's at its place there, the replies are those to what
-- the outcomes send, and the bytes answered are those of the answers that resolving makes of outcomes and replies. Assumes a run (Direct.antt).
use Rattle.std.specs.Prelude.{◌≡◌, refl, Bool, true, false, ℕ, length, take}
use Rattle.std.proofs.Common.{sym, ap, ◌∙◌}
use Rattle.std.proofs.Math.Path.{subst}
use mathlib.Core.List.{List, [], ◌∷◌, ◌++◌, map}
use Rattle.std.proofs.Math.Option.{some}
use Rattle.buffer.specs.Same.{Bytes}
use Rattle.config.specs.Config.{mode_of}
use Rattle.config.specs.declared.CacheMode.{CacheMode}
use Rattle.config.specs.declared.Settings.{Settings}
use Rattle.resp3.specs.Value.{Value, Values, none, more, encode}
use Rattle.call_record.specs.Record.{Command, Record, transaction}
use Rattle.book.specs.Book.{Answer}
use Rattle.book.specs.Calls.{Storing}
use Rattle.planning.specs.Ask.{ask}
use Rattle.planning.specs.Outcome.{CachingResult, wants, outcome, outcomes}
use Rattle.planning.specs.Sent.{Packed, sends, sent}
use Rattle.planning.specs.Plan as nodes
use Rattle.planning.specs.Plan.{nodes_of, plan_of}
use Rattle.plan_outcomes.specs.Outcomes.{command_given, plan_given}
use Rattle.plan_outcomes.proofs.Law.{plan-given}
use Rattle.resolving_walk.specs.Commands.{plan_read}
use Rattle.resolving.specs.Plan.{Plan}
use Rattle.resolving.specs.Convert.{replies_of}
use Rattle.resolving.specs.Resolve.{answered, take_command, take_commands, resolve}
use Rattle.resolving.specs.Result.{result_of}
use Rattle.demand.specs.Words.{places_in, places_of}
use Rattle.direct_read.specs.Server.{Server, RepliedAll, handed, ServedBy}
use Rattle.direct_read.specs.Direct.{Given, planned, answer, Run}
use Rattle.direct_read.proofs.LawsAnswer.{Gives, only-answered}
use Rattle.direct_read.proofs.LawsSent.{framed-injective}
use Rattle.direct_read.proofs.LawsPlanned.{results_by, Wrote, planning-wrote}
use Rattle.direct_read.proofs.LawsResolved.{resolving-answers}

-- the list of replies is found in what resolving is handed
replies-found : (b : Bool) (vs : Values) → replies_of b (handed b vs) ≡ some vs
unfolding handed
replies-found true vs = refl
replies-found false vs = refl

-- so resolving goes through the outcomes' commands with the replies
resolves-given : (b : Bool) (rs : List CachingResult) (m : CacheMode) (clock : ℕ) (vs : Values)
    → resolve (plan_read (plan_of b rs)) m clock (handed b vs) ≡ take_commands m clock (map command_given rs) vs
resolves-given b rs m clock vs =
    ap (λ (p : Plan). resolve p m clock (handed b vs)) (plan-given b rs) ∙ (unfold resolve plan_given in rw (replies-found b vs))

-- what a run comes to, for its mode and the clock of its resolving
module _ (R : Value → Value → Type 0) (S : Packed → Value → Type 0) (sv : Server) (a : Given) (r : Record) (ks : List Bytes) (w : Run R S sv a r ks) where
  -- what its planning wrote
  pub wrote : Wrote a.mode a.clock r (planned a) w.plan_length w.send_length
  wrote =
      planning-wrote a.size a.mode a.ttl a.clock a.epoch a.bytes a.plan a.send a.held r w.valid w.bytes
      w.plan_length w.send_length w.counts w.plans

  -- settings and answers to the lookups, from which its outcomes are
  abbrev pub g : Settings
  g = wrote.g

  abbrev pub said : List Answer
  said = wrote.said

  -- the outcomes of its commands
  abbrev pub results : List CachingResult
  results = results_by a.mode a.clock r g said

  -- every served value counts as the server's at its place
  pub served-results : ServedBy R sv ks (places_in (nodes.nodes results))
  served-results = subst (ServedBy R sv ks) (ap places_of wrote.decoded ∙ (unfold places_of plan_of in refl)) w.served

  -- the replies are those to what the outcomes send
  pub replied-results : RepliedAll S (sent (mode_of a.mode) r.commands results) w.answers
  replied-results =
      subst (λ (ps : List Packed). RepliedAll S ps w.answers) (framed-injective (transaction r) _ _ (sym w.sends ∙ wrote.sends)) w.replied

  -- the answers that resolving makes of both are the result's
  pub answer-results : (vs : Values) (ss : List Storing)
      → take_commands (mode_of a.mode) a.clock' (map command_given results) w.answers ≡ answered vs ss
      → answer a w.plan_length ≡ encode (result_of (transaction r) vs)
  unfolding plan_of
  answer-results vs ss q =
      resolving-answers a.mode a.clock' a.epoch' a.buffer a.held' vs ss a.replies (plan_of (transaction r) results)
      (handed (transaction r) w.answers) w.given
      (resolves-given (transaction r) results (mode_of a.mode) a.clock' w.answers ∙ q)
      a.size' a.ttl' (take w.plan_length (planned a).plan) wrote.decoded w.resolves

  -- ---- of one command

  module _ (c : Command) (one : r.commands ≡ c ∷ []) where
    -- its outcome, from the answers to its own lookups
    abbrev pub only : CachingResult
    only = outcome c (ask g a.clock c) (take (length (wants c (ask g a.clock c))) said)

    -- it is all there is
    only-result : results ≡ only ∷ []
    only-result = ap (λ (cs : List Command). outcomes (ask g a.clock) cs said) one ∙ (unfold outcomes in refl)

    -- its served values, the replies to what it sends, and the result that its answer makes
    pub served-only : ServedBy R sv ks (places_in (nodes_of only ++ []))
    unfolding nodes.nodes
    served-only = subst (λ (rs : List CachingResult). ServedBy R sv ks (places_in (nodes.nodes rs))) only-result served-results

    pub replied-only : RepliedAll S (sends (mode_of a.mode) c only ++ []) w.answers
    unfolding sent
    replied-only =
        subst (λ (cs : List Command). RepliedAll S (sent (mode_of a.mode) cs (only ∷ [])) w.answers) one
        (subst (λ (rs : List CachingResult). RepliedAll S (sent (mode_of a.mode) r.commands rs) w.answers) only-result replied-results)

    pub answer-only : (P : Value → Type 0) (u : Gives P (take_command (mode_of a.mode) a.clock' (command_given only) w.answers))
        → answer a w.plan_length ≡ encode (result_of (transaction r) (more u.value none))
    answer-only P u =
        answer-results (more u.value none) (u.stores ++ [])
        (ap (λ (rs : List CachingResult). take_commands (mode_of a.mode) a.clock' (map command_given rs) w.answers) only-result
        ∙ only-answered P (mode_of a.mode) a.clock' only w.answers u)
