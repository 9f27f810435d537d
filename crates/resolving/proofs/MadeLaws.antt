-- Rule S10 for values, proved: specs/Made.antt has its words. Assumes nothing else.
use Rattle.std.specs.Prelude.{refl, List, [], ◌∷◌, ◌++◌, ℕ, Bool, true, false}
use Rattle.std.proofs.Math.Option.{Option, some}
use Rattle.std.proofs.Math.Option as option
use Rattle.buffer.specs.Cases.{by_test}
use Rattle.config.specs.declared.CacheMode.{CacheMode}
use Rattle.config.specs.declared.CacheMode.TheVariants.{All, OptIn}
use Rattle.resp3.specs.Value.{Value, Values, blob_string, simple_string, simple_error, number, null_as, null, double, boolean, blob_error, verbatim_string}
use Rattle.resp3.specs.Value.{big_number, array, map, set, attribute, push, none, more}
use Rattle.resp3_element.specs.Meaning.{is_error, integer_of, array_of}
use Rattle.book.specs.Calls.{Missing, Storing}
use Rattle.resolving.specs.Plan.{Place, served, waiting, Command, handed_on, cached, cached_array, single, multiple, Plan}
use Rattle.resolving.specs.Convert.{only_list, then_only_list, replies_of}
use Rattle.resolving.specs.Store.{store_of}
use Rattle.resolving.specs.Resolve.{Outcome, wrong, gives, take_reply, opt_in, take_single, Filled, placed, eaten, fill, fill_from, take_multiple}
use Rattle.resolving.specs.Resolve.{take_command, Resolved, cause7, answered, behind, go_on, take_commands, from_replies, resolve}
use Rattle.resolving.proofs.Expiry.{not-later}
use Rattle.resolving.specs.Made.{Every, PlacesHave, CommandHas, CommandsHave, AllMade, ResolvedHas, Closed}

module _ (P : Value → Type 0) (Q : Missing → Type 0) (R : Value → Type 0) where
  -- ---- stores

  -- stores of one command after those of another
  made-append : (ss later : List Storing) → AllMade P Q R ss → AllMade P Q R later → AllMade P Q R (ss ++ later)
  made-append [] later h g = g
  made-append (s ∷ ss) later h g = (h.0, made-append ss later h.1 g)

  -- what one reply stores
  made-store : (clock : ℕ) (m : Missing) (pttl v : Value) → Q m → P v → AllMade P Q R (store_of clock m pttl v)
  made-store clock m pttl v q g =
      by_test (is_error v) (λ e. rw e tt)
      (λ e. rw e (
        record {
          missing = m;
          asked = q;
          reply = v;
          given = g;
          wanted = refl;
          value = refl;
          expiry = not-later clock m.expiry
              (integer_of pttl);
        },
        tt,
      ))

  -- ---- lists

  -- the values, where there are values
  abbrev ListHas : Option Values → Type 0
  ListHas option.none = Unit {0}
  ListHas (some vs) = Every P vs

  -- an array's elements, where the value is one
  list-has : Closed P Q R → (v : Value) → P v → ListHas (array_of v)
  list-has h (blob_string xs) g = tt
  list-has h (simple_string xs) g = tt
  list-has h (simple_error xs) g = tt
  list-has h (number z) g = tt
  list-has h (null_as q) g = tt
  list-has h (double xs) g = tt
  list-has h (boolean b) g = tt
  list-has h (blob_error xs) g = tt
  list-has h (verbatim_string f xs) g = tt
  list-has h (big_number xs) g = tt
  list-has h (array vs) g = h.elements vs g
  list-has h (map ps) g = tt
  list-has h (set vs) g = tt
  list-has h (attribute ps v) g = tt
  list-has h (push vs) g = tt

  -- the list of the only value
  only-has : Closed P Q R → (vs : Values) → Every P vs → ListHas (only_list vs)
  only-has h none g = tt
  only-has h (more v none) g = list-has h v g.0
  only-has h (more v (more w vs)) g = tt

  -- the same, where there are values
  then-has : Closed P Q R → (o : Option Values) → ListHas o → ListHas (then_only_list o)
  then-has h option.none g = tt
  then-has h (some vs) g = only-has h vs g

  -- the list of replies
  replies-have : Closed P Q R → (transaction : Bool) (v : Value) → P v → ListHas (replies_of transaction v)
  replies-have h false v g = list-has h v g
  replies-have h true v g = then-has h (array_of v) (list-has h v g)

  -- ---- commands

  -- what a command makes of the replies
  abbrev OutcomeHas : Outcome → Type 0
  OutcomeHas wrong = Unit {0}
  OutcomeHas (gives v ss rs) = R v × (AllMade P Q R ss × Every P rs)

  -- the places once they are filled
  record FilledHas (f : Filled) : Type 0 where
    places : Every R f.places
    stores : AllMade P Q R f.stores
    rest : Every P f.rest

  -- one place more
  placed-has : (v : Value) (ss : List Storing) (f : Filled) → R v → AllMade P Q R ss → FilledHas f → FilledHas (placed v ss f)
  placed-has v ss f r s h = record { places = (r, h.places); stores = made-append ss f.stores s h.stores; rest = h.rest }

  -- one PTTL less
  eaten-has : (vs rs : Values) → Every P rs → Every P (eaten vs rs)
  eaten-has none rs g = g
  eaten-has (more v vs) none g = tt
  eaten-has (more v vs) (more t rs) g = g.1

  -- all places
  fill-has : Closed P Q R → (clock : ℕ) (ps : List Place) (vs rs : Values) → PlacesHave P Q R ps → Every P vs → Every P rs → FilledHas (fill clock ps vs rs)
  fill-has h clock [] vs rs p v g = record { places = tt; stores = tt; rest = eaten-has vs rs g }
  fill-has h clock (served w ∷ ps) vs rs p v g = placed-has w [] (fill clock ps vs rs) p.0 tt (fill-has h clock ps vs rs p.1 v g)
  fill-has h clock (waiting m ∷ ps) none rs p v g = placed-has null [] (fill clock ps none rs) h.unfilled tt (fill-has h clock ps none rs p.1 tt g)
  fill-has h clock (waiting m ∷ ps) (more w vs) none p v g =
      placed-has null [] (fill clock ps (more w vs) none) h.unfilled tt (fill-has h clock ps (more w vs) none p.1 v tt)
  fill-has h clock (waiting m ∷ ps) (more w vs) (more t rs) p v g =
      placed-has w (store_of clock m t w) (fill clock ps vs rs) (h.hands w v.0) (made-store clock m t w p.0 v.0)
      (fill-has h clock ps vs rs p.1 v.1 g.1)

  -- the same, where the reply is an array
  from-has : Closed P Q R → (clock : ℕ) (ps : List Place) (o : Option Values) (rs : Values) → PlacesHave P Q R ps → ListHas o → Every P rs
      → OutcomeHas (fill_from clock ps o rs)
  from-has h clock ps option.none rs p v g = tt
  from-has h clock ps (some vs) rs p v g =
      let f = fill-has h clock ps vs rs p v g in (h.lists (fill clock ps vs rs).places f.places, (f.stores, f.rest))

  -- several keys
  multiple-has : Closed P Q R → (clock : ℕ) (ps : List Place) (rs : Values) → PlacesHave P Q R ps → Every P rs → OutcomeHas (take_multiple clock ps rs)
  multiple-has h clock ps none p g = tt
  multiple-has h clock ps (more v rs) p g = from-has h clock ps (array_of v) rs p (list-has h v g.0) g.1

  -- one key
  single-has : Closed P Q R → (clock : ℕ) (m : Missing) (rs : Values) → Q m → Every P rs → OutcomeHas (take_single clock m rs)
  single-has h clock m none q g = tt
  single-has h clock m (more t none) q g = tt
  single-has h clock m (more t (more v rs)) q g = (h.hands v g.1.0, (made-store clock m t v q g.1.0, g.1.1))

  -- opt-in
  opt-in-has : (mode : CacheMode) (rs : Values) (take : Values → Outcome) → ((q : Values) → Every P q → OutcomeHas (take q)) → Every P rs
      → OutcomeHas (opt_in mode rs take)
  opt-in-has All rs take f g = f rs g
  opt-in-has OptIn none take f g = tt
  opt-in-has OptIn (more v rs) take f g = f rs g.1

  -- a reply handed on
  reply-has : Closed P Q R → (rs : Values) → Every P rs → OutcomeHas (take_reply rs)
  reply-has h none g = tt
  reply-has h (more v rs) g = (h.hands v g.0, (tt, g.1))

  -- any command
  command-has : Closed P Q R → (mode : CacheMode) (clock : ℕ) (c : Command) (rs : Values) → CommandHas P Q R c → Every P rs → OutcomeHas (take_command mode clock c rs)
  command-has h mode clock handed_on rs p g = reply-has h rs g
  command-has h mode clock (cached v) rs p g = (p, (tt, g))
  command-has h mode clock (cached_array vs) rs p g = (h.lists vs p, (tt, g))
  command-has h mode clock (single m) rs p g = opt-in-has mode rs (λ q. take_single clock m q) (λ q k. single-has h clock m q p k) g
  command-has h mode clock (multiple ps) rs p g = opt-in-has mode rs (λ q. take_multiple clock ps q) (λ q k. multiple-has h clock ps q p k) g

  -- ---- plans

  -- one command more
  behind-has : (v : Value) (ss : List Storing) (r : Resolved) → R v → AllMade P Q R ss → ResolvedHas P Q R r → ResolvedHas P Q R (behind v ss r)
  behind-has v ss (cause7 later) a s h = made-append ss later s h
  behind-has v ss (answered vs later) a s h = ((a, h.0), made-append ss later s h.1)

  -- one command and what comes after it
  go-on-has : (o : Outcome) (next : Values → Resolved) → OutcomeHas o → ((q : Values) → Every P q → ResolvedHas P Q R (next q)) → ResolvedHas P Q R (go_on o next)
  go-on-has wrong next g f = tt
  go-on-has (gives v ss rs) next g f = behind-has v ss (next rs) g.0 g.1.0 (f rs g.1.1)

  -- all commands
  commands-have : Closed P Q R → (mode : CacheMode) (clock : ℕ) (cs : List Command) (rs : Values) → CommandsHave P Q R cs → Every P rs
      → ResolvedHas P Q R (take_commands mode clock cs rs)
  commands-have h mode clock [] rs p g = (tt, tt)
  commands-have h mode clock (c ∷ cs) rs p g =
      go-on-has (take_command mode clock c rs) (λ q. take_commands mode clock cs q) (command-has h mode clock c rs p.0 g)
      (λ q k. commands-have h mode clock cs q p.1 k)

  -- where there is a list of replies
  from-replies-has : (o : Option Values) (take : Values → Resolved) → ListHas o → ((q : Values) → Every P q → ResolvedHas P Q R (take q))
      → ResolvedHas P Q R (from_replies o take)
  from-replies-has option.none take g f = tt
  from-replies-has (some rs) take g f = f rs g

  -- of a plan and replies with the properties, what is handed out and stored has them
  pub resolved-has : Closed P Q R → (p : Plan) (mode : CacheMode) (clock : ℕ) (v : Value) → CommandsHave P Q R p.commands → P v → ResolvedHas P Q R (resolve p mode clock v)
  unfolding resolve
  resolved-has h p mode clock v c g =
      from-replies-has (replies_of p.transaction v) (λ rs. take_commands mode clock p.commands rs) (replies-have h p.transaction v g)
      (λ q k. commands-have h mode clock p.commands q c k)
