-- The walk over a plan's nodes is resolving. Assumes nothing.
use Rattle.std.specs.Prelude.{◌≡◌, Bool, true, false, ℕ, suc, length}
use Rattle.std.proofs.Math.Path.{refl, sym, ap, ap₂}
use Rattle.std.proofs.Common.{◌∙◌}
use mathlib.Core.List.{List, [], ◌∷◌, ◌++◌, append_assoc, append-nil}
use Rattle.std.proofs.Math.Option.{Option, some}
use Rattle.std.proofs.Math.Option as option
use Rattle.buffer.specs.Same.{Bytes}
use Rattle.buffer.specs.Cases.{by_test}
use Rattle.config.specs.declared.CacheMode.{CacheMode}
use Rattle.config.specs.declared.CacheMode.TheVariants.{All, OptIn}
use Rattle.decimal.specs.Digits.{digits}
use Rattle.resp3.specs.Value.{Value, Values, null, array, none, more, count, encs, encode, null_bytes}
use Rattle.resp3.specs.Rows.{enc-is}
use Rattle.resp3_element.specs.Meaning.{is_error, array_of}
use Rattle.book.specs.Calls.{Missing, Storing}
use Rattle.cmd.specs.Pack.{head}
use Rattle.planning.specs.Plan.{Node}
use Rattle.resolving.specs.Plan.{Place, served, waiting, Command, handed_on, cached, cached_array, single, multiple, Plan}
use Rattle.resolving.specs.Convert.{replies_of}
use Rattle.resolving.specs.Store.{store_of}
use Rattle.resolving.specs.Resolve.{Outcome, wrong, gives, take_reply, opt_in, take_single, Filled, placed, fill, fill_from, take_multiple, take_command}
use Rattle.resolving.specs.Resolve.{Resolved, cause7, answered, behind, go_on, take_commands, from_replies, resolve}
use Rattle.resolving.specs.Result.{result_bytes}
use Rattle.resolving.proofs.ResultLaws.{as_many}
use Rattle.planning.specs.Plan as nodes
use Rattle.planning.specs.Rules.{GoodPlan}
use Rattle.resolving_walk.specs.Commands.{commands_of, plan_read}
use Rattle.resolving_walk.specs.Laws.{value_nodes, place_nodes, command_nodes}
use Rattle.resolving_walk.proofs.NodesLaws.{plan-read}
use Rattle.resolving_walk.specs.Walk.{Move, fetched, opted, hand_move, single_move, array_move, several_move, node_move, bytes_of, stores_of, Walked}
use Rattle.resolving_walk.specs.Walk.{stopped, through, before, move_then, walk}
use Rattle.resolving_walk.specs.Same.{walked_of, result_head}

-- ---- bytes and stores in turn

pub before-before : (a b : Bytes) (s t : List Storing) (o : Walked) → before a s (before b t o) ≡ before (a ++ b) (s ++ t) o
before-before a b s t (stopped later) = rw (append_assoc s t later)
before-before a b s t (through bs later) = rw (append_assoc s t later, append_assoc a b bs)

pub before-nothing : (o : Walked) → o ≡ before [] [] o
before-nothing (stopped later) = refl
before-nothing (through bs later) = refl

-- one value more in a row
row_more : (v : Value) (vs : Values) → encs (more v vs) [] ≡ encode v ++ encs vs []
row_more v vs = enc-is v (encs vs [])

-- an array is its head and its elements
pub array-pieces : (vs : Values) → encode (array vs) ≡ head 42 (count vs) ++ encs vs []
unfolding encode
array-pieces vs = ap (λ (l : Bytes). 42 ∷ l) (sym (append_assoc (digits (count vs)) (13 ∷ 10 ∷ []) (encs vs [])))

-- what a fetched value gives
fetched-bytes : (clock : ℕ) (m : Missing) (t v : Value) → bytes_of (fetched clock m t v) ≡ encode v
unfolding bytes_of
fetched-bytes clock m t v = by_test (is_error v) (λ e. rw e) (λ e. rw e)

fetched-stores : (clock : ℕ) (m : Missing) (t v : Value) → stores_of (fetched clock m t v) ≡ store_of clock m t v
unfolding stores_of
fetched-stores clock m t v = by_test (is_error v) (λ e. rw e) (λ e. rw e)

-- a place for each place
fill-count : (clock : ℕ) (ps : List Place) (es rs : Values) → count (fill clock ps es rs).places ≡ length ps
fill-count clock [] es rs = refl
fill-count clock (served v ∷ ps) es rs = ap suc (fill-count clock ps es rs)
fill-count clock (waiting m ∷ ps) none rs = ap suc (fill-count clock ps none rs)
fill-count clock (waiting m ∷ ps) (more v es) none = ap suc (fill-count clock ps (more v es) none)
fill-count clock (waiting m ∷ ps) (more v es) (more t rs) = ap suc (fill-count clock ps es rs)

module _ (mode : CacheMode) (clock : ℕ) where
  -- ---- the nodes that belong to one command

  values-walk : (vs : Values) (ns : List Node) (es rs : Values) → walk mode clock (value_nodes vs ns) es rs ≡ before (encs vs []) [] (walk mode clock ns es rs)
  unfolding walk value_nodes node_move bytes_of stores_of
  values-walk none ns es rs = before-nothing (walk mode clock ns es rs)
  values-walk (more v vs) ns es rs =
      ap (before (encode v) []) (values-walk vs ns es rs)
      ∙ before-before (encode v) (encs vs []) [] [] (walk mode clock ns es rs)
      ∙ ap (λ (b : Bytes). before b [] (walk mode clock ns es rs)) (sym (row_more v vs))

  -- the rest of the walk after filled places
  abbrev beyond : Filled → List Node → Walked
  beyond f ns = before (encs f.places []) f.stores (walk mode clock ns none f.rest)

  one_place : (v : Value) (ss : List Storing) (f : Filled) (ns : List Node) → before (encode v) ss (beyond f ns) ≡ beyond (placed v ss f) ns
  one_place v ss f ns =
      before-before (encode v) (encs f.places []) ss f.stores (walk mode clock ns none f.rest)
      ∙ ap (λ (b : Bytes). before b (ss ++ f.stores) (walk mode clock ns none f.rest)) (sym (row_more v f.places))

  places-walk : (ps : List Place) (ns : List Node) (es rs : Values) → walk mode clock (place_nodes ps ns) es rs ≡ beyond (fill clock ps es rs) ns
  unfolding walk place_nodes node_move bytes_of stores_of
  places-walk [] ns es rs = refl
  places-walk (served v ∷ ps) ns es rs = ap (before (encode v) []) (places-walk ps ns es rs) ∙ one_place v [] (fill clock ps es rs) ns
  places-walk (waiting m ∷ ps) ns none rs = ap (before null_bytes []) (places-walk ps ns none rs) ∙ one_place null [] (fill clock ps none rs) ns
  places-walk (waiting m ∷ ps) ns (more v es) none =
      ap (before null_bytes []) (places-walk ps ns (more v es) none) ∙ one_place null [] (fill clock ps (more v es) none) ns
  places-walk (waiting m ∷ ps) ns (more v es) (more t rs) =
      ap₂ (λ (b : Bytes) (s : List Storing). before b s (walk mode clock (place_nodes ps ns) es rs)) (fetched-bytes clock m t v) (fetched-stores clock m t v)
      ∙ ap (before (encode v) (store_of clock m t v)) (places-walk ps ns es rs)
      ∙ one_place v (store_of clock m t v) (fill clock ps es rs) ns

  -- ---- one command

  -- a command's bytes and stores before the rest
  abbrev command_then : Outcome → (Values → Walked) → Walked
  command_then wrong f = stopped []
  command_then (gives v ss rs) f = before (encode v) ss (f rs)

  hand-move : (rs : Values) (f : Values → Values → Walked) → move_then (hand_move none rs) f ≡ command_then (take_reply rs) (λ q. f none q)
  unfolding bytes_of stores_of
  hand-move none f = refl
  hand-move (more v rs) f = refl

  single-move : (m : Missing) (f : Values → Values → Walked) (rs : Values)
      → move_then (single_move clock m none rs) f ≡ command_then (take_single clock m rs) (λ q. f none q)
  single-move m f none = refl
  single-move m f (more t none) = refl
  single-move m f (more t (more v rs)) =
      ap₂ (λ (b : Bytes) (s : List Storing). before b s (f none rs)) (fetched-bytes clock m t v) (fetched-stores clock m t v)

  -- several keys, by whether the reply is an array
  array-move : (ps : List Place) (ns : List Node) (o : Option Values) (rs : Values)
      → move_then (array_move (length ps) o rs) (λ es q. walk mode clock (place_nodes ps ns) es q)
      ≡ command_then (fill_from clock ps o rs) (λ q. walk mode clock ns none q)
  unfolding bytes_of stores_of
  array-move ps ns option.none rs = refl
  array-move ps ns (some es) rs =
      let f = fill clock ps es rs in
      ap (before (head 42 (length ps)) []) (places-walk ps ns es rs)
      ∙ before-before (head 42 (length ps)) (encs f.places []) [] f.stores (walk mode clock ns none f.rest)
      ∙ ap (λ (b : Bytes). before b f.stores (walk mode clock ns none f.rest))
      (ap (λ (n : ℕ). head 42 n ++ encs f.places []) (sym (fill-count clock ps es rs)) ∙ sym (array-pieces f.places))

  several-move : (ps : List Place) (ns : List Node) (rs : Values)
      → move_then (several_move (length ps) rs) (λ es q. walk mode clock (place_nodes ps ns) es q)
      ≡ command_then (take_multiple clock ps rs) (λ q. walk mode clock ns none q)
  several-move ps ns none = refl
  several-move ps ns (more v rs) = array-move ps ns (array_of v) rs

  opted-move : (m : CacheMode) (rs : Values) (f : Values → Move) (k : Values → Values → Walked) (g : Values → Outcome) (h : Values → Walked)
      → ((q : Values) → move_then (f q) k ≡ command_then (g q) h) → move_then (opted m rs f) k ≡ command_then (opt_in m rs g) h
  opted-move All rs f k g h e = e rs
  opted-move OptIn none f k g h e = refl
  opted-move OptIn (more v rs) f k g h e = e rs

  command-walk : (c : Command) (cs : List Command) (rs : Values)
      → walk mode clock (command_nodes (c ∷ cs)) none rs ≡ command_then (take_command mode clock c rs) (λ q. walk mode clock (command_nodes cs) none q)
  unfolding walk command_nodes node_move bytes_of stores_of
  command-walk handed_on cs rs = hand-move rs (λ es q. walk mode clock (command_nodes cs) es q)
  command-walk (cached v) cs rs = refl
  command-walk (cached_array vs) cs rs =
      ap (before (head 42 (count vs)) []) (values-walk vs (command_nodes cs) none rs)
      ∙ before-before (head 42 (count vs)) (encs vs []) [] [] (walk mode clock (command_nodes cs) none rs)
      ∙ ap (λ (b : Bytes). before b [] (walk mode clock (command_nodes cs) none rs)) (sym (array-pieces vs))
  command-walk (single m) cs rs = opted-move mode rs _ _ _ _ (λ q. single-move m (λ es p. walk mode clock (command_nodes cs) es p) q)
  command-walk (multiple ps) cs rs = opted-move mode rs _ _ _ _ (λ q. several-move ps (command_nodes cs) q)

  -- ---- all commands

  behind-walked : (v : Value) (ss : List Storing) (r : Resolved) → before (encode v) ss (walked_of r) ≡ walked_of (behind v ss r)
  behind-walked v ss (cause7 later) = refl
  behind-walked v ss (answered vs later) = ap (λ (b : Bytes). through b (ss ++ later)) (sym (row_more v vs))

  -- the walk over the nodes of commands takes the commands
  pub commands-walk : (cs : List Command) (rs : Values) → walk mode clock (command_nodes cs) none rs ≡ walked_of (take_commands mode clock cs rs)
  unfolding walk command_nodes
  commands-walk [] rs = refl
  commands-walk (c ∷ cs) rs = command-walk c cs rs ∙ go (take_command mode clock c rs) (λ q. commands-walk cs q)
    where
      go : (o : Outcome) → ((q : Values) → walk mode clock (command_nodes cs) none q ≡ walked_of (take_commands mode clock cs q))
          → command_then o (λ q. walk mode clock (command_nodes cs) none q) ≡ walked_of (go_on o (λ q. take_commands mode clock cs q))
      go wrong h = refl
      go (gives v ss q) h = ap (before (encode v) ss) (h q) ∙ behind-walked v ss (take_commands mode clock cs q)

-- ---- the whole plan

-- where there is no list of replies
pub no-list : (p : Plan) (mode : CacheMode) (clock : ℕ) (v : Value) → replies_of p.transaction v ≡ option.none → resolve p mode clock v ≡ cause7 []
unfolding resolve
no-list p mode clock v e = ap (λ (o : Option Values). from_replies o (λ rs. take_commands mode clock p.commands rs)) e

-- where there is one, resolving a good plan is the walk over its nodes
pub plan-walk : (p : nodes.Plan) → GoodPlan p → (mode : CacheMode) (clock : ℕ) (v : Value) (rs : Values) → replies_of p.transaction v ≡ some rs
    → walk mode clock p.nodes none rs ≡ walked_of (resolve (plan_read p) mode clock v)
unfolding resolve plan_read
plan-walk p g mode clock v rs e =
    let cs = commands_of p.commands p.nodes in
    ap (λ (ns : List Node). walk mode clock ns none rs) (plan-read p g).is
    ∙ commands-walk mode clock cs rs
    ∙ ap walked_of (sym (ap (λ (o : Option Values). from_replies o (λ q. take_commands mode clock cs q)) e))

pub result-pieces : (transaction : Bool) (vs : Values) → result_bytes transaction vs ≡ result_head transaction (count vs) ++ encs vs []
unfolding result_bytes result_head
result-pieces false vs = array-pieces vs
result-pieces true vs =
    array-pieces (more (array vs) none)
    ∙ ap (λ (l : Bytes). head 42 1 ++ l) (row_more (array vs) none ∙ append-nil (encode (array vs)) ∙ array-pieces vs)
    ∙ sym (append_assoc (head 42 1) (head 42 (count vs)) (encs vs []))

-- as many answers as a good plan has commands
pub answers-many : (p : nodes.Plan) → GoodPlan p → (mode : CacheMode) (clock : ℕ) (v : Value) (vs : Values) (ss : List Storing)
    → resolve (plan_read p) mode clock v ≡ answered vs ss → count vs ≡ p.commands
unfolding plan_read
answers-many p g mode clock v vs ss e = as_many (plan_read p) mode clock v vs ss e ∙ (plan-read p g).many
