-- No plan that planning writes breaks a rule. Assumes nothing.
use Rattle.std.specs.Prelude.{◌≡◌, refl, Bool, true, false, ◌||◌, ℕ, zero, suc, ◌^◌, ◌≤◌, ◌<◌, length, take, drop, Option, None, Some}
use Rattle.std.proofs.Common.{sym, arith, length-append, leb-false}
use Rattle.std.proofs.lemmas.Bool.{false≢true}
use mathlib.Core.List.{List, [], ◌∷◌, ◌++◌}
use Rattle.buffer.specs.Cases.{by_test}
use Rattle.buffer.specs.Same.{Bytes}
use Rattle.buffer.specs.Field.{le16, le64}
use Rattle.config.specs.Limits.{max_arguments, max_bytes, max_command_key}
use Rattle.config.specs.declared.Settings.{Settings}
use Rattle.format.specs.Lists.{enc_all, All}
use Rattle.commands.specs.Names.{is_cacheable}
use Rattle.commands.specs.MultiKey.{multi_key}
use Rattle.commands.specs.declared.MultiKey.{MultiKey}
use Rattle.commands.specs.declared.MultiKey.TheVariants.{Mget, JsonMget}
use Rattle.resp3.specs.Value.{IsValue}
use Rattle.call_record.specs.Record.{Argument, simple, cursor, Command, Record, transaction, ValidArgument, ValidCommand, ValidRecord, enc_argument}
use Rattle.call_record.specs.Record.{enc_command, enc_record}
use Rattle.command_key.specs.Key.{command_key}
use Rattle.book.specs.Book.{Answer, hit, miss, stored, no_space, invalidated, number}
use Rattle.book.specs.Calls.{Wanted}
use Rattle.planning.specs.Ask.{Reach, skipped, stopped, named, past_end, reach, client_expiry, any_late, after_name, but_last, last_only}
use Rattle.planning.specs.Ask.{ask_one, may_have, ask_listed, ask_several, ask_by, ask_from, Ask, uncacheable, several_keys, ask}
use Rattle.planning.specs.Outcome.{Place, filled, waiting, item, as_simple, whole_key, part_keys, wants, place_by, place, places, served_values}
use Rattle.planning.specs.Outcome.{single_item, multiple_item, missing, outcome, outcomes}
use Rattle.planning.specs.Plan.{end_of_several, value_nodes, place_nodes, served_nodes, missing_nodes, nodes_of, nodes, plan_of}
use Rattle.planning.specs.Planning.{planned_by, planned_from}
use Rattle.planning.specs.Rules.{GoodWanted, GoodNode, GoodPlan, IsPlan}
use Rattle.planning.proofs.Small.{Short, after-short, after-count, but-last-short, but-last-count, last-short, key-short, parts-good, parts-count}
use Rattle.planning.proofs.Order.{in_order}

-- ---- lists of good things

-- one list after the other
append-all : {A : Type 0} (P : A → Type 0) (l m : List A) → All P l → All P m → All P (l ++ m)
append-all P [] m h g = g
append-all P (x ∷ l) m h g = (h.0, append-all P l m h.1 g)

-- the first of a list
take_all : {A : Type 0} (P : A → Type 0) (n : ℕ) (l : List A) → All P l → All P (take n l)
take_all P zero l h = tt
take_all P (suc n) [] h = tt
take_all P (suc n) (x ∷ l) h = (h.0, take_all P n l h.1)

-- the others
drop_all : {A : Type 0} (P : A → Type 0) (n : ℕ) (l : List A) → All P l → All P (drop n l)
drop_all P zero l h = h
drop_all P (suc n) [] h = tt
drop_all P (suc n) (x ∷ l) h = drop_all P n l h.1

-- ---- places

-- a hit serves a value: the cache holds nothing else
unfoldable pub GoodAnswer : Answer → Type 0
GoodAnswer (hit v) = IsValue v
GoodAnswer miss = Unit {0}
GoodAnswer stored = Unit {0}
GoodAnswer no_space = Unit {0}
GoodAnswer invalidated = Unit {0}
GoodAnswer (number n) = Unit {0}

-- a value, or a key with its command key
unfoldable GoodPlace : Place → Type 0
GoodPlace (filled v) = IsValue v
GoodPlace (waiting w) = GoodWanted w

-- what an answer makes of a key is good
by-good : (a : Answer) (w : Wanted) → GoodAnswer a → GoodWanted w → GoodPlace (place_by a w)
unfolding place_by GoodAnswer GoodPlace
by-good (hit v) w h g = h
by-good miss w h g = g
by-good stored w h g = g
by-good no_space w h g = g
by-good invalidated w h g = g
by-good (number n) w h g = g

-- the first answer
place-good : (said : List Answer) (w : Wanted) → All GoodAnswer said → GoodWanted w → GoodPlace (place said w)
unfolding place GoodPlace
place-good [] w h g = g
place-good (a ∷ said) w h g = by-good a w h.0 g

-- each answer
places-good : (said : List Answer) (ws : List Wanted) → All GoodAnswer said → All GoodWanted ws → All GoodPlace (places said ws)
unfolding places
places-good said [] h g = tt
places-good said (w ∷ ws) h g = (place-good said w h g.0, places-good (drop 1 said) ws (drop_all GoodAnswer 1 said h) g.1)

-- as many places as keys
places_count : (said : List Answer) (ws : List Wanted) → length (places said ws) ≡ length ws
unfolding places
places_count said [] = refl
places_count said (w ∷ ws) = let i = places_count (drop 1 said) ws in omega arith

-- no more values than places
served-count : (ps : List Place) → length (served_values ps) ≤ length ps
unfolding served_values
served-count [] = omega arith
served-count (filled v ∷ ps) = let i = served-count ps in omega arith
served-count (waiting w ∷ ps) = let i = served-count ps in omega arith

-- ---- the nodes of one command

-- of values that are served
value-nodes : (ps : List Place) → All GoodPlace ps → All GoodNode (value_nodes (served_values ps))
unfolding value_nodes served_values GoodPlace GoodNode
value-nodes [] h = tt
value-nodes (filled v ∷ ps) h = (h.0, value-nodes ps h.1)
value-nodes (waiting w ∷ ps) h = value-nodes ps h.1

-- of places
place-nodes : (x : ℕ) (ps : List Place) → x < 2 ^ 64 → All GoodPlace ps → All GoodNode (place_nodes x ps)
unfolding place_nodes GoodPlace GoodNode
place-nodes x [] l h = tt
place-nodes x (filled v ∷ ps) l h = (h.0, place-nodes x ps l h.1)
place-nodes x (waiting w ∷ ps) l h = ((h.0, l), place-nodes x ps l h.1)

-- of one key
single-nodes : (x : ℕ) (q : Place) → x < 2 ^ 64 → GoodPlace q → All GoodNode (nodes_of (item (single_item q x)))
unfolding nodes_of single_item served_nodes missing_nodes GoodPlace GoodNode
single-nodes x (filled v) l h = (h, tt)
single-nodes x (waiting w) l h = ((h, l), tt)

-- of several keys
multiple-nodes : (ms : List Wanted) (n : Bytes) (ps : List Place) (path : List Bytes) (x : ℕ) → x < 2 ^ 64 → All GoodPlace ps → length ps ≤ max_arguments
    → All GoodNode (nodes_of (item (multiple_item ms n ps path x)))
unfolding nodes_of multiple_item served_nodes missing_nodes GoodNode
multiple-nodes [] n ps path x l h g = let i = served-count ps in (omega arith, value-nodes ps h)
multiple-nodes (m ∷ ms) n ps path x l h g = (g, append-all GoodNode (place_nodes x ps) (end_of_several ∷ []) (place-nodes x ps l h) (tt, tt))

-- a command's key is no longer than its bytes in the record
key_fits : (c : Command) → length (enc_command c) ≤ max_bytes → length (command_key c.args) ≤ max_command_key
unfolding enc_command
key_fits c b =
    let args = enc_all enc_argument c.args in
    let i = key-short c.args in
    let j = length-append (le16 (length c.args)) args in
    let k = length-append (le64 c.cursor) (le16 (length c.args) ++ args) in
    let l = length-append (le64 c.ttl) (le64 c.cursor ++ (le16 (length c.args) ++ args)) in
    omega arith

-- neither of two tests
neither : (a b : Bool) → (a || b) ≡ false → (a ≡ false) × (b ≡ false)
neither true b e = absurd (false≢true (sym e))
neither false b e = (refl, e)

module _ (c : Command) (said : List Answer) (fine : All GoodAnswer said) (x : ℕ) (fits : x < 2 ^ 64) where
  -- one key
  one-nodes : (l : List Argument) → All ValidArgument l → length (command_key c.args) ≤ max_command_key → All GoodNode (nodes_of (outcome c (ask_one l x) said))
  unfolding ask_one outcome nodes_of GoodNode ValidArgument
  one-nodes [] h b = (tt, tt)
  one-nodes (a ∷ []) h b = (tt, tt)
  one-nodes (a ∷ (simple k ∷ l)) h b =
      single-nodes x (place said (whole_key c k)) fits (place-good said (whole_key c k) fine (unfold whole_key in record { key = h.1.0.0; command = b }))
  one-nodes (a ∷ (cursor ∷ l)) h b = (tt, tt)

  -- a command that is not cacheable
  uncached-node : All GoodNode (nodes_of (outcome c uncacheable said))
  unfolding outcome nodes_of GoodNode
  uncached-node = (tt, tt)

  -- one key, if it may have so many arguments
  listed-nodes : (n : Bytes) (l : List Argument) → All ValidArgument l → length (command_key c.args) ≤ max_command_key
      → All GoodNode (nodes_of (outcome c (ask_listed n l x) said))
  unfolding ask_listed
  listed-nodes n l h b = by_test (may_have n (length l)) (λ e. rw e (one-nodes l h b)) (λ e. rw e uncached-node)

  -- several keys
  several-nodes : (n : Bytes) (ks path : List Bytes) → All Short ks → length ks ≤ max_arguments → Short (command_key (as_simple path))
      → All GoodNode (nodes_of (outcome c (several_keys n ks path x) said))
  unfolding outcome
  several-nodes n ks path h g q =
      let ws = part_keys n path ks in
      let i = parts-count n path ks in
      let j = places_count said ws in
      multiple-nodes (missing (places said ws)) n (places said ws) path x fits (places-good said ws fine (parts-good n path ks q h)) (omega arith)

  -- if there are any
  asked-several-nodes : (n : Bytes) (ks path : List Bytes) → All Short ks → length ks ≤ max_arguments → Short (command_key (as_simple path))
      → All GoodNode (nodes_of (outcome c (ask_several n ks path x) said))
  unfolding ask_several
  asked-several-nodes n [] path h g q = uncached-node
  asked-several-nodes n (k ∷ ks) path h g q = several-nodes n (k ∷ ks) path h g q

  -- by the name
  named-nodes : (m : Option MultiKey) (n : Bytes) → All ValidArgument c.args → length c.args ≤ max_arguments → length (command_key c.args) ≤ max_command_key
      → All GoodNode (nodes_of (outcome c (ask_by m n c.args x) said))
  unfolding ask_by
  named-nodes (Some Mget) n h g b =
      let i = after-count c.args in
      asked-several-nodes n (after_name c.args) [] (after-short c.args h) (omega arith) (unfold command_key as_simple in omega arith)
  named-nodes (Some JsonMget) n h g b =
      let i = after-count c.args in
      let j = but-last-count (after_name c.args) in
      let s = after-short c.args h in
      asked-several-nodes n (but_last (after_name c.args)) (last_only (after_name c.args)) (but-last-short (after_name c.args) s) (omega arith)
      (last-short (after_name c.args) s)
  named-nodes None n h g b =
      by_test (is_cacheable n) (λ e. rw e (listed-nodes n c.args h b)) (λ e. rw e uncached-node)

-- by how far the command gets
reached-nodes : (c : Command) (said : List Answer) (x : ℕ) (q : Reach) → past_end q x ≡ false → All GoodAnswer said → ValidCommand c
    → length (enc_command c) ≤ max_bytes
    → All GoodNode (nodes_of (outcome c (ask_from q c.args x) said))
unfolding ask_from past_end outcome nodes_of GoodNode
reached-nodes c said x skipped e h v b = (tt, tt)
reached-nodes c said x stopped e h v b = (tt, tt)
reached-nodes c said x (named n) e h v b =
    named-nodes c said h x (leb-false (2 ^ 64) x e) (multi_key n) n v.args v.count (key_fits c b)

-- of any command
asked-nodes : (g : Settings) (t : ℕ) (c : Command) (said : List Answer) → past_end (reach g.mode c) (client_expiry g t c) ≡ false → All GoodAnswer said
    → ValidCommand c → length (enc_command c) ≤ max_bytes → All GoodNode (nodes_of (outcome c (ask g t c) said))
unfolding ask
asked-nodes g t c said e h v b = reached-nodes c said (client_expiry g t c) (reach g.mode c) e h v b

-- ---- the nodes of all commands

-- each command takes the answers of its own lookups
all-nodes : (g : Settings) (t : ℕ) (cs : List Command) (said : List Answer) → All ValidCommand cs → length (enc_all enc_command cs) ≤ max_bytes
    → any_late g t cs ≡ false → All GoodAnswer said → All GoodNode (nodes (outcomes (ask g t) cs said))
unfolding outcomes nodes any_late
all-nodes g t [] said v b e h = tt
all-nodes g t (c ∷ cs) said v b e h =
    let own = length (wants c (ask g t c)) in
    let j = length-append (enc_command c) (enc_all enc_command cs) in
    let o = neither (past_end (reach g.mode c) (client_expiry g t c)) (any_late g t cs) e in
    append-all GoodNode (nodes_of (outcome c (ask g t c) (take own said))) (nodes (outcomes (ask g t) cs (drop own said)))
    (asked-nodes g t c (take own said) o.0 (take_all GoodAnswer own said h) v.0 (omega arith))
    (all-nodes g t cs (drop own said) v.1 (omega arith) o.1 (drop_all GoodAnswer own said h))

-- as many outcomes as commands
pub outcomes-count : (asks : Command → Ask) (cs : List Command) (said : List Answer) → length (outcomes asks cs said) ≡ length cs
unfolding outcomes
outcomes-count asks [] said = refl
outcomes-count asks (c ∷ cs) said =
    let i = outcomes-count asks cs (drop (length (wants c (asks c))) said) in omega arith

-- of a valid record of at most 16 MiB, of which no client expiry is past 64 bits, on a cache that holds values, planning's plan is a good one
pub good-plan : (g : Settings) (t : ℕ) (r : Record) (said : List Answer) → ValidRecord r → length (enc_record r) ≤ max_bytes → any_late g t r.commands ≡ false
    → All GoodAnswer said → GoodPlan (plan_of (transaction r) (outcomes (ask g t) r.commands said))
unfolding plan_of enc_record
good-plan g t r said v b e h =
    let n = outcomes-count (ask g t) r.commands said in
    let k = v.count in
    let j = length-append (le16 (length r.commands)) (enc_all enc_command r.commands) in
    let i = length-append (le16 1) (r.flags ∷ (le16 (length r.commands) ++ enc_all enc_command r.commands)) in
    record {
      count = omega arith;
      each = all-nodes g t r.commands said v.commands (omega arith) e h;
      order = in_order (outcomes (ask g t) r.commands said);
    }

-- so what it writes is a plan
pub keeps-rules : (g : Settings) (t : ℕ) (r : Record) (said : List Answer) → ValidRecord r → length (enc_record r) ≤ max_bytes → any_late g t r.commands ≡ false
    → All GoodAnswer said → IsPlan (planned_from (ask g t) g r said).plan
unfolding planned_from planned_by
keeps-rules g t r said v b e h = record {
  plan = plan_of (transaction r)
      (outcomes (ask g t) r.commands said);
  good = good-plan g t r said v b e h;
  is = refl;
}
