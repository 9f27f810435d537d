-- The places that a plan shows: its lookups that got nothing are the missing keys that it gives to resolving, with their client expiries. Assumes nothing.
use Rattle.std.specs.Prelude.{◌≡◌, ℕ, List, [], ◌∷◌, ◌++◌, map, length, take, drop, Option, None, Some}
use Rattle.std.proofs.Math.Path.{refl}
use Rattle.std.proofs.Common.{sym, ap, ◌∙◌}
use Rattle.buffer.specs.Cases.{by_test}
use Rattle.buffer.specs.Same.{Bytes}
use Rattle.config.specs.declared.Settings.{Settings}
use Rattle.commands.specs.Names.{is_cacheable}
use Rattle.commands.specs.MultiKey.{multi_key}
use Rattle.commands.specs.declared.MultiKey.{MultiKey}
use Rattle.commands.specs.declared.MultiKey.TheVariants.{Mget, JsonMget}
use Rattle.call_record.specs.Record.{Argument, simple, cursor, Command}
use Rattle.book.specs.Book.{Answer, hit, miss, stored, no_space, invalidated, number}
use Rattle.book.specs.Calls.{Wanted, Missing, missing_until}
use Rattle.planning.specs.Ask.{Reach, skipped, stopped, named, reach, client_expiry, Ask, nothing, uncacheable, one_key, several_keys, after_name, but_last, last_only}
use Rattle.planning.specs.Ask.{ask_one, may_have, ask_listed, ask_several, ask_by, ask_from, ask}
use Rattle.planning.specs.Outcome.{Place, filled, waiting, CachingResult, item, whole_key, part_keys, wants, place_by, place, places, missing}
use Rattle.planning.specs.Outcome.{single_item, multiple_item, outcome, outcomes}
use Rattle.planning.specs.Plan.{Node, nodes_of, nodes}
use Rattle.planning.proofs.Gives.{missing_of, all_missing}
use Rattle.demand.specs.Words.{Got, places_in}
use Rattle.demand.specs.CorollaryWords.{sought, unfound}
use Rattle.demand.proofs.Places.{got_of, command-places}

-- ---- what is asked for is asked for until the client expiry

-- keys that are asked for have the expiry x
abbrev Expires : Ask → ℕ → Type 0
Expires nothing x = Unit {0}
Expires uncacheable x = Unit {0}
Expires (one_key k y) x = y ≡ x
Expires (several_keys n ks path y) x = y ≡ x

one-expires : (l : List Argument) (x : ℕ) → Expires (ask_one l x) x
unfolding ask_one
one-expires [] x = tt
one-expires (a ∷ []) x = tt
one-expires (a ∷ (simple k ∷ l)) x = refl
one-expires (a ∷ (cursor ∷ l)) x = tt

listed-expires : (n : Bytes) (l : List Argument) (x : ℕ) → Expires (ask_listed n l x) x
unfolding ask_listed
listed-expires n l x = by_test (may_have n (length l)) (λ t. rw t (one-expires l x)) (λ t. rw t tt)

several-expires : (n : Bytes) (ks path : List Bytes) (x : ℕ) → Expires (ask_several n ks path x) x
unfolding ask_several
several-expires n [] path x = tt
several-expires n (k ∷ ks) path x = refl

by-expires : (k : Option MultiKey) (n : Bytes) (l : List Argument) (x : ℕ) → Expires (ask_by k n l x) x
unfolding ask_by
by-expires (Some Mget) n l x = several-expires n (after_name l) [] x
by-expires (Some JsonMget) n l x = several-expires n (but_last (after_name l)) (last_only (after_name l)) x
by-expires None n l x = by_test (is_cacheable n) (λ t. rw t (listed-expires n l x)) (λ t. rw t tt)

from-expires : (r : Reach) (l : List Argument) (x : ℕ) → Expires (ask_from r l x) x
unfolding ask_from
from-expires skipped l x = tt
from-expires stopped l x = tt
from-expires (named n) l x = by-expires (multi_key n) n l x

ask-expires : (g : Settings) (t : ℕ) (c : Command) → Expires (ask g t c) (client_expiry g t c)
unfolding ask
ask-expires g t c = from-expires (reach g.mode c) c.args (client_expiry g t c)

-- ---- a place is filled, or waits for its own key

-- so what holds of both holds of it
place-cases : (said : List Answer) (w : Wanted) (P : Place → Type 0) → ((v : Bytes) → P (filled v)) → P (waiting w) → P (place said w)
unfolding place place_by
place-cases [] w P f g = g
place-cases (hit v ∷ said) w P f g = f v
place-cases (miss ∷ said) w P f g = g
place-cases (stored ∷ said) w P f g = g
place-cases (no_space ∷ said) w P f g = g
place-cases (invalidated ∷ said) w P f g = g
place-cases (number m ∷ said) w P f g = g

-- the lookups of some keys that got nothing, in front of others
places-unfound : (x : ℕ) (ms : List Missing) (gs : List Got) (ws : List Wanted) (said : List Answer)
    → unfound (map (missing_until x) ws ++ ms) (map got_of (places said ws) ++ gs) ≡ map (missing_until x) (missing (places said ws)) ++ unfound ms gs
unfolding unfound places missing got_of
places-unfound x ms gs [] said = refl
places-unfound x ms gs (w ∷ ws) said =
    place-cases said w
    (λ (pl : Place).
    unfound (map (missing_until x) (w ∷ ws) ++ ms) (map got_of (pl ∷ places (drop 1 said) ws) ++ gs)
    ≡ map (missing_until x) (missing (pl ∷ places (drop 1 said) ws)) ++ unfound ms gs)
    (λ v. places-unfound x ms gs ws (drop 1 said))
    (ap (λ (z : List Missing). missing_until x w ∷ z) (places-unfound x ms gs ws (drop 1 said)))

-- the keys that a command's outcome gives to resolving are those whose places wait
several-missing : (x : ℕ) (n : Bytes) (path : List Bytes) (ps : List Place) (o : List Wanted) → missing ps ≡ o
    → missing_of (item (multiple_item o n ps path x)) ≡ map (missing_until x) (missing ps)
unfolding multiple_item missing_of
several-missing x n path ps [] q = ap (map (missing_until x)) (sym q)
several-missing x n path ps (w ∷ o) q = refl

command-missing : (x : ℕ) (c : Command) (a : Ask) (said : List Answer) → Expires a x
    → missing_of (outcome c a said) ≡ map (missing_until x) (missing (places said (wants c a)))
unfolding wants outcome places missing
command-missing x c nothing said q = unfold missing_of in refl
command-missing x c uncacheable said q = unfold missing_of in refl
command-missing x c (one_key k y) said q =
    rw q
    (place-cases said (whole_key c k) (λ (pl : Place). missing_of (item (single_item pl x)) ≡ map (missing_until x) (missing (pl ∷ [])))
    (λ v. unfold missing_of single_item in refl) (unfold missing_of single_item in refl))
command-missing x c (several_keys n ks path y) said q = rw q (several-missing x n path (places said (part_keys n path ks)) _ refl)

-- one command
command-unfound : (x : ℕ) (ms : List Missing) (ns : List Node) (c : Command) (a : Ask) (said : List Answer) → Expires a x
    → unfound (map (missing_until x) (wants c a) ++ ms) (places_in (nodes_of (outcome c a said) ++ ns))
    ≡ missing_of (outcome c a said) ++ unfound ms (places_in ns)
command-unfound x ms ns c a said q =
    ap (unfound (map (missing_until x) (wants c a) ++ ms)) (command-places c a said ns) ∙ places-unfound x ms (places_in ns) (wants c a) said
    ∙ ap (λ (z : List Missing). z ++ unfound ms (places_in ns)) (sym (command-missing x c a said q))

-- all commands, whatever their lookups answered
pub outcomes-unfound : (g : Settings) (t : ℕ) (cs : List Command) (said : List Answer)
    → unfound (sought g t cs) (places_in (nodes (outcomes (ask g t) cs said))) ≡ all_missing (outcomes (ask g t) cs said)
unfolding sought nodes outcomes all_missing
outcomes-unfound g t [] said = unfold unfound places_in in refl
outcomes-unfound g t (c ∷ cs) said =
    let own : ℕ = length (wants c (ask g t c)) in
    let r : CachingResult = outcome c (ask g t c) (take own said) in
    let rs : List CachingResult = outcomes (ask g t) cs (drop own said) in
    command-unfound (client_expiry g t c) (sought g t cs) (nodes rs) c (ask g t c) (take own said) (ask-expires g t c)
    ∙ ap (λ (z : List Missing). missing_of r ++ z) (outcomes-unfound g t cs (drop own said))
