-- How far a command of a call record gets in planning, and which keys it then asks for: rules P1 to P7 of docs/BEHAVIOUR.md, in their order, after
-- `get_cached_pipeline`. Assumes nothing: these are definitions.
-- Letters: g settings, t clock, c command, n name, k key, x client expiry.
use Rattle.std.specs.Prelude.{ℕ, ◌+◌, ◌^◌, Bool, true, false, cond, ◌||◌, List, [], ◌∷◌, eqb, leb, length, Option, None, Some}
use Rattle.buffer.specs.Same.{Bytes}
use Rattle.config.specs.declared.CacheMode.{CacheMode}
use Rattle.config.specs.declared.CacheMode.TheVariants.{All, OptIn}
use Rattle.config.specs.declared.Settings.{Settings}
use Rattle.commands.specs.Names.{is_cacheable, takes_sole_key}
use Rattle.commands.specs.MultiKey.{multi_key}
use Rattle.commands.specs.declared.MultiKey.{MultiKey}
use Rattle.commands.specs.declared.MultiKey.TheVariants.{Mget, JsonMget}
use Rattle.call_record.specs.Record.{Argument, simple, cursor, Command, ignored, enable_cache, has_ttl}

-- ---- How far a command gets

pub data Reach : Type 0 where
  -- it is ignored (rule P1)
  skipped : Reach
  -- it is stopped as not cacheable
  stopped : Reach
  -- it gets as far as its client expiry, with its name
  named : Bytes → Reach

-- rule P2: in opt-in mode a command has to ask for caching; in mode All every command takes part
unfoldable pub takes_part : CacheMode → Command → Bool
takes_part All c = true
takes_part OptIn c = enable_cache c

-- rule P3: the first argument has to be a name, simple and not empty. (The Rust also stops where the packed command has fewer than two bytes, which none
-- has.)
unfoldable pub reach_by : List Argument → Reach
reach_by [] = stopped
reach_by (simple [] ∷ l) = stopped
reach_by (simple (b ∷ bs) ∷ l) = named (b ∷ bs)
reach_by (cursor ∷ l) = stopped

-- all three, in this order
unfoldable pub reach : CacheMode → Command → Reach
reach m c = cond (ignored c) skipped (cond (takes_part m c) (reach_by c.args) stopped)

-- ---- Rule P4: until when the client lets an answer be kept, by the command's own TTL or else the default one, in either mode; whatever the name turns
-- out to be

unfoldable pub client_expiry : Settings → ℕ → Command → ℕ
client_expiry g t c = t + cond (has_ttl c) c.ttl g.ttl

-- cause 4 (C4): the client expiry needs more than 64 bits; only a command that got as far as its name has one
unfoldable pub past_end : Reach → ℕ → Bool
past_end skipped x = false
past_end stopped x = false
past_end (named n) x = leb (2 ^ 64) x

-- of any command
unfoldable pub any_late : Settings → ℕ → List Command → Bool
any_late g t [] = false
any_late g t (c ∷ cs) = past_end (reach g.mode c) (client_expiry g t c) || any_late g t cs

-- ---- Keys

-- what planning asks the cache for a command, before any answer
pub data Ask : Type 0 where
  -- nothing, since it is ignored
  nothing : Ask
  -- nothing, since it is not cacheable
  uncacheable : Ask
  -- one key; client expiry
  one_key : Bytes → ℕ → Ask
  -- several: the command's name, the keys, the path (at most one argument); client expiry
  several_keys : Bytes → List Bytes → List Bytes → ℕ → Ask

-- the simple arguments, in order
unfoldable pub simples : List Argument → List Bytes
simples [] = []
simples (simple b ∷ l) = b ∷ simples l
simples (cursor ∷ l) = simples l

-- those behind the name (rules P5, P6)
unfoldable pub after_name : List Argument → List Bytes
after_name [] = []
after_name (a ∷ l) = simples l

-- all but the last
unfoldable pub but_last : List Bytes → List Bytes
but_last [] = []
but_last (b ∷ []) = []
but_last (b ∷ (d ∷ l)) = b ∷ but_last (d ∷ l)

-- the last alone, if there is one
unfoldable pub last_only : List Bytes → List Bytes
last_only [] = []
last_only (b ∷ []) = b ∷ []
last_only (b ∷ (d ∷ l)) = last_only (d ∷ l)

-- rule P7, the key: the argument behind the name, which has to be there and to be simple. (At a cursor there the Rust panics.)
unfoldable pub ask_one : List Argument → ℕ → Ask
ask_one [] x = uncacheable
ask_one (a ∷ []) x = uncacheable
ask_one (a ∷ (simple k ∷ l)) x = one_key k x
ask_one (a ∷ (cursor ∷ l)) x = uncacheable

-- how many arguments it may have, the name among them: any number, but where all behind the name are keys just one of those (request 5), since only
-- the first is watched
unfoldable pub may_have : Bytes → ℕ → Bool
may_have n count = cond (takes_sole_key n) (eqb count 2) true

-- one key, where it may have so many arguments
unfoldable pub ask_listed : Bytes → List Argument → ℕ → Ask
ask_listed n l x = cond (may_have n (length l)) (ask_one l x) uncacheable

-- several keys; a command without any is not cacheable (request 4: the server is to say that its arguments are too few)
unfoldable pub ask_several : Bytes → List Bytes → List Bytes → ℕ → Ask
ask_several n [] path x = uncacheable
ask_several n (k ∷ ks) path x = several_keys n (k ∷ ks) path x

-- by the name: `MGET` asks for everything behind it (rule P5), `JSON.MGET` too but for the last, its path (rule P6), any other cacheable name for its one
-- key (rule P7)
unfoldable pub ask_by : Option MultiKey → Bytes → List Argument → ℕ → Ask
ask_by (Some Mget) n l x = ask_several n (after_name l) [] x
ask_by (Some JsonMget) n l x = ask_several n (but_last (after_name l)) (last_only (after_name l)) x
ask_by None n l x = cond (is_cacheable n) (ask_listed n l x) uncacheable

-- by how far the command gets
unfoldable pub ask_from : Reach → List Argument → ℕ → Ask
ask_from skipped l x = nothing
ask_from stopped l x = uncacheable
ask_from (named n) l x = ask_by (multi_key n) n l x

unfoldable pub ask : Settings → ℕ → Command → Ask
ask g t c = ask_from (reach g.mode c) c.args (client_expiry g t c)

-- one name that opens every definition of this page, for cases that compute
unfoldable pub ask-defs : Unit {0}
unfolding takes_part reach_by reach client_expiry past_end any_late simples after_name but_last last_only ask_one may_have ask_listed ask_several ask_by ask_from ask
ask-defs = tt
