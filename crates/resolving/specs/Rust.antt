-- Resolving as caching/cmd.rs and `CacheManager::insert` have it, statement by statement: what the Rust changes (the replies' iterator, the response, the
-- lru) is a parameter that the next statement gets. Assumes nothing: these are definitions. Same.antt proves that they say what Resolve.antt says.
use Rattle.std.specs.Prelude.{Bool, true, false, cond, List, [], ◌∷◌, ◌++◌, ℕ, suc, ◌+◌, min, ltb, ℤ, pos, negsuc, Option, Some, None}
use Rattle.std.proofs.Math.Option.{some}
use Rattle.std.proofs.Math.Option as option
use Rattle.config.specs.declared.CacheMode.{CacheMode}
use Rattle.config.specs.declared.CacheMode.TheVariants.{All, OptIn}
use Rattle.resp3.specs.Value.{Value, Values, null, array, none, more, encode}
use Rattle.resp3_element.specs.Meaning.{is_error, integer_of, array_of}
use Rattle.book.specs.Calls.{Missing, Storing}
use Rattle.resolving.specs.Plan.{Place, served, waiting, Command, handed_on, cached, cached_array, single, multiple, Plan}
use Rattle.resolving.specs.Convert.{replies_of}
use Rattle.resolving.specs.Vec.{push_back, set_at}

-- ---- CacheManager::insert

-- `pttl > 0`
abbrev pub positive : ℤ → Bool
positive (pos n) = ltb 0 n
positive (negsuc n) = false

-- `pttl as u64`, asked only where it is above 0
abbrev pub as_u64 : ℤ → ℕ
as_u64 (pos n) = n
as_u64 (negsuc n) = 0

-- `match pttl { Ok(pttl) if pttl > 0 => min(now + pttl, client_side_expire_time), _ => client_side_expire_time }`
abbrev pub expire_time : ℕ → ℕ → Option ℤ → ℕ
expire_time now client (Some z) = cond (positive z) (min (now + as_u64 z) client) client
expire_time now client None = client

-- `self.lru.insert(..)`: what the lru is told is put last
abbrev pub insert : ℕ → Missing → Value → Value → List Storing → List Storing
insert now m v pttl lru = lru ++ (record { wanted = m.wanted; value = encode v; expiry = expire_time now m.expiry (integer_of pttl) } ∷ [])

-- `if !matches!(&reply, &Value::ServerError(_)) { cache_manager.insert(..) }`
abbrev pub insert_unless_error : ℕ → Missing → Value → Value → List Storing → List Storing
insert_unless_error now m v pttl lru = cond (is_error v) lru (insert now m v pttl lru)

-- ---- CacheableCommand::resolve

-- `RedisResult<Value>`, with what the lru was told until then, and the replies' iterator after it
pub data Out : Type 0 where
  err : List Storing → Out
  ok : Value → List Storing → Values → Out

-- `?`
abbrev pub attempt : {A : Type 0} → Out → (List Storing → A) → (Value → List Storing → Values → A) → A
attempt (err lru) failing next = failing lru
attempt (ok v lru replies) failing next = next v lru replies

-- `get_next_reply`
abbrev pub next_reply : Values → List Storing → Out
next_reply none lru = err lru
next_reply (more v replies) lru = ok v lru replies

-- `if let (Some(pttl), Some(reply)) = (replies.next(), replies.next())`
abbrev pub resolve_single : ℕ → Missing → Values → List Storing → Out
resolve_single now m none lru = err lru
resolve_single now m (more pttl none) lru = err lru
resolve_single now m (more pttl (more reply replies)) lru = ok reply (insert_unless_error now m reply pttl lru) replies

-- an element of `commands`: `(usize, MultipleCachedCommandPart)`
pub record Part : Type 0 where
  pub index : ℕ
  pub missing : Missing

-- the `response` and `commands` that planning made: a `Nil` where a key is missing, and the places of those keys with them
abbrev pub response_of : List Place → Values
response_of [] = none
response_of (served v ∷ ps) = more v (response_of ps)
response_of (waiting m ∷ ps) = more null (response_of ps)

-- from the index i on
abbrev pub parts_of : ℕ → List Place → List Part
parts_of i [] = []
parts_of i (served v ∷ ps) = parts_of (suc i) ps
parts_of i (waiting m ∷ ps) = record { index = i; missing = m } ∷ parts_of (suc i) ps

-- `for ((key_value, pttl_value), (key_index, cached_command)) in zip(zip(mget_values, replies), commands)`
-- `next` of the zips takes an element, then a PTTL, then a command: where one is absent the loop ends, and what was taken before it is gone.
abbrev pub zip_loop : ℕ → Values → Values → List Part → Values → List Storing → Out
zip_loop now none replies commands response lru = ok (array response) lru replies
zip_loop now (more v vs) none commands response lru = ok (array response) lru none
zip_loop now (more v vs) (more pttl replies) [] response lru = ok (array response) lru replies
zip_loop now (more v vs) (more pttl replies) (p ∷ commands) response lru =
    zip_loop now vs replies commands (set_at response p.index v) (insert_unless_error now p.missing v pttl lru)

-- `if let Some(Value::Array(mget_values)) = replies.next()`: the test of the kind
abbrev pub if_array : ℕ → List Place → option.Option Values → Values → List Storing → Out
if_array now ps option.none replies lru = err lru
if_array now ps (some vs) replies lru = zip_loop now vs replies (parts_of 0 ps) (response_of ps) lru

-- `replies.next()`, then that test
abbrev pub resolve_multiple : ℕ → List Place → Values → List Storing → Out
resolve_multiple now ps none lru = err lru
resolve_multiple now ps (more reply replies) lru = if_array now ps (array_of reply) replies lru

-- `if cache_manager.cache_config.mode == CacheMode::OptIn { let _ = get_next_reply(&mut replies)?; }`
abbrev pub after_skip : CacheMode → (Values → List Storing → Out) → Values → List Storing → Out
after_skip All resolving replies lru = resolving replies lru
after_skip OptIn resolving replies lru = attempt (next_reply replies lru) (λ l. err l) (λ v l rest. resolving rest l)

-- ---- CacheablePipeline::resolve

-- the arm of one command
abbrev pub arm : CacheMode → ℕ → Command → Values → List Storing → Out
arm mode now handed_on replies lru = next_reply replies lru
arm mode now (cached v) replies lru = ok v lru replies
arm mode now (cached_array vs) replies lru = ok (array vs) lru replies
arm mode now (single m) replies lru = after_skip mode (λ r l. resolve_single now m r l) replies lru
arm mode now (multiple ps) replies lru = after_skip mode (λ r l. resolve_multiple now ps r l) replies lru

-- `RedisResult<Vec<Value>>`, the vector as the array that it is handed out as, with what the lru was told
pub data Returned : Type 0 where
  failed : List Storing → Returned
  returned : Value → List Storing → Returned

-- `if self.transaction_mode { Ok(vec![Value::Array(response)]) } else { Ok(response) }`
abbrev pub finish : Bool → Values → Value
finish true response = array (more (array response) none)
finish false response = array response

-- `for prepared_cache_result in self.commands { .. response.push(reply) }`
abbrev pub command_loop : Bool → CacheMode → ℕ → List Command → Values → Values → List Storing → Returned
command_loop transaction mode now [] replies response lru = returned (finish transaction response) lru
command_loop transaction mode now (c ∷ cs) replies response lru =
    attempt (arm mode now c replies lru) (λ l. failed l) (λ v l rest. command_loop transaction mode now cs rest (push_back response v) l)

-- `from_redis_value(result)?`, by rule S1
abbrev pub from_value : option.Option Values → (Values → Returned) → Returned
from_value option.none next = failed []
from_value (some replies) next = next replies

-- `CacheablePipeline::resolve`
unfoldable pub resolve_rust : Plan → CacheMode → ℕ → Value → Returned
resolve_rust p mode now result =
    from_value (replies_of p.transaction result) (λ replies. command_loop p.transaction mode now p.commands replies none [])
