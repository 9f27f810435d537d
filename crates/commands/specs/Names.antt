-- The names whose answers may be cached: the ReadOnlyCacheable arm of `command_properties` (commands/mod.rs), narrowed by request 5 of document 02 to
-- commands all of whose keys are watched. Assumes nothing: these are definitions.
use Rattle.std.specs.Prelude.{Bool, true, false, cond, List, [], ◌∷◌}
use Prim.Native.String.{String}
use Rattle.buffer.specs.Same.{Bytes, same}
use Rattle.buffer.specs.Ascii.{ascii}

-- the arm's names, line by line as there, but for six that name several keys wherever their arguments put them, and are never cached: LCS, SINTERCARD,
-- ZDIFF, ZINTER, ZINTERCARD, ZUNION
unfoldable pub names : List String
names =
    "BITCOUNT" ∷ "BITFIELD_RO" ∷ "BITPOS" ∷ "DUMP" ∷ "EXISTS" ∷ "GEODIST" ∷
    "GEOHASH" ∷ "GEOPOS" ∷ "GET" ∷ "GETBIT" ∷ "GETRANGE" ∷ "HEXISTS" ∷ "HGET" ∷
    "HGETALL" ∷ "HKEYS" ∷ "HLEN" ∷ "HMGET" ∷ "HSTRLEN" ∷ "HVALS" ∷ "JSON.ARRINDEX" ∷
    "JSON.ARRLEN" ∷ "JSON.GET" ∷ "JSON.OBJLEN" ∷ "JSON.OBJKEYS" ∷ "JSON.MGET" ∷
    "JSON.RESP" ∷ "JSON.STRLEN" ∷ "JSON.TYPE" ∷ "LINDEX" ∷ "LLEN" ∷ "LPOS" ∷
    "LRANGE" ∷ "MGET" ∷ "SCARD" ∷ "SDIFF" ∷ "SINTER" ∷ "SISMEMBER" ∷
    "SMEMBERS" ∷ "SMISMEMBER" ∷ "STRLEN" ∷ "SUBSTR" ∷ "SUNION" ∷ "TYPE" ∷ "ZCARD" ∷
    "ZCOUNT" ∷ "ZLEXCOUNT" ∷ "ZMSCORE" ∷
    "ZRANGE" ∷ "ZRANGEBYLEX" ∷ "ZRANGEBYSCORE" ∷ "ZRANK" ∷ "ZREVRANGE" ∷
    "ZREVRANGEBYLEX" ∷ "ZREVRANGEBYSCORE" ∷ "ZREVRANK" ∷ "ZSCORE" ∷ []

-- those of them whose arguments are all keys: cached with one argument behind the name, and with no other number
unfoldable pub sole_key_names : List String
sole_key_names = "EXISTS" ∷ "SDIFF" ∷ "SINTER" ∷ "SUNION" ∷ []

-- the bytes of each text
unfoldable pub all_ascii : List String → List Bytes
all_ascii [] = []
all_ascii (s ∷ ss) = ascii s ∷ all_ascii ss

-- the same names as byte strings
unfoldable pub read_only_cacheable : List Bytes
read_only_cacheable = all_ascii names

-- whether b is one of the byte strings, byte for byte
unfoldable pub member : Bytes → List Bytes → Bool
member b [] = false
member b (x ∷ xs) = let rest = member b xs in cond (same x b) true rest

-- whether a command of that name may be cached
unfoldable pub is_cacheable : Bytes → Bool
is_cacheable b = member b read_only_cacheable

-- whether it may only have its one key behind the name
unfoldable pub takes_sole_key : Bytes → Bool
takes_sole_key b = member b (all_ascii sole_key_names)

-- one name that opens every definition of this page, for cases that compute
unfoldable pub name-defs : Unit {0}
unfolding names sole_key_names all_ascii read_only_cacheable member is_cacheable takes_sole_key
name-defs = tt
