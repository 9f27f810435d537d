-- The joint table's name in small letters, and worked examples, computed. Assumes nothing.
use Rattle.std.specs.Prelude.{◌≡◌, refl, true, false, [], ◌∷◌, map, length, replicate, None}
use Prim.Native.String.{String}
use Rattle.buffer.specs.Same.{same}
use Rattle.buffer.specs.Ascii.{ascii}
use Rattle.commands.specs.Names.{sole_key_names, read_only_cacheable, is_cacheable, takes_sole_key, name-defs}
use Rattle.commands.specs.MultiKey.{multi_key, single_name}

-- `get` is not cacheable
pub get-in-small-letters : is_cacheable (ascii "get") ≡ false
unfolding name-defs same
get-in-small-letters = refl

-- `GET` is
pub get-in-capitals : is_cacheable (ascii "GET") ≡ true
unfolding name-defs same
get-in-capitals = refl

-- the last name is; one letter less or more is not; the empty name is not
zscore : is_cacheable (ascii "ZSCORE") ≡ true
unfolding name-defs same
zscore = refl

zscor : is_cacheable (ascii "ZSCOR") ≡ false
unfolding name-defs same
zscor = refl

zscores : is_cacheable (ascii "ZSCORES") ≡ false
unfolding name-defs same
zscores = refl

nameless : is_cacheable [] ≡ false
unfolding name-defs same
nameless = refl

-- a read-only command that the crate does not cache
ttl : is_cacheable (ascii "TTL") ≡ false
unfolding name-defs same
ttl = refl

-- the arm has 62 names, and six are taken off it
count : length read_only_cacheable ≡ 56
unfolding name-defs same
count = refl

-- those six (request 5)
never : map (λ (s : String). is_cacheable (ascii s)) ("LCS" ∷ "SINTERCARD" ∷ "ZDIFF" ∷ "ZINTER" ∷ "ZINTERCARD" ∷ "ZUNION" ∷ []) ≡ replicate 6 false
unfolding name-defs same
never = refl

-- the four of a sole key are cacheable; in small letters none is
sole-key-cacheable : map (λ (s : String). is_cacheable (ascii s)) sole_key_names ≡ replicate 4 true
unfolding name-defs same
sole-key-cacheable = refl

exists-small : takes_sole_key (ascii "exists") ≡ false
unfolding name-defs same
exists-small = refl

-- `MGET` asks by `GET`, `JSON.MGET` by `JSON.GET`, `mget` and `GET` are neither
mget : single_name (multi_key (ascii "MGET")) ≡ ascii "GET"
unfolding multi_key single_name same
mget = refl

json-mget : single_name (multi_key (ascii "JSON.MGET")) ≡ ascii "JSON.GET"
unfolding multi_key single_name same
json-mget = refl

small-mget : multi_key (ascii "mget") ≡ None
unfolding multi_key same
small-mget = refl

get : multi_key (ascii "GET") ≡ None
unfolding multi_key same
get = refl
