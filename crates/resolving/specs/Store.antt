-- What one reply with its PTTL stores, and until when. Assumes nothing: these are the definitions that a reader has to believe.
use Rattle.std.specs.Prelude.{cond, List, [], ◌∷◌, ℕ, ◌+◌, min, ltb, pos, negsuc, Option, Some, None, ℤ}
use Rattle.resp3.specs.Value.{Value, encode}
use Rattle.resp3_element.specs.Meaning.{is_error, integer_of}
use Rattle.book.specs.Calls.{Missing, Storing}

-- rule S9, the expiry: the client's, unless the server's time to live is positive and ends sooner. (Numbers do not end here and a client expiry has 64 bits,
-- so that a sum past 64 bits never ends sooner: Expiry.antt. In the Rust it may panic.)
abbrev pub expiry_of : ℕ → ℕ → Option ℤ → ℕ
expiry_of clock client None = client
expiry_of clock client (Some (pos n)) = cond (ltb 0 n) (min (clock + n) client) client
expiry_of clock client (Some (negsuc n)) = client

-- the store of a reply (rule S9)
abbrev pub storing : ℕ → Missing → Value → Value → Storing
storing clock m pttl v = record { wanted = m.wanted; value = encode v; expiry = expiry_of clock m.expiry (integer_of pttl) }

-- rule S8: a server error is never stored
abbrev pub store_of : ℕ → Missing → Value → Value → List Storing
store_of clock m pttl v = cond (is_error v) [] (storing clock m pttl v ∷ [])
