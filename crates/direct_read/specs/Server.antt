-- A server by what it answers to reads: what it has at each key, the whole answer to `MGET`, its replies to the commands that planning sends, and what
-- the host hands to resolving of them; with what a served value has to be. Assumes nothing: these are definitions.
-- Letters: sv server, k key, p a command sent, v value or its bytes; S what is replied to a command, R when two values count as equal.
use Rattle.std.specs.Prelude.{Bool, true, false, List, [], ◌∷◌}
use Rattle.buffer.specs.Same.{Bytes}
use Rattle.buffer.specs.Ascii.{ascii}
use Rattle.resp3.specs.Value.{Value, array, Values, none, more, Means}
use Rattle.cmd.specs.Pack.{pttl_texts, caching_texts}
use Rattle.planning.specs.Sent.{Packed}
use Rattle.demand.specs.Words.{Got, got, missed}

-- the value at a key's place in an answer to `MGET`, whatever it is
abbrev pub Server : Type 0
Server = Bytes → Value

-- of each key, in their order
unfoldable pub read_of : Server → List Bytes → Values
read_of sv [] = none
read_of sv (k ∷ ks) = more (sv k) (read_of sv ks)

-- what it answers to `MGET` of these keys
unfoldable pub whole_answer : Server → List Bytes → Value
whole_answer sv ks = array (read_of sv ks)

-- what it replies to a command that was sent: to `MGET` of any keys the whole answer for them; what it replies to the other two does not matter
pub data Replied (sv : Server) : Packed → Value → Type 0 where
  to_mget : (ks : List Bytes) → Replied sv (ascii "MGET" ∷ ks) (whole_answer sv ks)
  to_pttl : (k : Bytes) (v : Value) → Replied sv (pttl_texts k) v
  to_caching : (v : Value) → Replied sv caching_texts v

-- a reply for each command sent, in their order, and no other
unfoldable pub RepliedAll : (Packed → Value → Type 0) → List Packed → Values → Type 0
RepliedAll S [] none = Unit {0}
RepliedAll S [] (more v vs) = ⊥
RepliedAll S (p ∷ ps) none = ⊥
RepliedAll S (p ∷ ps) (more v vs) = S p v × RepliedAll S ps vs

-- what resolving is given of the replies: their array; of a transaction the array whose one element is what `EXEC` answers, which is their array
unfoldable pub handed : Bool → Values → Value
handed false vs = array vs
handed true vs = array (more (array vs) none)

-- bytes v that are served where the server has w: they mean a value that counts as equal to it
pub record ServedAs (R : Value → Value → Type 0) (v : Bytes) (w : Value) : Type 0 where
  pub value : Value
  pub means : Means v value
  pub like : R value w

-- at each key's place a value that the cache served counts as the server's; nothing is asked where the key is missing, and of a command without places
unfoldable pub ServedBy : (Value → Value → Type 0) → Server → List Bytes → List Got → Type 0
ServedBy R sv [] gs = Unit {0}
ServedBy R sv (k ∷ ks) [] = Unit {0}
ServedBy R sv (k ∷ ks) (got v ∷ gs) = ServedAs R v (sv k) × ServedBy R sv ks gs
ServedBy R sv (k ∷ ks) (missed ∷ gs) = ServedBy R sv ks gs

-- as many values as these, in their order, and each counts as equal to the one at its place
unfoldable pub EachLike : (Value → Value → Type 0) → Values → Values → Type 0
EachLike R none none = Unit {0}
EachLike R none (more w ws) = ⊥
EachLike R (more v vs) none = ⊥
EachLike R (more v vs) (more w ws) = R v w × EachLike R vs ws
