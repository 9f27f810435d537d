-- Resolving as one walk over a plan's nodes, with the replies and the elements of a several-key command that are left. Assumes nothing: these are
-- definitions; Same.antt shows that the walk is resolving.
use Rattle.std.specs.Prelude.{cond, List, [], ◌∷◌, ◌++◌, ℕ}
use Rattle.std.proofs.Math.Option.{Option, some}
use Rattle.std.proofs.Math.Option as option
use Rattle.buffer.specs.Same.{Bytes}
use Rattle.config.specs.declared.CacheMode.{CacheMode}
use Rattle.config.specs.declared.CacheMode.TheVariants.{All, OptIn}
use Rattle.resp3.specs.Value.{Value, Values, none, more, encode, null_bytes}
use Rattle.resp3_element.specs.Meaning.{is_error, array_of}
use Rattle.book.specs.Calls.{Missing, missing_until, Storing}
use Rattle.cmd.specs.Pack.{head}
use Rattle.planning.specs.Plan.{Node, hand_on, served_value, all_served, missing_key, several, waiting_place, end_of_several}
use Rattle.resolving.specs.Store.{storing}
use Rattle.resolving.specs.Resolve.{eaten}

-- what a node gives: bytes of the answer; the head of an array of so many; bytes of the answer that are stored too; nothing
pub data Given : Type 0 where
  shown : Bytes → Given
  header : ℕ → Given
  kept : Storing → Given
  nothing : Given

-- a step: a reply is absent or of the wrong shape; or what the node gives, and the elements and replies that are left
pub data Move : Type 0 where
  stop : Move
  move : Given → Values → Values → Move

-- a reply with its PTTL: an error is passed on, all else is stored too
abbrev pub fetched : ℕ → Missing → Value → Value → Given
fetched clock m pttl v = cond (is_error v) (shown (encode v)) (kept (storing clock m pttl v))

-- opt-in: a missing command first drops one reply
abbrev pub opted : CacheMode → Values → (Values → Move) → Move
opted All rs f = f rs
opted OptIn none f = stop
opted OptIn (more v rs) f = f rs

-- a reply that is handed on
abbrev pub hand_move : Values → Values → Move
hand_move es none = stop
hand_move es (more v rs) = move (shown (encode v)) es rs

-- one missing key: its PTTL, then its reply
abbrev pub single_move : ℕ → Missing → Values → Values → Move
single_move clock m es none = stop
single_move clock m es (more pttl none) = stop
single_move clock m es (more pttl (more v rs)) = move (fetched clock m pttl v) es rs

-- the elements of the array that the reply to several keys is
abbrev pub array_move : ℕ → Option Values → Values → Move
array_move n option.none rs = stop
array_move n (some es) rs = move (header n) es rs

-- several keys: one reply, which must be an array
abbrev pub several_move : ℕ → Values → Move
several_move n none = stop
several_move n (more v rs) = array_move n (array_of v) rs

-- a place that waits: an element, then a PTTL; where one is absent it stays `_`
abbrev pub waiting_move : ℕ → Missing → Values → Values → Move
waiting_move clock m none rs = move (shown null_bytes) none rs
waiting_move clock m (more v es) none = move (shown null_bytes) (more v es) none
waiting_move clock m (more v es) (more pttl rs) = move (fetched clock m pttl v) es rs

-- a node; at the end of several keys a longer array eats one PTTL more
unfoldable pub node_move : CacheMode → ℕ → Node → Values → Values → Move
node_move mode clock hand_on es rs = hand_move es rs
node_move mode clock (served_value v) es rs = move (shown v) es rs
node_move mode clock (all_served n) es rs = move (header n) es rs
node_move mode clock (missing_key w x) es rs = opted mode rs (λ q. single_move clock (missing_until x w) es q)
node_move mode clock (several n) es rs = opted mode rs (λ q. several_move n q)
node_move mode clock (waiting_place w x) es rs = waiting_move clock (missing_until x w) es rs
node_move mode clock end_of_several es rs = move nothing none (eaten es rs)

-- the bytes of the answer that a node gives, and its stores
unfoldable pub bytes_of : Given → Bytes
bytes_of (shown bs) = bs
bytes_of (header n) = head 42 n
bytes_of (kept t) = t.value
bytes_of nothing = []

unfoldable pub stores_of : Given → List Storing
stores_of (shown bs) = []
stores_of (header n) = []
stores_of (kept t) = t ∷ []
stores_of nothing = []

-- a walk: it stopped, after these stores; or it went through, with these bytes and stores
pub data Walked : Type 0 where
  stopped : List Storing → Walked
  through : Bytes → List Storing → Walked

-- with bytes and stores more, before the others
abbrev pub before : Bytes → List Storing → Walked → Walked
before bs ss (stopped later) = stopped (ss ++ later)
before bs ss (through rest later) = through (bs ++ rest) (ss ++ later)

abbrev pub move_then : Move → (Values → Values → Walked) → Walked
move_then stop f = stopped []
move_then (move g es rs) f = before (bytes_of g) (stores_of g) (f es rs)

-- the walk over nodes
unfoldable pub walk : CacheMode → ℕ → List Node → Values → Values → Walked
walk mode clock [] es rs = through [] []
walk mode clock (n ∷ ns) es rs = move_then (node_move mode clock n es rs) (λ q p. walk mode clock ns q p)
