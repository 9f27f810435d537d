-- What is sent for a command: one RESP3 value, the array of its arguments as blobs; a cursor is sent as its digits. That the
-- reader of `resp3` reads it back is PackLaws.antt's (`packed-read`). Assumes nothing: these are definitions.
use Rattle.std.specs.Prelude.{List, [], ◌∷◌, ◌++◌, ℕ, length}
use Rattle.buffer.specs.Same.{Bytes}
use Rattle.call_record.specs.Record.{Argument, simple, cursor}
use Rattle.decimal.specs.Digits.{digits}
use Rattle.buffer.specs.Ascii.{ascii}
use Rattle.resp3.specs.Value.{Value, blob_string, array, Values, none, more, encode}

-- an argument as it is sent, under the command's cursor
abbrev pub sent : ℕ → Argument → Bytes
sent cur (simple b) = b
sent cur cursor = digits cur

-- a command's arguments as they are sent
unfoldable pub texts : ℕ → List Argument → List Bytes
texts cur [] = []
texts cur (a ∷ l) = sent cur a ∷ texts cur l

-- each as a blob
unfoldable pub blobs : List Bytes → Values
blobs [] = none
blobs (t ∷ ts) = more (blob_string t) (blobs ts)

-- the value that is sent
abbrev pub command_value : List Bytes → Value
command_value ts = array (blobs ts)

-- its bytes
unfoldable pub packed : List Bytes → Bytes
packed ts = encode (command_value ts)

-- the fixed commands
abbrev pub pttl_texts : Bytes → List Bytes
pttl_texts key = ascii "PTTL" ∷ key ∷ []

-- `CLIENT CACHING YES`
abbrev pub caching_texts : List Bytes
caching_texts = ascii "CLIENT" ∷ ascii "CACHING" ∷ ascii "YES" ∷ []

-- `MULTI`
abbrev pub multi_texts : List Bytes
multi_texts = ascii "MULTI" ∷ []

-- `EXEC`
abbrev pub exec_texts : List Bytes
exec_texts = ascii "EXEC" ∷ []

-- ---- piece by piece

-- a mark, a number and CR LF
abbrev pub head : ℕ → ℕ → Bytes
head m n = m ∷ (digits n ++ (13 ∷ 10 ∷ []))

-- a blob: its head, the text, CR LF
unfoldable pub blob : Bytes → Bytes
blob t = head 36 (length t) ++ (t ++ (13 ∷ 10 ∷ []))

-- blobs one after the other
unfoldable pub blob_bytes : List Bytes → Bytes
blob_bytes [] = []
blob_bytes (t ∷ ts) = blob t ++ blob_bytes ts
