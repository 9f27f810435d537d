-- What planning sends, as commands and as bytes, and the responses to it: rules P13 to P18 of docs/BEHAVIOUR.md, in their order. Assumes nothing: these are
-- definitions.
-- Letters: m mode, c command, k key, w a key with its command key, n name, x client expiry.
use Rattle.std.specs.Prelude.{ℕ, ◌+◌, Bool, true, false, List, [], ◌∷◌, ◌++◌}
use Rattle.buffer.specs.Same.{Bytes}
use Rattle.config.specs.declared.CacheMode.{CacheMode}
use Rattle.config.specs.declared.CacheMode.TheVariants.{All, OptIn}
use Rattle.resp3.specs.Value.{Values, none, more, encs}
use Rattle.call_record.specs.Record.{Command}
use Rattle.book.specs.Calls.{Wanted}
use Rattle.cmd.specs.Pack.{texts, pttl_texts, caching_texts, multi_texts, exec_texts, blobs, command_value}
use Rattle.planning.specs.Outcome.{CacheableCommand, single, multiple, cached, not_cached, not_cacheable, CachingResult, item, ignored, missing}

-- a command that is sent: its arguments, the name first
abbrev pub Packed : Type 0
Packed = List Bytes

-- the command itself, cursors printed (rule P13)
unfoldable pub itself : Command → Packed
itself c = texts c.cursor c.args

-- the keys that are missing
unfoldable pub keys_of : List Wanted → List Bytes
keys_of [] = []
keys_of (w ∷ ws) = w.key ∷ keys_of ws

-- a `PTTL` for each key
unfoldable pub pttls : List Bytes → List Packed
pttls [] = []
pttls (k ∷ ks) = pttl_texts k ∷ pttls ks

-- for a command with missing keys (`pack_command`). One key: its `PTTL` first, the command behind it (rule P14). Several: the command cut down to what is
-- missing first, a `PTTL` for each of these keys behind it (rule P15); a key that waits twice is in both twice
unfoldable pub packs : Command → CacheableCommand → List Packed
packs c (single w x) = pttl_texts w.key ∷ itself c ∷ []
packs c (multiple n ps path x) = (n ∷ (keys_of (missing ps) ++ path)) ∷ pttls (keys_of (missing ps))

-- rule P16: in opt-in mode the server has to be told first that the next command is to be tracked
unfoldable pub opt_in_first : CacheMode → List Packed → List Packed
opt_in_first All l = l
opt_in_first OptIn l = caching_texts ∷ l

-- what is sent for one command: an ignored one and one that is not cacheable go as they are (rule P13); for a cached one there is nothing to send
unfoldable pub sends : CacheMode → Command → CachingResult → List Packed
sends m c ignored = itself c ∷ []
sends m c (item not_cacheable) = itself c ∷ []
sends m c (item (cached v)) = []
sends m c (item (not_cached cc)) = opt_in_first m (packs c cc)

-- for all commands, each with its outcome
unfoldable pub sent : CacheMode → List Command → List CachingResult → List Packed
sent m [] rs = []
sent m (c ∷ cs) [] = []
sent m (c ∷ cs) (r ∷ rs) = sends m c r ++ sent m cs rs

-- rule P17: the frame of a transaction, which an empty one has too
unfoldable pub wrapped : Bool → List Packed → List Packed
wrapped true l = multi_texts ∷ (l ++ (exec_texts ∷ []))
wrapped false l = l

-- how many responses the host skips (`offset`) and how many it then takes (`count`)
pub record Responses : Type 0 where
  pub offset : ℕ
  pub count : ℕ

-- rule P18, where n commands stand inside the frame, if there is one: of a transaction the host skips what `MULTI` and these n answer and takes what `EXEC`
-- does; else it takes all n
unfoldable pub responses : Bool → ℕ → Responses
responses true n = record { offset = n + 1; count = 1 }
responses false n = record { offset = 0; count = n }

-- ---- As bytes: `write_pipeline`

-- the value of each command
unfoldable pub command_values : List Packed → Values
command_values [] = none
command_values (p ∷ ps) = more (command_value p) (command_values ps)

-- one after the other
unfoldable pub sent_bytes : List Packed → Bytes
sent_bytes ps = encs (command_values ps) []

-- one name that opens every definition of this page, for cases that compute
unfoldable pub sent-defs : Unit {0}
unfolding texts itself keys_of pttls packs opt_in_first sends sent wrapped responses blobs command_values sent_bytes
sent-defs = tt
