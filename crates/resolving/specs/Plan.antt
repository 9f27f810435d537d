-- A plan as resolving sees it. Assumes nothing: these are the definitions that a reader has to believe.
-- How a plan is written in bytes is docs/LAYOUT.md's matter; that the bytes lent are such a plan is cause 10's.
use Rattle.std.specs.Prelude.{Bool, List}
use Rattle.resp3.specs.Value.{Value, Values}
use Rattle.book.specs.Calls.{Missing}

-- a place in the answer of a several-key command: a served value, or a key that waits for one
pub data Place : Type 0 where
  served : Value → Place
  waiting : Missing → Place

-- what planning found out about a command, as far as its replies go (rules S3 to S6)
pub data Command : Type 0 where
  -- ignored or not cacheable: its reply is handed on
  handed_on : Command
  -- cached: one value, or the array of several keys that were all served
  cached : Value → Command
  cached_array : Values → Command
  -- one missing key
  single : Missing → Command
  -- several keys, at least one of them missing where planning wrote the plan
  multiple : List Place → Command

-- the commands in their order, and whether they are a transaction
pub record Plan : Type 0 where
  pub transaction : Bool
  pub commands : List Command
