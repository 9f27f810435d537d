-- Nulls of any spelling alike: when two values count as equal since RESP2's nulls are read (request 1). Assumes nothing: these are definitions.
use Rattle.std.specs.Prelude.{◌≡◌}
use Rattle.resp3.specs.Value.{Value, blob_string, simple_string, simple_error, number, null_as, null, double, boolean, blob_error, verbatim_string, big_number}
use Rattle.resp3.specs.Value.{array, map, set, attribute, push, Values, none, more, Pairs, nil, pair}
use Rattle.direct_read.specs.Server.{Server, read_of}
use Rattle.direct_read.specs.Direct.{Given, answer, MgetRun, AnswersLike}
use Rattle.direct_read.specs.Get.{GetRun, AnswerLike}
use Rattle.call_record.specs.Record.{transaction}

-- a value with every null in it spelled `_`
abbrev mutual
  pub plainly : Value → Value
  plainly (blob_string xs) = blob_string xs
  plainly (simple_string xs) = simple_string xs
  plainly (simple_error xs) = simple_error xs
  plainly (number z) = number z
  plainly (null_as q) = null
  plainly (double xs) = double xs
  plainly (boolean b) = boolean b
  plainly (blob_error xs) = blob_error xs
  plainly (verbatim_string f xs) = verbatim_string f xs
  plainly (big_number xs) = big_number xs
  plainly (array vs) = array (all_plainly vs)
  plainly (map ps) = map (pairs_plainly ps)
  plainly (set vs) = set (all_plainly vs)
  plainly (attribute ps v) = attribute (pairs_plainly ps) (plainly v)
  plainly (push vs) = push (all_plainly vs)

  -- values in a row
  pub all_plainly : Values → Values
  all_plainly none = none
  all_plainly (more v vs) = more (plainly v) (all_plainly vs)

  -- keys and their values
  pub pairs_plainly : Pairs → Pairs
  pairs_plainly nil = nil
  pairs_plainly (pair k v ps) = pair (plainly k) (plainly v) (pairs_plainly ps)

-- they differ at most in how nulls are spelled
abbrev pub Alike : Value → Value → Type 0
Alike v w = plainly v ≡ plainly w

-- THE STATEMENT, where nulls count as equal in any spelling
abbrev pub DirectReadAlike : Type 0
DirectReadAlike =
    (sv : Server) (a : Given) (w : MgetRun Alike sv a) → AnswersLike Alike (transaction w.r) (read_of sv w.ks) (answer a w.run.plan_length)

-- and of one `GET`
abbrev pub DirectGetAlike : Type 0
DirectGetAlike =
    (sv : Server) (a : Given) (w : GetRun Alike sv a) → AnswerLike Alike (transaction w.r) (sv w.k) (answer a w.run.plan_length)
