-- What planning sends is a run of RESP3 values, each a command, and their number is the sum of the response counts. Assumes nothing.
use Rattle.std.specs.Prelude.{◌≡◌, refl, Bool, true, false, List, [], ◌∷◌, suc, ◌+◌, ◌≤◌, length}
use Rattle.std.proofs.Common.{ap, arith, length-append}
use Rattle.config.specs.Limits.{max_depth}
use Rattle.config.specs.declared.Settings.{Settings}
use Rattle.resp3.specs.Value.{count, deepest, Valids}
use Rattle.resp3.specs.Ends.{items_end}
use Rattle.resp3.specs.Decode.{values_of}
use Rattle.resp3.proofs.Complete.{Got, items-law}
use Rattle.call_record.specs.Record.{Record, transaction}
use Rattle.planning.specs.Outcome.{CachingResult}
use Rattle.cmd.specs.Pack.{exec_texts}
use Rattle.cmd.specs.PackLaws.{blobs-valid, blobs-deep}
use Rattle.planning.specs.Sent.{Packed, command_values, sent_bytes, sent, wrapped, responses}
use Rattle.planning.specs.Planning.{Planned, planned_by}

-- so commands are
commands-valid : (ps : List Packed) → Valids (command_values ps)
unfolding command_values
commands-valid [] = tt
commands-valid (p ∷ ps) = (blobs-valid p, commands-valid ps)

-- of two levels
commands-deep : (ps : List Packed) → deepest (command_values ps) ≤ 2
unfolding command_values
commands-deep [] = omega arith
commands-deep (p ∷ ps) = let h = blobs-deep p in let g = commands-deep ps in omega arith

-- a value for each command
commands-count : (ps : List Packed) → count (command_values ps) ≡ length ps
unfolding command_values
commands-count [] = refl
commands-count (p ∷ ps) = ap suc (commands-count ps)

-- a response for each command, `MULTI` and `EXEC` among them
wrapped-count : (b : Bool) (ps : List Packed) → length (wrapped b ps) ≡ (responses b (length ps)).offset + (responses b (length ps)).count
unfolding wrapped responses
wrapped-count true ps = let l = length-append ps (exec_texts ∷ []) in omega arith
wrapped-count false ps = omega arith

-- what is written to the send buffer is a run of commands, as many as there are responses to skip and to take; who reads that many values finds them, and
-- is at the end
pub record SentRun (x : Planned) : Type 0 where
  pub commands : List Packed
  pub is : x.send ≡ sent_bytes commands
  pub number : length commands ≡ x.counts.offset + x.counts.count
  pub valid : Valids (command_values commands)
  pub read : Got x.send [] (command_values commands) (items_end max_depth x.send (length commands) 0) (values_of max_depth x.send (length commands) 0)

-- so it is, whatever the outcomes
pub sent-run : (g : Settings) (r : Record) (rs : List CachingResult) → SentRun (planned_by g r rs)
unfolding planned_by
sent-run g r rs =
    let ps = wrapped (transaction r) (sent g.mode r.commands rs) in
    record {
      commands = ps;
      is = refl;
      number = wrapped-count (transaction r) (sent g.mode r.commands rs);
      valid = commands-valid ps;
      read = read_back ps;
    }
  where
    read_back : (ps : List Packed)
        → Got (sent_bytes ps) [] (command_values ps) (items_end max_depth (sent_bytes ps) (length ps) 0) (values_of max_depth (sent_bytes ps) (length ps) 0)
    read_back ps =
        let d = commands-deep ps in
        rw (← commands-count)
        (items-law max_depth (sent_bytes ps) (command_values ps) (commands-valid ps) (omega arith) 0 [] (omega arith) (unfold sent_bytes in refl))
