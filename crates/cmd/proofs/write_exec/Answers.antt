-- `cmd::write_exec` meets its contract. Assumes nothing.
use mathlib.Core.Path.{sym, ap, ◌∙◌}
use native.Mathlib.Omega.{arith}
use lib.ListN.{length}
use Rattle.buffer.specs.Part.{put}
use Rattle.cmd.specs.Laws as laws
use borrow.Author.Rules.{rules}
use Rattle.cmd.proofs.write_exec.Goals as goal

pub copy_to-requires : goal.copy_to-requires
copy_to-requires c = let l = ap length laws.exec-is in omega arith

pub returns : goal.returns
returns c = (search rules, c.copy_to.ensures ∙ ap (put _ _) (sym laws.exec-is))
