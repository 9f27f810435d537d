-- `buffer::only_zeros` meets its contract: what is gathered is zero where every byte is. Assumes nothing.
use Rattle.std.proofs.Common.{◌≡◌, ◌∙◌, ap, eqb, rules, bit_or}
use Rattle.std.proofs.iter.runs.Made.{chains}
use Rattle.std.specs.List.{fold}
use Rattle.buffer.proofs.Tests.{gathered_zero}
use Rattle.buffer.proofs.only_zeros.Goals as goal

pub returns : goal.returns
returns c =
    let e : c.fold.result ≡ fold bit_or 0 c.args.s.now = search (rules, chains) in
    ap (λ x. eqb x 0) e ∙ gathered_zero c.args.s.now
