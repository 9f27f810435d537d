-- `several_len` meets its contract. Assumes nothing.
use native.Mathlib.Omega.{arith}
use Rattle.planning_send_len.specs.Lengths as lengths
use Rattle.planning_send_len.proofs.several_len.Goals as goal

pub returns : goal.returns
returns c =
    let a = c.args in
    let p = c.requires.3 in
    let x = p.number in
    let y = p.keys in
    let z = c.get_len.ensures.1 in
    let w = c.path_len.ensures.1 in (
      λ ks d e.
          let l = lengths.several-length a.bytes.now a.v a.m.missing ks in
          let f = c.get_len.ensures.0 in
          let h = c.path_len.ensures.0 in
          omega arith,
      omega arith,
    )
