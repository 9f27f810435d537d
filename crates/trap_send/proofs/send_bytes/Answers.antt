-- `trap_send::send_bytes` meets its contract. Assumes nothing.
use mathlib.Core.Path.{refl, sym, ◌∙◌}
use Prim.Native.Nat.{ℕ}
use native.Mathlib.Omega.{arith}
use lib.ListN.{replicate}
use Rattle.sharded_lru.specs.Admit.{enter}
use Rattle.trap_send.specs.Blank.{zeros-blank}
use Rattle.trap_send.specs.Laws as laws
use Rattle.trap_send.proofs.send_bytes.Goals as goal

pub returns-then-bytes-gt-MAX_RECORD : goal.returns-then-bytes-gt-MAX_RECORD
returns-then-bytes-gt-MAX_RECORD c = let a = c.args in (laws.record-long a.bytes.now a.out.now c.if-bytes-gt-MAX_RECORD.true, tt)

pub send_admitted-requires : goal.send_admitted-requires
send_admitted-requires c =
    let w = enter 4 0 1800000 _ _ (sym c.admit.ensures ∙ c.in-Ok.is) in
    (w, omega arith, zeros-blank _ _ w (laws.fresh-zeros _ c.setup.ensures.bytes))

pub returns-in-Err : goal.returns-in-Err
returns-in-Err c =
    let a = c.args in (
      laws.cache-refused a.bytes.now a.out.now (omega arith) _
          (c.setup.ensures.bytes ∙ laws.empty-set-up (replicate {A = ℕ} 64 0) refl) _
          (sym c.admit.ensures ∙ c.in-Err.is),
      tt,
    )

pub returns-in-Ok : goal.returns-in-Ok
returns-in-Ok c =
    let a = c.args in
    let e = c.send_admitted.ensures in (
      laws.cache-admitted a.bytes.now a.out.now (omega arith) _
          (c.setup.ensures.bytes
          ∙ laws.empty-set-up (replicate {A = ℕ} 64 0) refl) _
          (sym c.admit.ensures
          ∙ c.in-Ok.is) _ e.0,
      e.1,
    )
