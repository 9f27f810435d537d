-- `served::served_checked` meets its contract. Assumes nothing.
use mathlib.Core.Path.{ap, ◌∙◌}
use Prim.Native.Nat.{ℕ}
use lib.ListN.{length}
use Rattle.config.specs.declared.CacheMode.TheVariants.{All}
use Rattle.room.specs.Room.{spent, whole}
use Rattle.caching_cmd.specs.Laws.{plan-read}
use Rattle.caching_cmd.proofs.Listed as listed
use Rattle.served.proofs.Laws as law
use Rattle.served.proofs.served_checked.Goals as goal

pub is_transaction-transaction-requires : goal.is_transaction-transaction-requires
is_transaction-transaction-requires c = (plan-read _ c.requires.0).long

pub command_count-n-requires : goal.command_count-n-requires
command_count-n-requires c = (plan-read _ c.requires.0).long

pub dry_pass-requires : goal.dry_pass-requires
dry_pass-requires c =
    law.begins-here _ _ c.requires.0
    c.requires.1 _ c.start_at-start.ensures

pub write_served-end-requires : goal.write_served-end-requires
write_served-end-requires c =
    let x = c.args in
    let b = law.begins-here _ _ c.requires.0
    c.requires.1 _
    c.start_at-start.ensures in
    let q = c.spend-room.ensures
    ∙ ap (λ (h : ℕ). spent (whole (length x.answer.now)) h) c.head_len.ensures in
    let f = listed.fine-all _ _ _ All 0 _ _ _ _ q c.dry_pass.ensures c.in-Fits.is in
    (b, listed.head-fits _ _ _ All 0 _ _ b f, f)

pub returns-in-Wrong : goal.returns-in-Wrong
returns-in-Wrong c =
    let x = c.args in
    let q = c.spend-room.ensures ∙ ap (λ (h : ℕ). spent (whole (length x.answer.now)) h)
    c.head_len.ensures in
    law.needs-them _ _ c.requires.0
    c.requires.1 _
    c.start_at-start.ensures x.answer.now _ _ _ _
    c.is_transaction-transaction.ensures
    c.command_count-n.ensures q c.dry_pass.ensures c.in-Wrong.is

pub returns-in-Short : goal.returns-in-Short
returns-in-Short c =
    let x = c.args in
    let q = c.spend-room.ensures ∙ ap (λ (h : ℕ). spent (whole (length x.answer.now)) h)
    c.head_len.ensures in
    law.is-short _ _ c.requires.0
    c.requires.1 _
    c.start_at-start.ensures x.answer.now _ _ _ _
    c.is_transaction-transaction.ensures
    c.command_count-n.ensures q c.dry_pass.ensures c.in-Short.is

pub returns-in-Fits : goal.returns-in-Fits
returns-in-Fits c =
    let x = c.args in
    let q = c.spend-room.ensures
    ∙ ap (λ (h : ℕ). spent (whole (length x.answer.now)) h)
    c.head_len.ensures in
    law.is-written _ _ c.requires.0
    c.requires.1 _
    c.start_at-start.ensures x.answer.now _ _ _ _
    c.is_transaction-transaction.ensures
    c.command_count-n.ensures q
    c.dry_pass.ensures c.in-Fits.is _ _
    c.write_served-end.ensures
