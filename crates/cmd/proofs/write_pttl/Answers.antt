-- `cmd::write_pttl` meets its contract. Assumes nothing.
use mathlib.Core.Path.{refl}
use Rattle.cmd.specs.Pack.{blob}
use Rattle.cmd.specs.Laws as laws
use Rattle.cmd.proofs.write_pttl.Goals as goal

pub copy_to-requires : goal.copy_to-requires
copy_to-requires c =
    laws.first-room c.args.dst.now laws.pttl_start (blob c.args.key.now) _ c.args.to (laws.pttl-pieces c.args.key.now) c.requires

pub write_blob-requires : goal.write_blob-requires
write_blob-requires c =
    (laws.two-room c.args.dst.now _ laws.pttl_start (blob c.args.key.now) _ c.args.to _ (laws.pttl-pieces c.args.key.now)
    c.requires refl c.copy_to.ensures).1

pub returns : goal.returns
returns c =
    laws.two-wrote c.args.dst.now _ _ laws.pttl_start (blob c.args.key.now) _ c.args.to _ _ (laws.pttl-pieces c.args.key.now)
    c.requires refl c.copy_to.ensures c.write_blob.ensures.0 c.write_blob.ensures.1
