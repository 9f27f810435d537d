-- `sip_hash_13` meets its contract. Assumes nothing.
use Rattle.std.proofs.Common.{◌≡◌, ◌∙◌, ◌/◌, ◌<◌, ap, [], length, get_or, add-one, arith}
use Rattle.siphash.specs.Sip.{absorbed, compressed, sip_hash}
use Rattle.siphash.proofs.Words.{word, block}
use Rattle.siphash.proofs.sip_hash_13.Goals as goal

pub loop-word-init : goal.loop-word-init
unfolding absorbed
loop-word-init c = c.new-s.ensures

pub loop-word-preserved : goal.loop-word-preserved
unfolding absorbed
loop-word-preserved c =
    let key = c.args.key.now in
    let i = c.loop-word.word-index in
    let h : i < length key / 8 = omega (arith, c.as_chunks.ensures.front_len) in
    let w = ap (λ z. get_or z i []) c.as_chunks.ensures.front ∙ block 8 (length key / 8) i key [] h in
    rw (add-one, c.compress-s.ensures, c.from_le_bytes.ensures, c.loop-word.invariant) (ap (compressed 1 (absorbed 1 0 0 key i)) (word key _ i w))

pub returns : goal.returns
unfolding sip_hash
returns c =
    let key = c.args.key.now in
    let i : c.loop-word.word-index ≡ length key / 8 = omega (arith, c.as_chunks.ensures.front_len) in
    rw (c.finish.ensures, c.compress.ensures, c.last_word.ensures, c.loop-word.invariant, i)
