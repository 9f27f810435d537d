-- `call_record_vectors::put_key` is safe: the key is copied only where the buffer holds it. Assumes nothing.
use Rattle.command_key.specs.Key.{KeyIn}
use borrow.Author.Rules.{rules}
use Rattle.call_record_vectors.proofs.put_key.Goals as goal

pub key_len-n-requires : goal.key_len-n-requires
unfolding KeyIn
key_len-n-requires g c = search rules

pub key_copy-requires : goal.key_copy-requires
unfolding KeyIn
key_copy-requires g c = search rules
