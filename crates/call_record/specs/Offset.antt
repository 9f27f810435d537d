-- The offset that comes with cause 2, for bytes that are no call record (rule R5 of docs/BEHAVIOUR.md, as request 7 has it): the one place where they go wrong.
-- Definitions alone; nothing is assumed.
use Rattle.std.specs.Prelude.{◌≡◌, ◌++◌, ℕ, ◌+◌, ◌<◌, length, take}
use Rattle.buffer.specs.Same.{Bytes}
use Rattle.format.specs.Begins.{Begins}
use Rattle.call_record.specs.Record.{Record, enc_record, ValidRecord}

-- s is the bytes of a valid record
pub record IsRecord (s : Bytes) : Type 0 where
  pub value : Record
  pub valid : ValidRecord value
  pub bytes : s ≡ enc_record value

-- no valid record begins with the first o + 1 bytes of s
abbrev pub NoneBegins : Bytes → ℕ → Type 0
NoneBegins s o = (r : Record) (t : Bytes) → ValidRecord r → enc_record r ≡ take (o + 1) s ++ t → ⊥

-- s is the beginning of a valid record, and not all of it
pub record EndsEarly (s : Bytes) : Type 0 where
  pub value : Record
  pub rest : Bytes
  pub valid : ValidRecord value
  pub bytes : enc_record value ≡ s ++ rest
  pub more : 0 < length rest

-- s goes wrong at o
pub data WrongAt (s : Bytes) (o : ℕ) : Type 0 where
  -- the bytes before o are a front of some valid record, and with the byte at o they are a front of none
  breaks : o < length s → Begins enc_record ValidRecord (take o s) → NoneBegins s o → WrongAt s o
  -- a record cut short goes wrong at its length
  cut_short : o ≡ length s → EndsEarly s → WrongAt s o
