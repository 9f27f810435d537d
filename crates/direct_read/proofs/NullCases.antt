-- Nulls of another spelling, computed on bytes: `_` is served for `a`, where the server says `$-1`, and `b` is fetched. It is a run where nulls count as equal
-- in any spelling, and the answer counts as the server's; its bytes are others. They lean on the definitions alone. Assumes nothing.
use Rattle.std.specs.Prelude.{◌≡◌, refl, ℕ, false, cond, [], ◌∷◌, ◌++◌, negsuc}
use Rattle.std.proofs.Common.{arith}
use Rattle.buffer.specs.Same.{Bytes, same}
use Rattle.buffer.specs.Ascii.{ascii}
use Rattle.buffer.specs.Field.{le32, le64}
use Rattle.resp3.specs.Value.{blob_string, number, blob_null, array_null, null_as, null, array, none, more}
use Rattle.cmd.specs.Pack.{pttl_texts}
use Rattle.arena.specs.Layout.{zeros}
use Rattle.direct_read.specs.Server.{Server, read_of, whole_answer, to_mget, to_pttl}
use Rattle.direct_read.specs.Direct.{Given, resolved, answer, MgetRun, AnswersLike}
use Rattle.direct_read.specs.Alike.{Alike}
use Rattle.direct_read.proofs.Cases.{read-case-defs, command_of, record_of, keys_ab, mget_ab, given_on, valid-of, mget-valid}
use Rattle.direct_read.proofs.Needed.{Otherwise}

-- a server that has nothing at `a`, which it says in RESP2, and at any other key the key itself
abbrev pub old_server : Server
old_server k = cond (same k (ascii "a")) (null_as blob_null) (blob_string k)

-- an arena that holds `_` for `GET a`
abbrev pub holding_null : Bytes
holding_null =
    le32 1 ++ (le32 56 ++ (zeros 8 ++ (le32 1 ++ (le32 1 ++ (le64 3 ++ (le64 10 ++ (le32 23 ++ (zeros 4 ++ (ascii "a"
    ++ (le32 4 ++ (le32 3 ++ (zeros 8 ++ (ascii "GETa" ++ ascii "_\r\n")))))))))))))

-- `MGET a b` on it, in mode All, with this server's replies
abbrev pub with_null : Given
with_null = given_on holding_null 0 (record_of 0 2 mget_ab) (ascii "*2\r\n*1\r\n$1\r\nb\r\n:-1\r\n")

-- the answer has the null as it was served, and counts as the server's
pub null-answer : (answer with_null 96 ≡ ascii "*1\r\n*2\r\n_\r\n$1\r\nb\r\n") × AnswersLike Alike false (read_of old_server keys_ab) (answer with_null 96)
unfolding read-case-defs
null-answer = (refl, record { answers = more null (more (blob_string (ascii "b")) none); like = (refl, (refl, tt)); is = refl })

-- what is asked of a run holds of it, where nulls count as equal in any spelling
pub null-run : MgetRun Alike old_server with_null
unfolding read-case-defs
null-run =
    record {
      r = record_of 0 2 mget_ab;
      c = command_of 2 mget_ab;
      ks = keys_ab;
      one = refl;
      args = refl;
      keyed = omega arith;
      run = record {
        valid = valid-of 0 2 mget_ab (omega arith) (omega arith) refl (omega arith) mget-valid;
        bytes = refl;
        plan_length = 96;
        send_length = 42;
        counts = record { offset = 0; count = 2 };
        plans = refl;
        served = (record { value = null; means = record { ok = tt; deep = omega arith; is = refl }; like = refl }, tt);
        commands = (ascii "MGET" ∷ ascii "b" ∷ []) ∷ pttl_texts (ascii "b") ∷ [];
        sends = refl;
        answers = more (array (more (blob_string (ascii "b")) none)) (more (number (negsuc 0)) none);
        replied = (to_mget (ascii "b" ∷ []), (to_pttl (ascii "b") (number (negsuc 0)), tt));
        given = record { ok = ((tt, tt), (omega arith, tt)); deep = omega arith; is = refl };
        resolves = refl;
      };
    }

-- byte for byte it is another answer than the server's: the exact statement asks more of what is served, and has to
pub null-otherwise : Otherwise with_null (resolved with_null 96) (whole_answer old_server keys_ab) "*1\r\n*2\r\n_\r\n$1\r\nb\r\n"
unfolding read-case-defs
null-otherwise = record { plans = refl; resolves = refl; answered = refl; another = refl }

-- a null counts as no other value: `_` not as the empty string, nor `*-1` as the empty array
pub null-alone : (Alike null (blob_string []) → ⊥) × (Alike (null_as array_null) (array none) → ⊥)
null-alone =
    (λ h. absurd (let z : ◌≡◌ {A = ℕ} 0 1 = cc in omega arith), λ h. absurd (let z : ◌≡◌ {A = ℕ} 0 1 = cc in omega arith))
