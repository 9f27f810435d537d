-- Worked cases of RESP2's nulls, `$-1` and `*-1`, in replies and pushes, each a theorem by itself, by computing. They lean on the definitions alone.
use Rattle.std.specs.Prelude.{◌≡◌, refl, false, [], ◌∷◌}
use Rattle.config.specs.declared.CacheMode.TheVariants.{All}
use Rattle.decimal.specs.Digits.{digits}
use Rattle.buffer.specs.Ascii.{ascii}
use Rattle.buffer.specs.Same.{same}
use Rattle.resp3.specs.Value.{blob_null, array_null, null_as, null, encode}
use Rattle.book.specs.Calls.{push, push_all}
use Rattle.resolving.specs.Plan.{waiting, single, multiple}
use Rattle.resolving.specs.Resolve.{cause7, answered, resolve}
use Rattle.resolving.specs.Result.{result_bytes}
use Rattle.resolving.specs.Pushes.{pushed}
use Rattle.resolving.specs.Cases.{row, list, text, int, missing, stored, plan, transaction}
use Rattle.resolving.specs.PushCases.{pushing}

-- ---- replies

-- a null is stored and handed out in its own spelling
pub stored-as-it-came : resolve (plan (single (missing "a") ∷ [])) All 10 (list (int 1 ∷ null_as blob_null ∷ []))
    ≡ answered (row (null_as blob_null ∷ [])) (stored "a" (null_as blob_null) 11 ∷ [])
unfolding resolve
stored-as-it-came = refl

-- the bytes too
pub result-nulls : result_bytes false (row (null_as blob_null ∷ null_as array_null ∷ null ∷ [])) ≡ ascii "*3\r\n$-1\r\n*-1\r\n_\r\n"
unfolding result_bytes encode digits
result-nulls = refl

-- as a PTTL it is no integer, so that the client's expiry stays
pub no-pttl : resolve (plan (single (missing "a") ∷ [])) All 10 (list (null_as blob_null ∷ text "u" ∷ []))
    ≡ answered (row (text "u" ∷ [])) (stored "a" (text "u") 500 ∷ [])
unfolding resolve
no-pttl = refl

-- as the reply of a several-key command it is no array of no elements
pub no-array : resolve (plan (multiple (waiting (missing "a") ∷ []) ∷ [])) All 10 (list (null_as array_null ∷ int 1 ∷ [])) ≡ cause7 []
unfolding resolve
no-array = refl

-- nor is it the list of replies, in a transaction that was given up too
pub no-list : (resolve (plan []) All 10 (null_as array_null) ≡ cause7 []) × (resolve (transaction []) All 10 (list (null_as array_null ∷ [])) ≡ cause7 [])
unfolding resolve
no-list = (refl, refl)

-- ---- pushes

-- behind `invalidate` both mean everything
pub all-pushed :
    (pushed (pushing (text "invalidate" ∷ null_as blob_null ∷ [])) ≡ push_all)
    × (pushed (pushing (text "invalidate" ∷ null_as array_null ∷ [])) ≡ push_all)
unfolding pushed same
all-pushed = (refl, refl)

-- among the keys they are skipped: `$-1` is no empty key
pub no_key : pushed (pushing (text "invalidate" ∷ list (text "a" ∷ null_as blob_null ∷ null_as array_null ∷ text "b" ∷ []) ∷ []))
    ≡ push (ascii "a" ∷ ascii "b" ∷ [])
unfolding pushed same
no_key = refl

-- in the place of `invalidate` it says nothing
pub no_name : pushed (pushing (null_as blob_null ∷ null ∷ [])) ≡ push []
unfolding pushed same
no_name = refl
