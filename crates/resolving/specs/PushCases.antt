-- Worked cases of pushes, each a theorem by itself, by computing. They lean on the definitions of Pushes.antt alone.
use Rattle.std.specs.Prelude.{◌≡◌, refl, List, [], ◌∷◌}
use Rattle.buffer.specs.Same.{same}
use Rattle.buffer.specs.Ascii.{ascii}
use Rattle.resp3.specs.Value.{Value, simple_string, null, array, set, push as push_of_values}
use Rattle.book.specs.Calls.{push, push_all}
use Rattle.resolving.specs.Pushes.{pushed}
use Rattle.resolving.specs.Cases.{row, list, text, int, marked}

-- a push of values
abbrev pub pushing : List Value → Value
pushing vs = push_of_values (row vs)

-- an array: its blob keys in order, twice where they stand twice, an empty one too; other kinds are skipped
pub keys-pushed : pushed
    (pushing (text "invalidate" ∷ list (text "b" ∷ int 7 ∷ text "a" ∷ simple_string (ascii "a") ∷ null ∷ marked (text "c") ∷ text "" ∷ text "b" ∷ []) ∷ []))
    ≡ push (ascii "b" ∷ ascii "a" ∷ ascii "" ∷ ascii "b" ∷ [])
unfolding pushed same
keys-pushed = refl

-- `_`: everything
pub all-pushed : pushed (pushing (text "invalidate" ∷ null ∷ [])) ≡ push_all
unfolding pushed same
all-pushed = refl

-- `_` under `|` invalidates nothing, nor does an array under it
pub marked-null : pushed (pushing (text "invalidate" ∷ marked null ∷ [])) ≡ push []
unfolding pushed same
marked-null = refl

pub marked-array : pushed (pushing (text "invalidate" ∷ marked (list (text "a" ∷ [])) ∷ [])) ≡ push []
unfolding pushed same
marked-array = refl

-- an empty array, a set and a bare key invalidate nothing
pub no_keys : pushed (pushing (text "invalidate" ∷ list [] ∷ [])) ≡ push []
unfolding pushed same
no_keys = refl

pub set-ignored : pushed (pushing (text "invalidate" ∷ set (row (text "a" ∷ [])) ∷ [])) ≡ push []
unfolding pushed same
set-ignored = refl

pub bare-key : pushed (pushing (text "invalidate" ∷ text "a" ∷ [])) ≡ push []
unfolding pushed same
bare-key = refl

-- nor does a push of another kind, a longer or shorter name or one in capitals, a name that is no blob or stands under `|`
pub other-kind : pushed (pushing (text "message" ∷ null ∷ [])) ≡ push []
unfolding pushed same
other-kind = refl

pub longer-name : pushed (pushing (text "invalidates" ∷ null ∷ [])) ≡ push []
unfolding pushed same
longer-name = refl

pub shorter-name : pushed (pushing (text "invalidat" ∷ null ∷ [])) ≡ push []
unfolding pushed same
shorter-name = refl

pub capitals : pushed (pushing (text "INVALIDATE" ∷ null ∷ [])) ≡ push []
unfolding pushed same
capitals = refl

pub simple-name : pushed (pushing (simple_string (ascii "invalidate") ∷ null ∷ [])) ≡ push []
unfolding pushed same
simple-name = refl

pub marked-name : pushed (pushing (marked (text "invalidate") ∷ null ∷ [])) ≡ push []
unfolding pushed same
marked-name = refl

-- with nothing after the name, or nothing at all: nothing
pub name-alone : pushed (pushing (text "invalidate" ∷ [])) ≡ push []
unfolding pushed same
name-alone = refl

pub empty-push : pushed (pushing []) ≡ push []
unfolding pushed same
empty-push = refl

-- what follows the second element plays no part
pub more-elements : pushed (pushing (text "invalidate" ∷ list (text "a" ∷ []) ∷ null ∷ [])) ≡ push (ascii "a" ∷ [])
unfolding pushed same
more-elements = refl

-- an array is no push, and neither is a push under `|`
pub array-ignored : pushed (array (row (text "invalidate" ∷ null ∷ []))) ≡ push []
unfolding pushed same
array-ignored = refl

pub marked-push : pushed (marked (pushing (text "invalidate" ∷ null ∷ []))) ≡ push []
unfolding pushed same
marked-push = refl
