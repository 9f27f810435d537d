-- Where records go wrong, computed (rule R5): each field's low and high byte, the mark, the last byte of a long record, a byte behind it, and a record cut
-- short at every length. Assumes nothing.
use Rattle.std.specs.Prelude.{◌≡◌, refl, Result, Ok, List, [], ◌∷◌, ◌++◌, map, ℕ, zero, suc, take, set, replicate}
use Rattle.buffer.specs.Same.{Bytes}
use Rattle.format.specs.declared.Wrong.{Wrong}
use Rattle.format.specs.Ends.{wrong}
use Rattle.format.specs.Format.{read_byte}
use Rattle.format.specs.Numbers.{upto}
use Rattle.format.specs.Runs.{rep}
use Rattle.format.specs.Words.{word}
use Rattle.call_record.specs.Record.{enc_argument, enc_command}
use Rattle.call_record.specs.Check.{check_of, check_def}

-- one name that opens the check
unfoldable check-defs : Unit {0}
unfolding read_byte upto rep word enc_argument enc_command check_of check_def
check-defs = tt

-- zeros
abbrev zeros : ℕ → Bytes
zeros n = replicate n 0

-- `GET a`, of 41 bytes: the mark, version, flags and count of commands end before 8, the command's flags, TTL, cursor and count of arguments before 27, its
-- first argument's kind, length and bytes before 35
abbrev get : Bytes
get = (84 ∷ 82 ∷ 80 ∷ 1 ∷ 0 ∷ 0 ∷ 1 ∷ 0 ∷ []) ++ (zeros 17 ++ (2 ∷ 0 ∷ 0 ∷ 3 ∷ 0 ∷ 0 ∷ 0 ∷ 71 ∷ 69 ∷ 84 ∷ 0 ∷ 1 ∷ 0 ∷ 0 ∷ 0 ∷ 97 ∷ []))

-- the check's answer where the byte at a place is another one
abbrev with : ℕ → ℕ → Result (Unit {0}) Wrong
with at byte = check_def (set get at byte)

pub right : check_def get ≡ Ok tt
unfolding check-defs
right = refl

-- ---- the record's head

pub first_byte : with 0 116 ≡ wrong 0
unfolding check-defs
first_byte = refl

pub in-the-mark : (with 1 114 ≡ wrong 1) × (with 2 112 ≡ wrong 2)
unfolding check-defs
in-the-mark = (refl, refl)

pub version : (with 3 2 ≡ wrong 3) × (with 4 1 ≡ wrong 4)
unfolding check-defs
version = (refl, refl)

pub record-flags : with 5 2 ≡ wrong 5
unfolding check-defs
record-flags = refl

-- two commands, of which one is there: cut short; 1,025
pub command-count : (with 6 2 ≡ wrong 41) × (with 7 4 ≡ wrong 7)
unfolding check-defs
command-count = (refl, refl)

-- ---- a command

-- bit 2 without bit 1
pub command-flags : with 8 4 ≡ wrong 8
unfolding check-defs
command-flags = refl

-- a TTL that the flags do not announce, at its first byte that is not 0
pub client-ttl : (with 9 1 ≡ wrong 9) × (with 16 1 ≡ wrong 16) × (check_def (set (set get 8 3) 11 5) ≡ wrong 11)
unfolding check-defs
client-ttl = (refl, refl, refl)

-- any cursor is right
pub any-cursor : (with 17 255 ≡ Ok tt) × (with 24 255 ≡ Ok tt)
unfolding check-defs
any-cursor = (refl, refl)

-- one argument, and the second stands behind the record; 1,026
pub argument-count : (with 25 1 ≡ wrong 35) × (with 26 4 ≡ wrong 26)
unfolding check-defs
argument-count = (refl, refl)

-- ---- an argument

pub argument-kind : with 27 2 ≡ wrong 27
unfolding check-defs
argument-kind = refl

-- no byte, so that `G` is the next one's kind; 259 bytes: cut short; over 65,535, by either of the upper bytes
pub argument-length : (with 28 0 ≡ wrong 32) × (with 29 1 ≡ wrong 41) × (with 30 1 ≡ wrong 30) × (with 31 1 ≡ wrong 31)
unfolding check-defs
argument-length = (refl, refl, refl, refl)

-- a cursor has no bytes: its length is wrong at the low byte, and at the high one alone
pub cursor-length : (with 35 1 ≡ wrong 36) × (check_def (set (set (set get 35 1) 36 0) 39 1) ≡ wrong 39)
unfolding check-defs
cursor-length = (refl, refl)

-- ---- the end

-- forty commands without arguments, of 768 bytes, whose last byte is the upper one of a count
abbrev commands : ℕ → Bytes
commands zero = []
commands (suc n) = zeros 19 ++ commands n

abbrev long : Bytes
long = (84 ∷ 82 ∷ 80 ∷ 1 ∷ 0 ∷ 0 ∷ 40 ∷ 0 ∷ []) ++ commands 40

pub last_byte : (check_def long ≡ Ok tt) × (check_def (set long 767 5) ≡ wrong 767)
unfolding check-defs
last_byte = (refl, refl)

pub byte-behind : check_def (get ++ (0 ∷ [])) ≡ wrong 41
unfolding check-defs
byte-behind = refl

-- the numbers below n
abbrev below : ℕ → List ℕ
below zero = []
below (suc n) = below n ++ (n ∷ [])

-- cut short, at every length
pub cut-anywhere : map (λ (n : ℕ). check_def (take n get)) (below 41) ≡ map wrong (below 41)
unfolding check-defs
cut-anywhere = refl
