-- A law for each way through the code of the check: commands, the record and the answer. Assumes nothing.
use Rattle.std.specs.Prelude.{◌≡◌, Result, Ok, Err, Bool, true, false, List, [], ◌∷◌, ℕ, ◌+◌, ◌-◌, ◌^◌, ◌≤◌, ◌<◌, length}
use Rattle.std.proofs.Math.Path.{refl}
use Rattle.std.proofs.Common.{sym, ap, ◌∙◌, arith, length-append, lt-ltb, le-ltb}
use Rattle.buffer.specs.Field.{Octets, read16}
use Rattle.config.specs.Limits.{max_commands, max_arguments}
use Rattle.format.specs.declared.Wrong.{Wrong}
use Rattle.format.specs.Format.{Read, ok, bad, short, byte_f}
use Rattle.format.specs.Words.{word_f}
use Rattle.format.specs.Ends.{wrong, end_of, end_at, got_of, some_at, at_some, both_go, both-wrong, map-end, byte-got, byte-bad, byte-out}
use Rattle.format.specs.Ends.{same_offset}
use Rattle.format.specs.Skips.{skip_end, skip_is, skip-lack, skips-end, skip-number}
use Rattle.format.specs.Places.{number_end, number-end, number-inside, word_end, word_end_lem, list-wrong, list-go}
use Rattle.call_record.specs.Record.{Record, bit}
use Rattle.call_record.specs.Formats.{argument_f, flags_b, ttl_max, ttl-fits, ttl_f, count_fits, arguments_f, CursorArgs, after_flags, CommandParts}
use Rattle.call_record.specs.Formats.{command_f, start, head_b, commands_f, FlagsCommands, RecordParts, record_f}
use Rattle.call_record.specs.Check.{check_of, check_def}
use Rattle.call_record.specs.Paths.{byte_at, byte-is, byte-past, many, many-of, argument_end}

-- ---- a command

-- where a TTL ends
unfoldable pub ttl_end : Bool → List ℕ → ℕ → Result ℕ Wrong
ttl_end b s at = end_at (ttl_f b) s at

-- any eight bytes where there is one
pub ttl-skip : (s : List ℕ) → Octets s → (at : ℕ) → at ≤ length s → ttl_end true s at ≡ skip_end (length s) at 8
unfolding ttl_end
ttl-skip s b at h = skips-end (ttl_f true) 8 (skip-number 8 (ttl_max true) (ttl-fits true) (omega arith)) s b at h

-- zeros where there is none
pub ttl-zeros : (s : List ℕ) (at : ℕ) → ttl_end false s at ≡ number_end 8 0 s at
unfolding ttl_end
ttl-zeros s at = number-end 8 0 (ttl-fits false) s at

-- it lies inside
pub ttl-inside : (b : Bool) (s : List ℕ) (at e : ℕ) → at ≤ length s → ttl_end b s at ≡ Ok e → e ≤ length s
unfolding ttl_end
ttl-inside b s at e h k = (some_at (ttl_f b) s at h e k).got.inside

-- a count that was read lies inside
pub count-inside : (m : ℕ) → m < 256 ^ 2 → (s : List ℕ) (at e : ℕ) → at ≤ length s → number_end 2 m s at ≡ Ok e → (at + 2 ≤ length s) × (e ≤ length s)
count-inside m q s at e h k = let w = number-inside 2 m s at q e h k in let z = w.0 in let i = w.1 in (omega arith, i)

-- the cursor and the arguments
unfoldable pub rest_end : List ℕ → ℕ → Result ℕ Wrong
rest_end s at = end_at CursorArgs s at

module _ (s : List ℕ) (b : Octets s) (at : ℕ) (h : at ≤ length s) where
  pub rest-short : (w : Wrong) → skip_end (length s) at 8 ≡ Err w → rest_end s at ≡ Err w
  unfolding rest_end
  rest-short w q =
      let z = skip-lack (length s) at 8 w q in
      both-wrong (ttl_f true) s at (λ c. arguments_f) (length s) ((skip-number 8 (ttl_max true) (ttl-fits true) (omega arith)).lack s b at h z.0) ∙ sym (ap wrong z.1)

  module _ (i : ℕ) (q : skip_end (length s) at 8 ≡ Ok i) where
    -- on behind the cursor
    rest-on : rest_end s at ≡ end_at arguments_f s i
    unfolding rest_end
    rest-on =
        let z = skip_is (length s) at 8 i q in
        let w = (skip-number 8 (ttl_max true) (ttl-fits true) (omega arith)).whole s b at i z.0 z.1 in
        both_go (ttl_f true) s at (λ c. arguments_f) w.value i w.got

    -- the count is wrong
    pub rest-wrong : (o : ℕ) → number_end 2 max_arguments s i ≡ wrong o → rest_end s at ≡ wrong o
    rest-wrong o t = rest-on ∙ list-wrong 2 max_arguments count_fits s i argument_f o t

    -- on to the arguments
    pub rest-go : (e n : ℕ) → number_end 2 max_arguments s i ≡ Ok e → n ≡ read16 s i → rest_end s at ≡ many (argument_end s) n e
    unfolding argument_end
    rest-go e n t z =
        let h = (skip_is (length s) at 8 i q).1 in
        rw z
        (rest-on
        ∙ list-go 2 max_arguments count_fits s i argument_f e h t
        ∙ sym (many-of argument_f s (read16 s i) e (count-inside max_arguments count_fits s i e h t).1))

-- where a command ends
unfoldable pub command_end : List ℕ → ℕ → Result ℕ Wrong
command_end s at = end_at command_f s at

-- as its fields
command-map : (s : List ℕ) (at : ℕ) → command_end s at ≡ end_at CommandParts s at
unfolding command_end
command-map s at = map-end CommandParts s at _ _ _ _ _ _

module _ (s : List ℕ) (at : ℕ) where
  pub command-out : (w : Wrong) → byte_at s at ≡ Err w → command_end s at ≡ Err w
  command-out w q =
      let z = byte-past s at w q in
      command-map s at ∙ both-wrong (byte_f flags_b 0 refl) s at after_flags (length s) (byte-out flags_b 0 refl s at z.0) ∙ sym (ap wrong z.1)

  module _ (f : ℕ) (q : byte_at s at ≡ Ok f) where
    -- wrong flags
    pub command-flags : flags_b f ≡ false → command_end s at ≡ wrong at
    command-flags k =
        let z = byte-is s at f q in
        command-map s at ∙ both-wrong (byte_f flags_b 0 refl) s at after_flags at (byte-bad flags_b 0 refl s at z.0 (rw z.1 k))

    -- on behind the flags
    flags-go : flags_b f ≡ true → command_end s at ≡ end_at (after_flags f) s (at + 1)
    flags-go k =
        let z = byte-is s at f q in
        command-map s at ∙ both_go (byte_f flags_b 0 refl) s at after_flags f (at + 1) (rw z.1 at (byte-got flags_b 0 refl s at z.0 (rw z.1 k)))

    -- a wrong TTL
    pub command-ttl : (o : ℕ) → flags_b f ≡ true → ttl_end (bit 3 f) s (at + 1) ≡ wrong o → command_end s at ≡ wrong o
    unfolding ttl_end
    command-ttl o k t = flags-go k ∙ both-wrong (ttl_f (bit 3 f)) s (at + 1) (λ t. CursorArgs) o t

    -- on behind the TTL
    pub command-go : (e : ℕ) → flags_b f ≡ true → ttl_end (bit 3 f) s (at + 1) ≡ Ok e → command_end s at ≡ rest_end s e
    unfolding ttl_end rest_end
    command-go e k t =
        let z = byte-is s at f q in
        let l = z.0 in
        let w = some_at (ttl_f (bit 3 f)) s (at + 1) (omega arith) e t in
        flags-go k ∙ both_go (ttl_f (bit 3 f)) s (at + 1) (λ t. CursorArgs) w.value e w.got

-- it lies inside
pub command-inside : (s : List ℕ) (at e : ℕ) → at ≤ length s → command_end s at ≡ Ok e → e ≤ length s
unfolding command_end
command-inside s at e h k = (some_at command_f s at h e k).got.inside

-- ---- the record

-- flags and commands
unfoldable pub tail_end : List ℕ → ℕ → Result ℕ Wrong
tail_end s at = end_at FlagsCommands s at

module _ (s : List ℕ) (at : ℕ) where
  pub tail-out : (w : Wrong) → byte_at s at ≡ Err w → tail_end s at ≡ Err w
  unfolding tail_end
  tail-out w q =
      let z = byte-past s at w q in
      both-wrong (byte_f head_b 0 refl) s at (λ f. commands_f) (length s) (byte-out head_b 0 refl s at z.0) ∙ sym (ap wrong z.1)

  module _ (f : ℕ) (q : byte_at s at ≡ Ok f) where
    -- wrong flags
    pub tail-flags : 2 ≤ f → tail_end s at ≡ wrong at
    unfolding tail_end
    tail-flags k =
        let z = byte-is s at f q in
        both-wrong (byte_f head_b 0 refl) s at (λ f. commands_f) at (byte-bad head_b 0 refl s at z.0 (rw z.1 (le-ltb f 2 k)))

    -- on behind the flags
    tail-on : f < 2 → tail_end s at ≡ end_at commands_f s (at + 1)
    unfolding tail_end
    tail-on k =
        let z = byte-is s at f q in
        both_go (byte_f head_b 0 refl) s at (λ f. commands_f) f (at + 1) (rw z.1 at (byte-got head_b 0 refl s at z.0 (rw z.1 (lt-ltb f 2 k))))

    -- the count is wrong
    pub tail-count : (o : ℕ) → f < 2 → number_end 2 max_commands s (at + 1) ≡ wrong o → tail_end s at ≡ wrong o
    tail-count o k e = tail-on k ∙ list-wrong 2 max_commands count_fits s (at + 1) command_f o e

    -- on to the commands
    pub tail-go : (e n : ℕ) → f < 2 → number_end 2 max_commands s (at + 1) ≡ Ok e → n ≡ read16 s (at + 1) → tail_end s at ≡ many (command_end s) n e
    unfolding command_end
    tail-go e n k t z =
        let h = (byte-is s at f q).0 in
        let i : at + 1 ≤ length s = omega arith in
        rw z
        (tail-on k
        ∙ list-go 2 max_commands count_fits s (at + 1) command_f e i t
        ∙ sym (many-of command_f s (read16 s (at + 1)) e (count-inside max_commands count_fits s (at + 1) e i t).1))

-- all of it
unfoldable pub record_end : List ℕ → Result ℕ Wrong
record_end s = end_at record_f s 0

-- as its fields
record-map : (s : List ℕ) → record_end s ≡ end_at RecordParts s 0
unfolding record_end
record-map s = map-end RecordParts s 0 _ _ _ _ _ _

-- the mark or the version is wrong
pub record-start : (s : List ℕ) (o : ℕ) → word_end start s 0 ≡ wrong o → record_end s ≡ wrong o
record-start s o q = record-map s ∙ both-wrong (word_f start) s 0 (λ m. FlagsCommands) o (word_end_lem s 0 start ∙ q)

-- on behind them
pub record-go : (s : List ℕ) (e : ℕ) → word_end start s 0 ≡ Ok e → (e ≤ length s) × (record_end s ≡ tail_end s e)
unfolding tail_end
record-go s e q =
    let w = some_at (word_f start) s 0 (omega arith) e (word_end_lem s 0 start ∙ q) in
    (w.got.inside, record-map s ∙ both_go (word_f start) s 0 (λ m. FlagsCommands) w.value e w.got)

-- ---- the answer

-- a wrong byte, or it ends early
pub check-wrong : (s : List ℕ) (o : ℕ) → record_end s ≡ wrong o → check_def s ≡ wrong o
unfolding record_end end_at end_of check_def check_of
check-wrong s o q = go (record_f.read s) q
  where
    go : (r : Read Record) → end_of s 0 r ≡ wrong o → check_of (length s) r ≡ wrong o
    go (ok r u) q = let z : ◌≡◌ {A = ℕ} 0 1 = cc in absurd (omega arith)
    go (bad m) q = let z = same_offset (0 + m) o q in ap wrong (omega arith)
    go short q = ap wrong (same_offset (length s) o q)

-- what a whole record leaves
left_over : (s : List ℕ) (e : ℕ) → record_end s ≡ Ok e → (u : List ℕ) (r : Record) → record_f.read s ≡ ok r u → e + length u ≡ length s
unfolding record_end
left_over s e q u r k =
    let g = got_of record_f s 0 (omega arith) r u k in
    let i = at_some record_f s 0 r (length s - length u) g in
    let z : e ≡ length s - length u = cc in
    let h = g.inside in
    let n = record_f.sound s r u k in
    omega (arith, ap length n.bytes ∙ length-append (record_f.enc r) u)

-- a record to its end
pub check-whole : (s : List ℕ) (e : ℕ) → record_end s ≡ Ok e → length s ≤ e → check_def s ≡ Ok tt
unfolding check_def check_of record_end end_at end_of
check-whole s e q h = go (record_f.read s) refl q
  where
    go : (r : Read Record) → record_f.read s ≡ r → end_of s 0 r ≡ Ok e → check_of (length s) r ≡ Ok tt
    go (ok r []) k q = refl
    go (ok r (x ∷ u)) k q = absurd (omega (arith, left_over s e (ap (end_of s 0) k ∙ q) (x ∷ u) r k))
    go (bad m) k q = let z : ◌≡◌ {A = ℕ} 0 1 = cc in absurd (omega arith)
    go short k q = let z : ◌≡◌ {A = ℕ} 0 1 = cc in absurd (omega arith)

-- something trails
pub check-trails : (s : List ℕ) (e : ℕ) → record_end s ≡ Ok e → e < length s → check_def s ≡ wrong e
unfolding check_def check_of record_end end_at end_of
check-trails s e q h = go (record_f.read s) refl q
  where
    go : (r : Read Record) → record_f.read s ≡ r → end_of s 0 r ≡ Ok e → check_of (length s) r ≡ wrong e
    go (ok r []) k q = absurd (omega (arith, left_over s e (ap (end_of s 0) k ∙ q) [] r k))
    go (ok r (x ∷ u)) k q = let z : length s - length (x ∷ u) ≡ e = cc in ap wrong z
    go (bad m) k q = let z : ◌≡◌ {A = ℕ} 0 1 = cc in absurd (omega arith)
    go short k q = let z : ◌≡◌ {A = ℕ} 0 1 = cc in absurd (omega arith)
