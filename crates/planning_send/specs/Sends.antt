-- What is sent for one command, as bytes, by the cases of its outcome as the code holds it. Assumes nothing.
-- Letters: m mode, g settings, rows the rows that the arena holds, t clock, e epoch, s the record's bytes, a the arena's, h the command's head, v several keys,
-- n how many of them are missing, src and f where those that wait are read from.
use Rattle.std.specs.Prelude.{◌≡◌, Bool}
use Rattle.std.proofs.Math.Path.{refl, sym, ap, ap₂}
use Rattle.std.proofs.Common.{◌∙◌, length-take-le}
use Rattle.std.proofs.Math.Bool.{true, false, cond}
use mathlib.Core.List.{List, [], ◌∷◌, ◌++◌, append-nil, append_assoc}
use Prim.Native.Nat.{ℕ, zero, suc, ◌+◌, ◌≤◌, ◌<◌}
use native.Mathlib.Omega.{arith}
use Rattle.std.proofs.Math.ListN.{length, length-append}
use Rattle.buffer.specs.Same.{Bytes}
use Rattle.buffer.specs.Ascii.{ascii}
use Rattle.config.specs.Limits.{max_bytes}
use Rattle.config.specs.declared.CacheMode.{CacheMode}
use Rattle.config.specs.declared.CacheMode.TheVariants.{All, OptIn}
use Rattle.config.specs.declared.Settings.{Settings}
use Rattle.format.specs.Lists.{enc_all}
use Rattle.cursor.specs.At.{range_bytes, RangeIn, args_of, command_of}
use Rattle.cursor.specs.declared.Head.{Head}
use Rattle.cursor.specs.declared.Range.{Range}
use Rattle.call_record.specs.Record.{Command}
use Rattle.cmd.specs.Pack.{texts, packed, pttl_texts, caching_texts, head, blob, blob_bytes}
use Rattle.cmd.specs.PackLaws.{packed-pieces}
use Rattle.cmd.specs.Laws.{Wrote}
use Rattle.plan_write.specs.Wrote.{wrote-long}
use Rattle.book.specs.Book.{Row, Setup}
use Rattle.book.specs.Calls.{Wanted}
use Rattle.planning.proofs.Small.{parts-count}
use Rattle.planning.specs.Outcome as plan
use Rattle.planning.specs.Outcome.{filled, waiting, missing, whole_key, part_keys, Place}
use Rattle.planning.specs.Sent.{Packed, itself, keys_of, pttls, packs, opt_in_first, sends, sent_bytes}
use Rattle.planning_ask.specs.Asked.{simples_of, several_name, keys_in, path_in, wanted_in, SeveralIn}
use Rattle.planning_ask.specs.declared.Several.{Several}
use Rattle.sharded_lru.specs.Lent.{setup_now}
use Rattle.planning_outcome.specs.Joined.{sent-packed}
use Rattle.planning_outcome.specs.Result.{place_on, places_on, served_of, result_of, ResultIn}
use Rattle.planning_outcome.specs.declared.CacheableCommand.{CacheableCommand}
use Rattle.planning_outcome.specs.declared.CacheableCommand.TheVariants.{Single, Multiple}
use Rattle.planning_outcome.specs.declared.PrepCacheItem.{PrepCacheItem}
use Rattle.planning_outcome.specs.declared.PrepCacheItem.TheVariants.{Cached, NotCached, NotCacheable}
use Rattle.planning_outcome.specs.declared.CachingResult.{CachingResult}
use Rattle.planning_outcome.specs.declared.CachingResult.TheVariants.{Item, Ignored}
use Rattle.planning_send.specs.declared.Half.{Half}
use Rattle.planning_send.specs.declared.Half.TheVariants.{Pttl, Own}
use Rattle.planning_places.specs.Steps.{keys-few}
use Rattle.planning_places.specs.Pieces.{places_now}
use Rattle.planning_places.specs.Source.{keys_at, KeysIn}
use Rattle.planning_places.specs.declared.Source.{Source}

-- ---- commands one after the other

-- the first, and the others
pub sent-more : (p : Packed) (ps : List Packed) → sent_bytes (p ∷ ps) ≡ packed p ++ sent_bytes ps
sent-more p ps = sent-packed (p ∷ ps) ∙ ap (λ (z : Bytes). packed p ++ z) (sym (sent-packed ps))

-- one
pub sent-one : (p : Packed) → sent_bytes (p ∷ []) ≡ packed p
sent-one p = sent-packed (p ∷ []) ∙ append-nil (packed p)

-- ---- what is sent

-- `CLIENT CACHING YES`, in opt-in mode
unfoldable pub caching_bytes : CacheMode → Bytes
caching_bytes All = []
caching_bytes OptIn = packed caching_texts

-- by the mode
pub caching-all : (m : CacheMode) → m ≡ All → caching_bytes m ≡ []
unfolding caching_bytes
caching-all m q = rw q

pub caching-opt-in : (m : CacheMode) → m ≡ OptIn → caching_bytes m ≡ packed caching_texts
unfolding caching_bytes
caching-opt-in m q = rw q

-- the command itself
abbrev pub own_bytes : Bytes → Head → Bytes
own_bytes s h = packed (texts h.cursor (args_of s h.args))

-- `PTTL` and a key, and then the command
abbrev pub single_bytes : Bytes → Head → Range → Bytes
single_bytes s h key = packed (pttl_texts (range_bytes s key)) ++ own_bytes s h

-- one of the two, and which is the other
unfoldable pub half_bytes : Bytes → Head → Range → Half → Bytes
half_bytes s h key Pttl = packed (pttl_texts (range_bytes s key))
half_bytes s h key Own = own_bytes s h

unfoldable pub other : Half → Half
other Pttl = Own
other Own = Pttl

module _ (s : Bytes) (h : Head) (key : Range) where
  -- by which it is
  pub half-pttl : (x : Half) → x ≡ Pttl → half_bytes s h key x ≡ packed (pttl_texts (range_bytes s key))
  unfolding half_bytes
  half-pttl x q = rw q

  pub half-own : (x : Half) → x ≡ Own → half_bytes s h key x ≡ own_bytes s h
  unfolding half_bytes
  half-own x q = rw q

  -- `PTTL` first
  pub both_halves : single_bytes s h key ≡ half_bytes s h key Pttl ++ half_bytes s h key Own
  unfolding half_bytes
  both_halves = refl

  -- whichever comes first, the two are as long
  half-lengths : (x : Half) → length (half_bytes s h key x) + length (half_bytes s h key (other x)) ≡ length (single_bytes s h key)
  unfolding other
  half-lengths Pttl = sym (ap length both_halves ∙ length-append (half_bytes s h key Pttl) (half_bytes s h key Own))
  half-lengths Own = let l = ap length both_halves ∙ length-append (half_bytes s h key Pttl) (half_bytes s h key Own) in omega arith

  -- so there is room for either, and behind it for the other
  pub half_room : (x : Half) (to n : ℕ) → to + length (single_bytes s h key) ≤ n → to + length (half_bytes s h key x) ≤ n
  half_room x to n r = let l = half-lengths x in omega arith

  pub other-room : (x y : Half) (d d₁ : Bytes) (to e : ℕ) → other x ≡ y → to + length (single_bytes s h key) ≤ length d → Wrote d to (half_bytes s h key x) d₁ e
      → e + length (half_bytes s h key y) ≤ length d₁
  other-room x y d d₁ to e q r w =
      let l = half-lengths x in
      let m = ap (λ (z : Half). length (half_bytes s h key z)) q in
      let k = wrote-long d d₁ (half_bytes s h key x) to e (half_room x to (length d) r) w in
      let f = w.ends in
      omega arith

-- how many arguments: the name, n keys, and a path for JSON
abbrev pub argument_count : Bool → ℕ → ℕ
argument_count json n = n + cond json 2 1

-- their number, and the name
abbrev pub get_name : Bool → ℕ → Bytes
get_name json n = head 42 (argument_count json n) ++ blob (several_name json)

-- the name with n missing keys ks and the path
abbrev pub get_with : Bytes → Several → ℕ → List Bytes → Bytes
get_with s v n ks = get_name v.json n ++ (blob_bytes ks ++ blob_bytes (path_in s v))

-- and then a `PTTL` for each
abbrev pub several_with : Bytes → Several → ℕ → List Bytes → Bytes
several_with s v n ks = get_with s v n ks ++ enc_all packed (pttls ks)

-- for what is missing, where the keys that wait are read from f
abbrev pub missing_with : Bytes → Head → Bytes → Source → CacheableCommand → Bytes
missing_with s h src f (Single key x) = single_bytes s h key
missing_with s h src f (Multiple v n x) = several_with s v n (keys_at src f v.keys)

-- with `CLIENT CACHING YES` first in opt-in mode
abbrev pub command_with : CacheMode → Bytes → Head → Bytes → Source → CacheableCommand → Bytes
command_with m s h src f cc = caching_bytes m ++ missing_with s h src f cc

-- what it names lies inside
abbrev pub CommandSends : Bytes → Bytes → Source → CacheableCommand → Type 0
CommandSends s src f (Single key x) = RangeIn s key
CommandSends s src f (Multiple v n x) = SeveralIn s v × (0 < v.keys) × (n ≤ max_bytes) × KeysIn src f v.keys

-- for a command
abbrev item_with : CacheMode → Bytes → Head → Bytes → Source → PrepCacheItem → Bytes
item_with m s h src f (Cached b) = []
item_with m s h src f (NotCached cc) = command_with m s h src f cc
item_with m s h src f NotCacheable = own_bytes s h

abbrev pub sent_with : CacheMode → Bytes → Head → Bytes → Source → CachingResult → Bytes
sent_with m s h src f (Item i) = item_with m s h src f i
sent_with m s h src f Ignored = own_bytes s h

abbrev ItemSends : Bytes → Bytes → Source → PrepCacheItem → Type 0
ItemSends s src f (Cached b) = Unit {0}
ItemSends s src f (NotCached cc) = CommandSends s src f cc
ItemSends s src f NotCacheable = Unit {0}

abbrev pub ResultSends : Bytes → Bytes → Source → CachingResult → Type 0
ResultSends s src f (Item i) = ItemSends s src f i
ResultSends s src f Ignored = Unit {0}

-- ---- several keys

-- blobs one after the other
blobs-append : (ks ls : List Bytes) → blob_bytes (ks ++ ls) ≡ blob_bytes ks ++ blob_bytes ls
unfolding blob_bytes
blobs-append [] ls = refl
blobs-append (k ∷ ks) ls = ap (λ (z : Bytes). blob k ++ z) (blobs-append ks ls) ∙ sym (append_assoc (blob k) (blob_bytes ks) (blob_bytes ls))

-- as many keys as are missing
pub keys_length : (ws : List Wanted) → length (keys_of ws) ≡ length ws
unfolding keys_of
keys_length [] = refl
keys_length (w ∷ ws) = ap suc (keys_length ws)

-- the name, as a blob
pub name-json : (json : Bool) → json ≡ true → blob (several_name json) ≡ blob (ascii "JSON.MGET")
unfolding several_name
name-json json q = rw q

pub name-plain : (json : Bool) → json ≡ false → blob (several_name json) ≡ blob (ascii "MGET")
unfolding several_name
name-plain json q = rw q

-- one place more
one_more : (q : Place) (ps : List Place) (n : ℕ) → length (missing ps) ≤ n → length (missing (q ∷ ps)) ≤ suc n
unfolding missing
one_more (filled b) ps n h = omega arith
one_more (waiting w) ps n h = omega arith

-- no more keys are missing than there are
missing-count : (p : Setup) (rows : ℕ → Row) (t e : ℕ) (ws : List Wanted) → length (missing (places_on p rows t e ws)) ≤ length ws
unfolding places_on
missing-count p rows t e [] = unfold missing in omega arith
missing-count p rows t e (w ∷ ws) = one_more (place_on p rows t e w) (places_on p rows t e ws) (length ws) (missing-count p rows t e ws)

module _ (s : Bytes) (v : Several) (w : SeveralIn s v) where
  -- the path of JSON
  pub path-json : v.json ≡ true → 0 < v.keys → blob_bytes (path_in s v) ≡ blob (range_bytes s v.path)
  unfolding blob_bytes
  path-json q k = ap blob_bytes (w.alone q k) ∙ append-nil (blob (range_bytes s v.path))

  -- no path
  pub path-none : v.json ≡ false → blob_bytes (path_in s v) ≡ []
  unfolding blob_bytes
  path-none q = rw q

  -- one argument, for JSON
  path-length : 0 < v.keys → length (path_in s v) ≡ cond v.json 1 0
  path-length k = go v.json refl
    where
      go : (json : Bool) → v.json ≡ json → length (path_in s v) ≡ cond v.json 1 0
      go true q = ap length (w.alone q k) ∙ rw q refl
      go false q = rw q refl

  -- the name with keys and the path, piece by piece
  pub name-pieces : (n : ℕ) (ks : List Bytes) → 0 < v.keys → n ≡ length ks
      → packed (several_name v.json ∷ (ks ++ path_in s v)) ≡ get_name v.json n ++ (blob_bytes ks ++ blob_bytes (path_in s v))
  unfolding blob_bytes
  name-pieces n ks k q =
      let path = path_in s v in
      let nm = several_name v.json in
      let c : length (nm ∷ (ks ++ path)) ≡ argument_count v.json n =
      count v.json (length ks) (length path) (length (ks ++ path)) n (length-append ks path) (sym q) (path-length k) in
      packed-pieces (nm ∷ (ks ++ path))
      ∙ ap₂ (λ (m : ℕ) (z : Bytes). head 42 m ++ (blob nm ++ z)) c (blobs-append ks path)
      ∙ sym (append_assoc (head 42 (argument_count v.json n)) (blob nm) (blob_bytes ks ++ blob_bytes path))
    where
      count : (json : Bool) (x y z n : ℕ) → z ≡ x + y → x ≡ n → y ≡ cond json 1 0 → suc z ≡ n + cond json 2 1
      count true x y z n a b c = omega arith
      count false x y z n a b c = omega arith

module _ (g : Settings) (rows : ℕ → Row) (t e : ℕ) (s : Bytes) (v : Several) where
  -- where a key is missing there is one
  pub some-keys : 0 < length (missing (places_now g rows t e s v)) → 0 < v.keys
  some-keys h = go v.keys refl
    where
      none : v.keys ≡ 0 → length (missing (places_now g rows t e s v)) ≡ 0
      none q = unfold missing in unfold places_on in unfold part_keys in rw q

      go : (k : ℕ) → v.keys ≡ k → 0 < v.keys
      go zero q = let z = none q in absurd (omega arith)
      go (suc k) q = omega arith

  -- no more are missing than the record has bytes
  pub few-missing : (n : ℕ) → SeveralIn s v → n ≡ length (missing (places_now g rows t e s v)) → n ≤ length s
  few-missing n w q =
      let i = missing-count (setup_now g) rows t e (wanted_in s v) in
      let j = parts-count (several_name v.json) (path_in s v) (keys_in s v) in
      let k = length-take-le v.keys (simples_of s v.args) w.enough in
      let l = keys-few s v w in
      omega arith

-- ---- by the outcome

-- before a list of commands
opt-in : (m : CacheMode) (l : List Packed) → sent_bytes (opt_in_first m l) ≡ caching_bytes m ++ sent_bytes l
unfolding opt_in_first caching_bytes
opt-in All l = refl
opt-in OptIn l = sent-more caching_texts l

module _ (m : CacheMode) where
  -- what is sent for an outcome
  abbrev pub sent_as : Command → plan.CachingResult → Bytes
  sent_as c o = sent_bytes (sends m c o)

  pub own-ignored : (s : Bytes) (h : Head) → sent_as (command_of s h) plan.ignored ≡ own_bytes s h
  unfolding sends itself
  own-ignored s h = sent-one _

  pub own-not-cacheable : (s : Bytes) (h : Head) → sent_as (command_of s h) (plan.item plan.not_cacheable) ≡ own_bytes s h
  unfolding sends itself
  own-not-cacheable s h = sent-one _

  pub none-cached : (c : Command) (b : plan.Served) → sent_as c (plan.item (plan.cached b)) ≡ []
  unfolding sends
  none-cached c b = sent-packed []

  pub packs-missing : (c : Command) (cc : plan.CacheableCommand) → sent_as c (plan.item (plan.not_cached cc)) ≡ caching_bytes m ++ sent_bytes (packs c cc)
  unfolding sends
  packs-missing c cc = opt-in m (packs c cc)

-- one missing key
pub packs-one : (s : Bytes) (h : Head) (key : Range) (x : ℕ)
    → sent_bytes (packs (command_of s h) (plan.single (whole_key (command_of s h) (range_bytes s key)) x)) ≡ single_bytes s h key
unfolding packs whole_key itself
packs-one s h key x =
    sent-more (pttl_texts (range_bytes s key)) _ ∙ ap (λ (z : Bytes). packed (pttl_texts (range_bytes s key)) ++ z) (sent-one _)

-- several, of which n are missing
pub packs-several : (c : Command) (s : Bytes) (v : Several) (ps : List Place) (n x : ℕ) → SeveralIn s v → 0 < v.keys → n ≡ length (missing ps)
    → sent_bytes (packs c (plan.multiple (several_name v.json) ps (path_in s v) x)) ≡ several_with s v n (keys_of (missing ps))
unfolding packs
packs-several c s v ps n x w k q =
    sent-more _ _
    ∙ ap₂ (λ (y z : Bytes). y ++ z) (name-pieces s v w n (keys_of (missing ps)) k (q ∙ sym (keys_length (missing ps))))
    (sent-packed (pttls (keys_of (missing ps))))

-- ---- by the outcome as the code holds it

-- the keys that are read from f are those that wait on the rows
abbrev pub KeysHeld : Settings → (ℕ → Row) → ℕ → ℕ → Bytes → Bytes → Source → Several → Type 0
KeysHeld g rows t e s src f v = (keys_at src f v.keys ≡ keys_of (missing (places_now g rows t e s v))) × KeysIn src f v.keys

abbrev CommandHolds : Settings → (ℕ → Row) → ℕ → ℕ → Bytes → Bytes → Source → CacheableCommand → Type 0
CommandHolds g rows t e s src f (Single key x) = Unit {0}
CommandHolds g rows t e s src f (Multiple v n x) = KeysHeld g rows t e s src f v

abbrev ItemHolds : Settings → (ℕ → Row) → ℕ → ℕ → Bytes → Bytes → Source → PrepCacheItem → Type 0
ItemHolds g rows t e s src f (Cached b) = Unit {0}
ItemHolds g rows t e s src f (NotCached cc) = CommandHolds g rows t e s src f cc
ItemHolds g rows t e s src f NotCacheable = Unit {0}

abbrev pub Holds : Settings → (ℕ → Row) → ℕ → ℕ → Bytes → Bytes → Source → CachingResult → Type 0
Holds g rows t e s src f (Item i) = ItemHolds g rows t e s src f i
Holds g rows t e s src f Ignored = Unit {0}

-- so what is sent for it is planning's
module _ (m : CacheMode) (g : Settings) (rows : ℕ → Row) (t e : ℕ) (s a : Bytes) (h : Head) (src : Bytes) (f : Source) (l : length s ≤ max_bytes) where
  abbrev c : Command
  c = command_of s h

  pub sent-held : (r : CachingResult) → ResultIn (setup_now g) rows t e s a c r → Holds g rows t e s src f r
      → (sent_as m c (result_of (setup_now g) rows t e s a c r) ≡ sent_with m s h src f r) × ResultSends s src f r
  sent-held Ignored i k = (own-ignored m s h, tt)
  sent-held (Item NotCacheable) i k = (own-not-cacheable m s h, tt)
  sent-held (Item (Cached b)) i k = (none-cached m c (served_of (setup_now g) rows t e s a c b), tt)
  sent-held (Item (NotCached (Single key x))) i k =
      (packs-missing m c (plan.single (whole_key c (range_bytes s key)) x) ∙ ap (λ (z : Bytes). caching_bytes m ++ z) (packs-one s h key x), i)
  sent-held (Item (NotCached (Multiple v n x))) i k =
      let ps = places_now g rows t e s v in
      let b = few-missing g rows t e s v n i.0 i.1 in
      let o = i.2 in
      let d = i.1 in
      let y = some-keys g rows t e s v (omega arith) in (
        packs-missing m c (plan.multiple (several_name v.json) ps (path_in s v) x)
            ∙ ap (λ (z : Bytes). caching_bytes m ++ z) (packs-several c s v ps n x i.0 y d ∙ ap (several_with s v n) (sym k.0)),
        (i.0, y, omega arith, k.1),
      )
