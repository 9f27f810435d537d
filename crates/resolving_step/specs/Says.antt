-- What is handed out, and what is stored. Assumes nothing.
use Rattle.std.specs.Prelude.{◌≡◌, refl, true, false, ℕ, ◌+◌, ◌-◌, ◌≤◌, ◌<◌, min, pos, length, Some}
use Rattle.std.proofs.Common.{ap, ◌∙◌, arith, lt-ltb, le-ltb}
use Rattle.buffer.specs.Same.{Bytes}
use Rattle.buffer.specs.Part.{part}
use Rattle.buffer.specs.PartLaws.{length_part}
use Rattle.resp3.specs.Value.{Value, encode, Means, null_bytes}
use Rattle.resp3_element.specs.Meaning.{is_error, integer_of}
use Rattle.book.specs.Calls.{Missing}
use Rattle.planning.specs.Plan.{null_start, null_end}
use Rattle.resolving.specs.Store.{expiry_of}
use Rattle.resolving.proofs.Expiry.{not-later}
use Rattle.resolving_walk.specs.Walk.{shown, header, nothing, fetched, bytes_of, stores_of}
use Rattle.resolving_step.specs.declared.Missed.{Missed}
use Rattle.resolving_step.specs.declared.Next.TheVariants.{Plan, Reply, Head, Keep, Pass}
use Rattle.resolving_step.specs.Steps.{Says, Bounds, MissedIs}

-- ---- expiries

-- a PTTL above 0
pub pttl-above : (clock client n r : ℕ) → 0 < n → r ≡ min (clock + n) client → r ≡ expiry_of clock client (Some (pos n))
pttl-above clock client n r l e = rw (lt-ltb 0 n l) e

-- a PTTL of 0
pub pttl-zero : (clock client n : ℕ) → n ≤ 0 → client ≡ expiry_of clock client (Some (pos n))
pttl-zero clock client n l = rw (le-ltb 0 n l)

-- ---- what a step says

-- bytes of the list
pub reply-says : (p s : Bytes) (a e : ℕ) (v : Value) → a ≤ e → e ≤ length s → Means (part s a (e - a)) v → Says p s (Reply a e) (shown (encode v))
unfolding bytes_of stores_of
reply-says p s a e v l i m = record { bytes = m.is; stores = refl; inside = (l, i); storable = tt }

-- bytes of the plan
pub plan-says : (p s : Bytes) (a e : ℕ) (bs : Bytes) → a ≤ e → e ≤ length p → part p a (e - a) ≡ bs → Says p s (Plan a e) (shown bs)
unfolding bytes_of stores_of
plan-says p s a e bs l i h = record { bytes = h; stores = refl; inside = (l, i); storable = tt }

-- a place that stays unfilled
pub blank-says : (p s : Bytes) → Bounds p s → Says p s (Plan null_start null_end) (shown null_bytes)
blank-says p s b = plan-says p s 1 4 null_bytes (omega arith) b.long b.blank

-- an array's head
pub head-says : (p s : Bytes) (n : ℕ) → Says p s (Head n) (header n)
unfolding bytes_of stores_of
head-says p s n = record { bytes = refl; stores = refl; inside = tt; storable = tt }

-- nothing
pub pass-says : (p s : Bytes) → Says p s Pass nothing
unfolding bytes_of stores_of
pass-says p s = record { bytes = refl; stores = refl; inside = tt; storable = tt }

-- ---- a fetched value

-- an error is passed on
pub fetched-error : (p s : Bytes) (clock a e : ℕ) (w : Missing) (t v : Value) → a ≤ e → e ≤ length s → Means (part s a (e - a)) v → is_error v ≡ true
    → Says p s (Reply a e) (fetched clock w t v)
fetched-error p s clock a e w t v l i m h = rw h (reply-says p s a e v l i m)

-- all else is stored too
pub fetched-kept : (p s : Bytes) (m : Missed) (clock a e x : ℕ) (w : Missing) (t v : Value) → Bounds p s → MissedIs p m w → a ≤ e → e ≤ length s
    → Means (part s a (e - a)) v → is_error v ≡ false → x ≡ expiry_of clock m.expiry (integer_of t)
    → Says p s (Keep (record { key = m.key; command = m.command; end = m.end; expiry = x }) a e) (fetched clock w t v)
unfolding bytes_of stores_of
fetched-kept p s m clock a e x w t v b d l i u h y =
    let z : x ≡ expiry_of clock w.expiry (integer_of t) = y ∙ ap (λ (n : ℕ). expiry_of clock n (integer_of t)) d.expiry in
    let n : length (part s a (e - a)) ≡ e - a = length_part s a (e - a) (omega arith) in
    rw h
    (record {
      bytes = u.is;
      stores = rw (d.key, d.command, u.is, z);
      inside = (l, i, record { order = d.inside.order; between = d.inside.between; within = d.inside.within });
      storable = (
        record {
          key = rw d.key d.asked.key;
          command = rw d.command d.asked.command;
          value = record { small = omega (arith, b.small); v = v; means = u };
          expiry = let q = not-later clock w.expiry (integer_of t) in omega (arith, d.asked.expiry);
        },
        tt,
      );
    })
