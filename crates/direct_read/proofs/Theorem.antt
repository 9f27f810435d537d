-- A read through the cache is the server's answer: Direct.antt's statements, proved. Assumes nothing.
-- Letters: R when two values count as equal, sv server, v value.
use Rattle.std.specs.Prelude.{◌≡◌, refl, ◌↔◌}
use Rattle.std.proofs.Common.{ap, ap₂, ◌∙◌, subst}
use Rattle.buffer.specs.Same.{Bytes}
use Rattle.config.specs.Config.{mode_of}
use Rattle.resp3.specs.Value.{Value, array, Values, none, more, Means, encode}
use Rattle.call_record.specs.Record.{transaction}
use Rattle.resolving.specs.Result.{result_of}
use Rattle.direct_read.specs.Server.{Replied, read_of, whole_answer, ServedAs, EachLike}
use Rattle.direct_read.specs.Direct.{DirectReadLike, DirectRead}
use Rattle.direct_read.specs.Alike.{Alike, DirectReadAlike}
use Rattle.direct_read.proofs.LawsRun.{g, served-only, replied-only, answer-only}
use Rattle.direct_read.proofs.LawsAsked.{mget-asked}
use Rattle.direct_read.proofs.LawsMget.{IsLike, mget-answer}

-- THE THEOREM
pub direct-read-like : DirectReadLike
direct-read-like R alike sv a w =
    let u =
    mget-answer sv R alike a.clock' w.c w.ks
    (mget-asked w.c w.ks w.args (g R (Replied sv) sv a w.r w.ks w.run) a.clock w.keyed) _ w.args
    (served-only R (Replied sv) sv a w.r w.ks w.run w.c w.one) (mode_of a.mode) w.run.answers
    (replied-only R (Replied sv) sv a w.r w.ks w.run w.c w.one) in
    record {
      answers = u.fits.answers;
      like = u.fits.like;
      is = answer-only R (Replied sv) sv a w.r w.ks w.run w.c w.one (IsLike sv R alike a.clock' w.c w.ks) u
          ∙ ap (λ (v : Value). encode (result_of (transaction w.r) (more v none))) u.fits.is;
    }

-- values that are each the one at its place are these values
each_same : (vs ws : Values) → EachLike (◌≡◌ {A = Value}) vs ws → vs ≡ ws
unfolding EachLike
each_same none none h = refl
each_same none (more w ws) h = absurd h
each_same (more v vs) none h = absurd h
each_same (more v vs) (more w ws) h = ap₂ more h.0 (each_same vs ws h.1)

-- what the exact statement asks of served bytes: they mean the server's value itself
pub served-exactly : (v : Bytes) (w : Value) → ServedAs (◌≡◌ {A = Value}) v w ↔ Means v w
served-exactly v w = (λ s. subst (Means v) s.like s.means, λ m. record { value = w; means = m; like = refl })

-- THE THEOREM, EXACTLY
pub direct-read : DirectRead
unfolding whole_answer
direct-read sv a w =
    let u = direct-read-like (◌≡◌ {A = Value}) (λ v. refl) sv a w in
    u.is ∙ ap (λ (vs : Values). encode (result_of (transaction w.r) (more (array vs) none))) (each_same u.answers (read_of sv w.ks) u.like)

-- THE THEOREM, with nulls of any spelling alike
pub direct-read-alike : DirectReadAlike
direct-read-alike sv a w = direct-read-like Alike (λ v. refl) sv a w
