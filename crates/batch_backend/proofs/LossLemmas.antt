-- What a sink counts of tries.
use Rattle.std.proofs.Common.{◌≡◌, ◌≤◌, ◌+◌, ◌-◌, ◌^◌, min, ℕ, List, [], ◌∷◌, ◌++◌, Result, Ok, Err, ap, subst, arith}
use Rattle.std.specs.Prelude.{⊤}
use Rattle.front_base.specs.Line.{Line}
use Rattle.batch_backend.specs.Pumps.{CountsTries}
use Rattle.batch_backend.proofs.TryLaws.{TryLaws}
use Rattle.truncate_backend.specs.Tries.{Counted, SinkTells, Try, answer_of, try_of, faults_in, refusals_in}
use Rattle.truncate_backend.specs.declared.tries.SinkFault.{SinkFault}
use Rattle.truncate_backend.specs.declared.tries.SinkFault.TheVariants as faults

pub none_counted : (s t : SinkTells) → t ≡ s → CountsTries s [] t
none_counted s t e = record {
  faults = λ small. omega (arith, small, ap (λ (z : SinkTells). z.faults) e);
  refusals = λ small. omega (arith, small, ap (λ (z : SinkTells). z.refusals) e);
}

pub one_counted : (s t : SinkTells) (lines : List Line) (sent : ℕ) (result : Result ⊤ SinkFault) → Counted s result t
    → CountsTries s (try_of lines sent (answer_of result) ∷ []) t
one_counted s t lines sent (Ok u) c =
    record { faults = λ small. omega (arith, small, c.0); refusals = λ small. omega (arith, small, c.1) }
one_counted s t lines sent (Err faults.Port) c =
    record { faults = λ small. omega (arith, small, c.0.is); refusals = λ small. omega (arith, small, c.1) }
one_counted s t lines sent (Err (faults.Refused code)) c =
    record { faults = λ small. omega (arith, small, c.0); refusals = λ small. omega (arith, small, c.1.is) }
one_counted s t lines sent (Err faults.BadAnswer) c =
    record { faults = λ small. omega (arith, small, c.0); refusals = λ small. omega (arith, small, c.1.is) }

-- one after another
count_then : (a b c k l n : ℕ) → n ≡ k + l → (a ≤ 2 ^ 64 - 1 → b ≡ min (a + k) (2 ^ 64 - 1)) → (b ≤ 2 ^ 64 - 1 → c ≡ min (b + l) (2 ^ 64 - 1))
    → a ≤ 2 ^ 64 - 1 → c ≡ min (a + n) (2 ^ 64 - 1)
count_then a b c k l n e f g small =
    let is = f small in
    let next = g (omega (arith, is)) in
    omega (arith, e, is, next)

pub counted_then : TryLaws → (s t u : SinkTells) (ts us : List Try) → CountsTries s ts t → CountsTries t us u → CountsTries s (ts ++ us) u
counted_then law s t u ts us a b = record {
  faults = count_then s.faults t.faults u.faults (faults_in ts) (faults_in us) (faults_in (ts ++ us)) (law.faults ts us) a.faults b.faults;
  refusals = count_then s.refusals t.refusals u.refusals (refusals_in ts) (refusals_in us) (refusals_in (ts ++ us)) (law.refusals ts us) a.refusals b.refusals;
}
