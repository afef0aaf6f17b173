use Rattle.std.proofs.Common.{Result, Ok, Err, OnErr, inl, inr}
use Rattle.std.proofs.lemmas.Result.{IfOk-weaker}
use Rattle.resource_fetch.proofs.fetching.fetch_list.Goals as goal

on_err : {T E : Type 0} (r : Result T E) (P : Type 0) → P → OnErr r P
on_err (Ok x) P p = tt
on_err (Err x) P p = p

pub returns-in-Ok-clause-ok : goal.returns-in-Ok-clause-ok
returns-in-Ok-clause-ok g c =
    IfOk-weaker c.read.result _ _ (λ got h. record { reply = c.in-Ok.fetched; fetches = c.in-Ok.ensures.ok; reads = h }) c.read.ensures

pub returns-in-Ok-clause-err : goal.returns-in-Ok-clause-err
returns-in-Ok-clause-err g c = on_err c.read.result _ (inr (c.in-Ok.fetched, c.in-Ok.ensures.ok))

pub returns-in-Err-clause-err : goal.returns-in-Err-clause-err
returns-in-Err-clause-err g c = inl c.in-Err.ensures.err
