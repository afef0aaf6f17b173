use Rattle.std.proofs.Common.{◌≡◌, ◌-◌, take, drop, refl, sym, ◌∙◌}
use Rattle.std.proofs.lemmas.Bool.Decides.{Decides-eqb}
use Rattle.std.proofs.lemmas.Slice.Eq.{slice_eq-Decides}
use Rattle.json_prune.proofs.TableLemmas.{table, found_table, no_table}
use Rattle.json_prune.proofs.kept.is_table.Goals as goal

pub returns-in-None : goal.returns-in-None
returns-in-None c = λ v h w. no_table v (c.in-None.ensures.found v h w)

pub returns-in-Some : goal.returns-in-Some
returns-in-Some c = λ v h w.
    let slice = take (c.in-Some.to - c.in-Some.from) (drop c.in-Some.from c.args.whole.now) in
    let same = slice_eq-Decides Decides-eqb slice c.as_bytes.result.now c.eq.result c.eq.ensures in
    let wanted : c.as_bytes.result.now ≡ table = c.as_bytes.ensures.value in
    found_table c.args.whole.now slice (c.in-Some.from, c.in-Some.to) c.eq.result v (c.in-Some.ensures.found v h w) w refl
    (λ t. same.0 t ∙ wanted) (λ s. same.1 (s ∙ sym wanted))
