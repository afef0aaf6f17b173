use Rattle.std.proofs.Common.{rules, ◌∙◌, ap, sym}
use Rattle.front_base.specs.Ends.{without_start}
use Rattle.front_base.proofs.EndsLemmas.{front_slash, no_front}
use Rattle.front_base.proofs.ends.without_start.Goals as goal

pub loop-rest-preserved : goal.loop-rest-preserved
loop-rest-preserved c =
    (search rules, sym (ap without_start c.in-Some.ensures.some ∙ front_slash c.in-Some.rest.now) ∙ c.loop-rest.invariant.1)

pub returns : goal.returns
returns c = sym (no_front c.loop-rest.text.now (λ rest e. c.in_default.ensures.none rest e)) ∙ c.loop-rest.invariant.1
