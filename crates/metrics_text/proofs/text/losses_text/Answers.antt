use Rattle.std.proofs.Common.{string_bytes, ◌∙◌}
use Rattle.metrics_text.proofs.TextLemmas.{four}
use Rattle.metrics_text.proofs.text.losses_text.Goals as goal

pub returns : goal.returns
returns c = four string_bytes c.four.result _ _ _ _ _ _ _ _
    (c.as_str.ensures.value ∙ c.in_ok-lost.ensures) (c.as_str-2.ensures.value ∙ c.in_ok-not_taken.ensures) (c.as_str-3.ensures.value ∙ c.in_ok-large.ensures) (c.as_str-4.ensures.value ∙ c.in_ok-last.ensures) c.four.ensures
