use Rattle.std.proofs.Common.{string_bytes, ◌∙◌}
use Rattle.metrics_text.proofs.TextLemmas.{three}
use Rattle.metrics_text.proofs.text.events_text.Goals as goal

pub returns : goal.returns
returns c = three string_bytes c.three.result _ _ _ _ _ _
    (c.as_str.ensures.value ∙ c.in_ok-requests.ensures) (c.as_str-2.ensures.value ∙ c.in_ok-events.ensures) (c.as_str-3.ensures.value ∙ c.in_ok-errors.ensures) c.three.ensures
