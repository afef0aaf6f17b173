use Rattle.std.proofs.Common.{string_bytes, ◌∙◌}
use Rattle.metrics_text.proofs.TextLemmas.{five}
use Rattle.metrics_text.proofs.text.metrics_text.Goals as goal

pub returns : goal.returns
returns c = five string_bytes c.five.result _ _ _ _ _ _ _ _ _ _
    (c.as_str.ensures.value ∙ c.in_ok-events.ensures) (c.as_str-2.ensures.value ∙ c.in_ok-connections.ensures) (c.as_str-3.ensures.value ∙ c.in_ok-calls.ensures) (c.as_str-4.ensures.value ∙ c.in_ok-offers.ensures) (c.as_str-5.ensures.value ∙ c.in_ok-losses.ensures) c.five.ensures
