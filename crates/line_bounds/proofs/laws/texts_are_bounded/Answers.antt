use Rattle.line_bounds.proofs.TextLemmas.{size-six, size-two, size-append}
use Rattle.line_bounds.proofs.laws.texts_are_bounded.Goals as goal

pub returns : goal.returns
returns c = record { any = size-six; printed = size-two; joined = size-append }
