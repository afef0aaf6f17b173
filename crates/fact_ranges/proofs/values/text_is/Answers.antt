use Rattle.std.proofs.Common.{◌≡◌, ℕ, List, true, subst}
use Rattle.std.specs.Str.{is_utf8}
use Rattle.std.proofs.lemmas.Str.{is_utf8-from_IsUtf8}
use Rattle.fact_ranges.proofs.values.text_is.Goals as goal

pub returns : goal.returns
returns c = subst (λ (t : List ℕ). is_utf8 t ≡ true) c.as_str-text.ensures (is_utf8-from_IsUtf8 c.as_str-text.result.now c.as_str-text.utf8)
