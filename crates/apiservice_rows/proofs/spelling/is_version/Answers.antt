use Rattle.std.proofs.Common.{◌≡◌, true, sym, ◌∙◌}
use Rattle.apiservice_rows.proofs.SpellingLemmas.{no_dots}
use Rattle.apiservice_rows.proofs.spelling.is_version.Goals as goal

pub returns-clause-no_dot : goal.returns-clause-no_dot
returns-clause-no_dot c = λ (h : c.are_version_bytes.result ≡ true).
    no_dots c.args.text.now (sym (rw c.as_bytes-bytes.ensures.value at c.are_version_bytes.ensures) ∙ h)
