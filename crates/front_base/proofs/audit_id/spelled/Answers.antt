use Rattle.std.proofs.Common.{ap, ◌∙◌}
use Rattle.uuid.specs.Text.{hyphenated_text, lower}
use Rattle.front_base.specs.AuditId.{audit_id_text}
use Rattle.front_base.proofs.audit_id.spelled.Goals as goal

pub returns : goal.returns
unfolding audit_id_text
returns c =
    let bytes = c.hyphenated.ensures ∙ c.from_bytes-uuid.ensures ∙ c.uuid_bytes.ensures in
    c.encode_lower.ensures.text ∙ ap (hyphenated_text lower) bytes
