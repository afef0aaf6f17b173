use Rattle.std.proofs.Common.{codes}
use Rattle.std.proofs.lemmas.Str.Pattern.{starts_text}
use Rattle.audit_core.proofs.unread.is_below.Goals as goal

pub returns : goal.returns
returns c =
    starts_text c.starts_with.result (codes "apis/apiregistration.k8s.io/v1/apiservices/") c.args.text.now c.starts_with.ensures.cases
