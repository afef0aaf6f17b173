use Rattle.http_edge.specs.declared.TheConstants.{MOST_BODY_BYTES}
use Rattle.http_edge.proofs.laws.requests_fit.Goals as goal

pub returns : goal.returns
returns c = λ bytes after request h.
    c.bodies_fit.ensures h.frame MOST_BODY_BYTES h.body_is.text request.body h.body_is.is
