use Rattle.std.proofs.Common.{◌++◌, [], ◌∷◌, ◌∙◌, ap, codes}
use Rattle.http_head.specs.Written.{named}
use Rattle.forward_link.proofs.client.push_length.Goals as goal

pub returns : goal.returns
returns c =
    c.in_ok-push_named.ensures
    ∙ ap (λ v. c.args.headers.now.items ++ named (codes "Content-Length") v ∷ []) (c.as_bytes.ensures.value ∙ c.in_ok-text.ensures.ok)
