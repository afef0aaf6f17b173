use Rattle.std.proofs.Common.{[], ◌∷◌, ◌++◌, ◌∙◌, ap, codes}
use Rattle.http_head.specs.Written.{named, header_lines}
use Rattle.exchange_replies.proofs.own.push_length.Goals as goal

pub returns : goal.returns
returns c =
    c.in_ok-push_header.ensures
    ∙ ap (λ v. c.args.out.now.items ++ header_lines (named (codes "Content-Length") v ∷ []))
    (c.as_bytes.ensures.value ∙ c.in_ok-text.ensures.ok)
