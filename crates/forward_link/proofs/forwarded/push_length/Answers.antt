use Rattle.std.proofs.Common.{◌≡◌, ◌++◌, [], ◌∷◌, ◌∙◌, ap, sym, codes, decimal}
use Rattle.forward_link.specs.Forwarded.{length_header}
use Rattle.http_head.specs.Written.{named, header_lines}
use Rattle.forward_link.proofs.forwarded.push_length.Goals as goal

pub returns-in_ok-push_header : goal.returns-in_ok-push_header
returns-in_ok-push_header c =
    let name = codes "Content-Length" in
    let text = c.as_bytes.ensures.value ∙ c.in_ok-text.ensures.ok in
    c.in_ok-push_header.ensures ∙ ap (λ v. c.args.out.now.items ++ header_lines (named name v ∷ [])) text
    ∙ ap (λ o. c.args.out.now.items ++ header_lines (length_header o)) (sym c.in-Some.is)
