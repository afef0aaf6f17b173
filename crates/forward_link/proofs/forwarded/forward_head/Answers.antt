use Rattle.std.proofs.Common.{[], ◌∷◌, ◌++◌, ◌∙◌, ap, sym, codes, filter}
use Rattle.http_head.specs.Written.{named, header_lines, request_line}
use Rattle.forward_link.specs.Forwarded.{host_of, passes, own_headers}
use Rattle.forward_link.proofs.LineLemmas.{head_lines}
use Rattle.forward_link.proofs.forwarded.forward_head.Goals as goal

pub returns : goal.returns
returns c =
    let head = c.args.head.now in
    c.new.ensures ∙ head_lines (request_line head.method head.target) (codes "\r\n") c.new-out.result.items c.push_request_line.new.out.items c.push_header.new.out.items c.push_passing.new.out.items c.push_own.new.out.items c.push_end.new.out.items
    (named (codes "Host") (host_of c.args.target.now)) (filter (passes head.headers) head.headers) (own_headers c.args.user.now c.args.id c.args.length)
    c.new-out.ensures.items
    (c.in_ok-push_request_line.ensures
    ∙ ap (λ m. c.new-out.result.items ++ request_line m c.as_str-2.result.now) c.as_str.ensures
    ∙ ap (λ t. c.new-out.result.items ++ request_line head.method t) c.as_str-2.ensures)
    (c.in_ok-push_header.ensures ∙ ap (λ v. c.push_request_line.new.out.items ++ header_lines (named (codes "Host") v ∷ [])) (c.as_bytes.ensures.value ∙ c.in_ok-host.ensures))
    c.in_ok-push_passing.ensures
    c.in_ok-push_own.ensures
    c.in_ok-push_end.ensures
