use Rattle.std.proofs.Common.{[], ◌∷◌, ◌++◌, ◌∙◌, ap, codes}
use Rattle.forward_link.specs.Forwarded.{address_text}
use Rattle.http_head.specs.Written.{named, header_lines}
use Rattle.probe_calls.specs.Requests.{token_headers}
use Rattle.probe_calls.proofs.LineLemmas.{put_two}
use Rattle.probe_calls.proofs.listing.push_list_headers.Goals as goal

pub returns : goal.returns
returns c =
    put_two c.args.out.now.items c.push_header.new.out.items c.push_token.new.out.items c.push_header-2.new.out.items
    c.push_header-3.new.out.items (named (codes "Host") (address_text c.args.front)) (named (codes "Accept") (codes "application/json"))
    (named (codes "Connection") (codes "close")) (token_headers c.args.token.now)
    (c.in_ok-push_header.ensures
    ∙ ap (λ v. c.args.out.now.items ++ header_lines (named (codes "Host") v ∷ [])) (c.as_bytes.ensures.value ∙ c.in_ok-host.ensures))
    c.in_ok-push_token.ensures c.in_ok-push_header-2.ensures c.in_ok-push_header-3.ensures
