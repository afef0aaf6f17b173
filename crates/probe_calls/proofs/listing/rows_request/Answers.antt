use Rattle.std.proofs.Common.{codes, ◌∙◌}
use Rattle.http_head.specs.Written.{request_line}
use Rattle.probe_calls.specs.Requests.{list_headers, rows_request}
use Rattle.probe_calls.proofs.LineLemmas.{head_lines}
use Rattle.probe_calls.proofs.listing.rows_request.Goals as goal

pub returns : goal.returns
unfolding rows_request
returns c =
    c.new.ensures ∙ head_lines (request_line (codes "GET") (codes "/apis/apiregistration.k8s.io/v1/apiservices")) (codes "\r\n") c.new-out.result.items
    c.push_request_line.new.out.items c.push_list_headers.new.out.items c.push_end.new.out.items (list_headers c.args.front c.args.token.now)
    c.new-out.ensures.items c.in_ok-push_request_line.ensures c.in_ok-push_list_headers.ensures c.in_ok-push_end.ensures
