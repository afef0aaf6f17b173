use Rattle.std.proofs.Common.{◌++◌, ◌∙◌, ap, codes}
use Rattle.http_head.specs.Written.{request_line}
use Rattle.probe_calls.specs.Requests.{patch_head, patch_headers, object_path}
use Rattle.probe_calls.proofs.LineLemmas.{head_lines}
use Rattle.probe_calls.proofs.requests.patch_head.Goals as goal

pub returns : goal.returns
unfolding patch_head
returns c =
    head_lines (request_line (codes "PATCH") (object_path c.args.name.now)) (codes "\r\n") c.new-out.result.items
    c.push_request_line.new.out.items c.push_patch_headers.new.out.items c.push_end.new.out.items
    (patch_headers c.args.front c.args.token.now c.args.size) c.new-out.ensures.items
    (c.in_ok-push_request_line.ensures ∙ ap (λ t. c.new-out.result.items ++ request_line (codes "PATCH") t) (c.as_str.ensures.value ∙ c.in_ok-path.ensures.ok))
    c.in_ok-push_patch_headers.ensures c.in_ok-push_end.ensures
