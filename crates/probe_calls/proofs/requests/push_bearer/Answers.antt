use Rattle.std.proofs.Common.{◌≡◌, ◌∙◌, ◌++◌, [], ◌∷◌, OnOk, codes, subst}
use Rattle.http_head.specs.Written.{header_lines, named}
use Rattle.probe_calls.proofs.requests.push_bearer.Goals as goal

pub returns : goal.returns
returns c =
    subst
    (λ v. OnOk c.push_header.result (c.push_header.new.out.items ≡ c.args.out.now.items ++ header_lines (named (codes "Authorization") v ∷ [])))
    (c.as_bytes.ensures.value ∙ c.in_ok-value.ensures.ok) c.push_header.ensures
