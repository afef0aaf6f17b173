use Rattle.std.proofs.Common.{◌≡◌, ◌∷◌, ◌++◌, ap, ◌∙◌}
use Rattle.json_span.specs.Quote.{quoted}
use Rattle.discovery_merge.specs.Documents.{version_text}
use Rattle.discovery_merge.proofs.JoinLemmas.{written_five}
use Rattle.discovery_merge.proofs.documents.push_version.Goals as goal

pub returns : goal.returns
unfolding version_text
returns c =
    let text : c.as_str.result.now ≡ c.args.group.now ++ 47 ∷ c.args.version.now =
    c.as_str.ensures.value ∙ c.in_ok-text.ensures in
    written_five _ _ _ _ _ _ _ _ _ _ _ c.in_ok-extend_from_slice.ensures.items
    (c.in_ok-push_quoted.ensures.ok ∙ ap (λ t. c.extend_from_slice.new.self.items ++ quoted t) text)
    c.in_ok-extend_from_slice-2.ensures.items c.in_ok-push_quoted-2.ensures.ok c.in_ok-push.ensures.items
