use Rattle.std.proofs.Common.{◌++◌, map, ap, ◌∙◌}
use Rattle.std.specs.List.{join_with_byte}
use Rattle.discovery_merge.specs.Documents.{first_text, group_members, version_text}
use Rattle.discovery_merge.specs.Lent.{lent_versions}
use Rattle.discovery_merge.proofs.JoinLemmas.{written_six}
use Rattle.discovery_merge.proofs.documents.push_members.Goals as goal

pub returns : goal.returns
unfolding group_members
returns c =
    let name = c.args.group.now.name.now in
    written_six _ _ _ _ _ _ _ _ _ _ _ _ _ c.in_ok-extend_from_slice.ensures.items c.in_ok-push_quoted.ensures.ok
    c.in_ok-extend_from_slice-2.ensures.items
    (c.in_ok-push_versions.ensures
    ∙ ap (λ rows. c.extend_from_slice-2.new.self.items ++ join_with_byte 44 (map (version_text name) (lent_versions rows)))
    c.as_slice.ensures.value)
    c.in_ok-extend_from_slice-3.ensures.items
    (c.in_ok-push_first.ensures
    ∙ ap (λ rows. c.extend_from_slice-3.new.self.items ++ first_text name (lent_versions rows))
    c.as_slice-2.ensures.value)
