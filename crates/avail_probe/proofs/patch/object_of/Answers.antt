use Rattle.std.proofs.Common.{ap, ◌∙◌}
use Rattle.serde_json.proofs.Views.{members_view-insert_entry, view-Object}
use Rattle.serde_json.specs.Data.{object, put}
use Rattle.serde_json.specs.View.{members_view, view}
use Rattle.avail_probe.proofs.patch.object_of.Goals as goal

pub returns : goal.returns
returns c =
    view-Object c.insert.new.self
    ∙ ap object
    (ap members_view c.in_ok-insert.ensures.entries
    ∙ members_view-insert_entry c.new-members.result.entries c.in_ok-name.name c.args.value
    ∙ ap (λ k. put k (view c.args.value) (members_view c.new-members.result.entries)) c.in_ok-name.ensures.ok
    ∙ ap (λ es. put c.args.name.now (view c.args.value) (members_view es)) c.new-members.ensures.empty)
