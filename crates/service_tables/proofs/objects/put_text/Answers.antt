use Rattle.std.proofs.Common.{◌≡◌, List, ℕ, String, Global, ap, ◌∙◌, rules}
use Rattle.std.specs.Prelude.{string_bytes}
use Rattle.serde_json.proofs.Views.{members_view-insert_entry}
use Rattle.serde_json.specs.Data.{Data, Members, put, string}
use Rattle.serde_json.specs.View.{members_view, view}
use Rattle.serde_json.specs.declared.value.Value.TheVariants as value
use Rattle.serde_json.specs.declared.value.Value.{the_lemmas}
use Rattle.service_tables.proofs.objects.put_text.Goals as goal

shown : (text : String Global) → view (value.String text) ≡ string (string_bytes text)
shown text = search (rules, the_lemmas)

pub returns : goal.returns
returns c =
    let before : Members = members_view c.args.members.now.entries in
    ap members_view c.in_ok-insert.ensures.entries
    ∙ members_view-insert_entry c.args.members.now.entries c.in_ok-name.name (value.String c.in_ok-text.text)
    ∙ ap (λ (own : Data). put (string_bytes c.in_ok-name.name) own before) (shown c.in_ok-text.text ∙ ap string c.in_ok-text.ensures.ok)
    ∙ ap (λ (name : List ℕ). put name (string c.args.text.now) before) c.in_ok-name.ensures.ok
