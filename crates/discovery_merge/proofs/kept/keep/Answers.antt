use Rattle.std.proofs.Common.{Some, cond, ap, ◌∙◌}
use Rattle.std.proofs.lemmas.Map.Text.{btree_map_updates_text}
use Rattle.std.specs.BTreeMap.{get_by_text}
use Rattle.std.specs.Str.{bytes_eq}
use Rattle.std.specs.String.{string_bytes}
use Rattle.discovery_merge.proofs.kept.keep.Goals as goal

pub returns : goal.returns
returns c = λ name.
    btree_map_updates_text (string_bytes c.in_ok-name.name) c.args.texts.now c.insert.new.self (Some c.in_ok-text.text)
    c.in_ok-insert.ensures.updates name
    ∙ ap (λ own. cond (bytes_eq own name) (Some c.in_ok-text.text) (get_by_text c.args.texts.now name)) c.in_ok-name.ensures.ok
    ∙ ap (λ text. cond (bytes_eq c.args.group.now.name.now name) (Some text) (get_by_text c.args.texts.now name)) c.in_ok-text.ensures
