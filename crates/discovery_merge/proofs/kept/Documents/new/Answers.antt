use Rattle.std.proofs.Common.{None, map, ◌++◌, ap, ◌∙◌}
use Rattle.discovery_merge.specs.Documents.{group_list_text, list_document}
use Rattle.discovery_merge.specs.Kept.{core_groups, last_document}
use Rattle.discovery_merge.specs.Lent.{lent_rows, lent_view}
use Rattle.discovery_merge.proofs.KeptLemmas.{all_texts, text_by_tree}
use Rattle.discovery_merge.proofs.kept.Documents.new.Goals as goal

pub returns : goal.returns
unfolding group_list_text
returns c =
    let rows = lent_rows c.args.rows.now in
    record {
      list = c.in_ok-list.ensures ∙ ap list_document (ap (map lent_view) c.as_slice.ensures.value ∙ c.in_ok-groups.ensures);
      groups = λ name.
          text_by_tree name c.in_ok-groups-2.groups.entries ∙ c.in_ok-groups-2.ensures name
          ∙ ap (last_document name None) (ap (map lent_view) c.as_slice-2.ensures.value ∙ c.in_ok-add_core.ensures
          ∙ ap (λ l. l ++ core_groups rows) c.in_ok-groups.ensures)
          ∙ all_texts name rows;
    }
