use Rattle.std.proofs.Common.{◌≡◌}
use Rattle.form_urlencoded.specs.Form.{raw_pairs}
use Rattle.form_urlencoded.specs.Parse.{raw_pairs_left}
use Rattle.request_info.specs.Selection.{first_selector}
use Rattle.request_info.specs.Target.{query_of}
use Rattle.request_info.proofs.selection.selected_name.Given as goal

abbrev pub invariant-loop-name : goal.invariant-loop-name
invariant-loop-name l =
    (goal.iterator-loop-name).can_next l.name-iterator ×
    (goal.iterator-loop-name).is_finite l.name-iterator ×
    (first_selector (raw_pairs_left l.name-iterator)
    ≡ first_selector (raw_pairs (query_of l.fn.target)))
