use Rattle.std.proofs.Common.{◌≡◌}
use Rattle.std.specs.List.{list_any}
use Rattle.form_urlencoded.specs.Form.{raw_pairs}
use Rattle.form_urlencoded.specs.Parse.{raw_pairs_left}
use Rattle.request_info.specs.Selection.{is_trial}
use Rattle.request_info.specs.Target.{query_of}
use Rattle.request_info.specs.Watch.{text_of}
use Rattle.request_info.proofs.selection.asks_trial.Given as goal

abbrev pub invariant-loop-name : goal.invariant-loop-name
invariant-loop-name l =
    (goal.iterator-loop-name).can_next l.name-iterator ×
    (goal.iterator-loop-name).is_finite l.name-iterator ×
    (list_any (λ pair. is_trial (text_of pair.0)) (raw_pairs_left l.name-iterator)
    ≡ list_any (λ pair. is_trial (text_of pair.0)) (raw_pairs (query_of l.fn.target)))
