use Rattle.std.proofs.Common.{◌≡◌, codes}
use Rattle.form_urlencoded.specs.Form.{raw_pairs}
use Rattle.form_urlencoded.specs.Parse.{raw_pairs_left}
use Rattle.request_info.specs.Watch.{first_value}
use Rattle.request_info.proofs.watch.asks_watch.Given as goal

abbrev pub invariant-loop-name : goal.invariant-loop-name
invariant-loop-name l =
    (goal.iterator-loop-name).can_next l.name-iterator ×
    (goal.iterator-loop-name).is_finite l.name-iterator ×
    (first_value (codes "watch") (raw_pairs_left l.name-iterator) ≡ first_value (codes "watch") (raw_pairs l.fn.query))
