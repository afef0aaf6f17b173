use Rattle.std.proofs.Common.{◌≡◌}
use Rattle.form_urlencoded.specs.Form.{raw_pairs}
use Rattle.form_urlencoded.specs.Parse.{raw_pairs_left}
use Rattle.request_info.specs.Target.{query_of}
use Rattle.request_info.specs.Watch.{first_value}
use Rattle.request_info.proofs.query.query_value.Given as goal

abbrev pub invariant-loop-spelled : goal.invariant-loop-spelled
invariant-loop-spelled l =
    (goal.iterator-loop-spelled).can_next l.spelled-iterator ×
    (goal.iterator-loop-spelled).is_finite l.spelled-iterator ×
    (first_value l.name (raw_pairs_left l.spelled-iterator) ≡ first_value l.name (raw_pairs (query_of l.fn.target)))
