use Rattle.std.proofs.Common.{refl}
use Rattle.audit_core.specs.declared.sinks.Sink.TheVariants.{Log}
use Rattle.log_sink.specs.Texts.{log_text}
use Rattle.model_worlds.specs.Steps.{start}
use Rattle.model_examples.proofs.Bodies.{with_value, without_value, with_stands, without_stands, same_managed, with_short, without_short}
use Rattle.model_examples.proofs.ManagedRuns.{peer, managed_taken, body_shown, rest_alike, same_errand, omits_managed}
use Rattle.model_examples.specs.Managed.{pruned, with_fields, without_fields, object_request, object_steps}
use Rattle.model_examples.proofs.laws.managed_fields_change_nothing.Goals as goal

pub returns-clause-taken : goal.returns-clause-taken
returns-clause-taken c keep keeps = managed_taken c.one_kept.ensures.one keep keeps

pub returns-clause-alike : goal.returns-clause-alike
returns-clause-alike c keep keeps =
    rest_alike c.one_kept.ensures.one keep keeps
    (c.what_is_alike.ensures.managed (pruned keep) (start 1) (start 1) 0 0 peer (object_request with_fields)
    (object_request without_fields) with_value without_value refl (same_errand keep) (omits_managed keep) keeps with_short
    without_short with_stands without_stands same_managed)

pub returns-clause-shown : goal.returns-clause-shown
returns-clause-shown c keep keeps = body_shown c.one_kept.ensures.one keep keeps

pub returns-clause-bytes : goal.returns-clause-bytes
returns-clause-bytes c keep keeps =
    c.two_worlds.ensures.bytes (pruned keep) (start 1) (start 1) (object_steps with_fields) (object_steps without_fields) Log
    log_text refl (returns-clause-alike c keep keeps)
