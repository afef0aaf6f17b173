-- One request from its arrival until its lines are written.
use Rattle.std.specs.Prelude.{ℕ, List, [], ◌∷◌, codes}
use Rattle.audit_core.specs.declared.link_note.LinkNote.TheVariants.{NotUsed}
use Rattle.audit_core.specs.declared.settings.Settings.{Settings}
use Rattle.audit_core.specs.declared.sinks.Sink.TheVariants.{Log}
use Rattle.audit_core.specs.declared.sinks.SinkMode.TheVariants.{Off, Batch}
use Rattle.http_edge.specs.declared.request.Request.{Request}
use Rattle.policy_rules.specs.Policy.{all_metadata}
use Rattle.stage_event.specs.declared.facts.Kept.TheVariants.{NotAsked}
use Rattle.truncate_backend.specs.declared.tries.TryAnswer.TheVariants as answers
use Rattle.model_worlds.specs.Setup.{Setup}
use Rattle.model_worlds.specs.declared.step.Step.{Step}
use Rattle.model_worlds.specs.declared.step.Step.TheVariants as step
use Rattle.model_worlds.specs.declared.step.TryTold.{TryTold}

-- every request at Metadata, and a log that is written in batches
abbrev pub example_settings : Settings
example_settings =
    record { tokens = []; policy = all_metadata; endpoints = []; max_event = 4096; log = Batch; hook = Off }

abbrev pub example : Setup
example =
    record {
      set = example_settings;
      opening = [];
      boot = 1;
      capacity = λ sink. 2;
      limits = record { lines = 2; bytes = 8192 };
      keep = λ omit body. NotAsked;
    }

-- of a path that leads nowhere, with that body
abbrev pub example_request : List ℕ → Request
example_request body =
    record { head = record { method = codes "PUT"; target = codes "/x"; minor = 1; headers = [] }; body = body }

abbrev pub done : TryTold
done = record { answer = answers.Done; sent = 0 }

-- its events are offered to the log, whose writer takes both lines and writes them
abbrev pub example_steps : List ℕ → List Step
example_steps body =
    step.Begin 0 (example_request body) (10 ∷ 0 ∷ 0 ∷ 7 ∷ []) 0
    ∷ step.Offer 0 Log done
    ∷ step.Find 0 0
    ∷ step.Finish 0 NotUsed NotAsked 0
    ∷ step.Offer 0 Log done
    ∷ step.Take Log
    ∷ step.Take Log
    ∷ step.Cut Log done
    ∷ []
