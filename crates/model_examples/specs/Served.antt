-- A request that is sent on, from its arrival until its lines are written.
use Rattle.std.specs.Prelude.{ℕ, true, List, [], ◌∷◌, None, codes}
use Rattle.apiservice_rows.specs.Row.{Row}
use Rattle.audit_core.specs.declared.link_note.LinkNote.TheVariants.{Whole}
use Rattle.audit_core.specs.declared.settings.Settings.{Settings}
use Rattle.audit_core.specs.declared.sinks.Sink.TheVariants.{Log}
use Rattle.audit_core.specs.declared.sinks.SinkMode.TheVariants.{Off, Batch}
use Rattle.http_edge.specs.declared.request.Request.{Request}
use Rattle.log_sink.specs.Texts.{log_text}
use Rattle.policy_rules.specs.Policy.{all_metadata}
use Rattle.service_endpoints.specs.Key.{delegate_key}
use Rattle.service_endpoints.specs.declared.endpoint.Endpoint.{Endpoint}
use Rattle.stage_event.specs.declared.facts.Kept.{Kept}
use Rattle.stage_event.specs.declared.facts.Kept.TheVariants.{Compact}
use Rattle.truncate_backend.specs.declared.tries.TryAnswer.TheVariants as answers
use Rattle.model_worlds.specs.Setup.{Setup}
use Rattle.model_worlds.specs.Worlds.{tried_bytes}
use Rattle.model_worlds.specs.declared.state.State.{State}
use Rattle.model_worlds.specs.declared.step.Step.{Step}
use Rattle.model_worlds.specs.declared.step.Step.TheVariants as step
use Rattle.model_worlds.specs.declared.step.TryTold.{TryTold}

-- the core API, which the delegate answers
abbrev pub core_row : Row
core_row =
    record {
      name = codes "v1.";
      group = [];
      version = codes "v1";
      group_priority = 1;
      version_priority = 1;
      service = None;
      available = true;
      object = [];
    }

abbrev pub delegate : Endpoint
delegate = record { key = delegate_key; address = record { ip = 10 ∷ 0 ∷ 0 ∷ 1 ∷ []; port = 443 } }

-- every request at Metadata, and a log that is written in batches
abbrev pub served_settings : Settings
served_settings =
    record {
      tokens = [];
      policy = all_metadata;
      endpoints = delegate ∷ [];
      max_event = 4096;
      log = Batch;
      hook = Off;
    }

-- every body counts as JSON and is kept
abbrev pub served : Setup
served =
    record {
      set = served_settings;
      opening = core_row ∷ [];
      boot = 1;
      capacity = λ sink. 2;
      limits = record { lines = 2; bytes = 8192 };
      keep = λ omit body. Compact body;
    }

-- it writes a secret, with that body
abbrev pub secret_request : List ℕ → Request
secret_request body =
    record {
      head = record {
        method = codes "PUT";
        target = codes "/api/v1/namespaces/a/secrets/b";
        minor = 1;
        headers = [];
      };
      body = body;
    }

abbrev pub done : TryTold
done = record { answer = answers.Done; sent = 0 }

-- the backend answers with that status and body; the events are offered to the log, whose writer takes both lines and
-- writes them
abbrev pub steps_of : Request → ℕ → Kept → List Step
steps_of request status reply =
    step.Begin 0 request (10 ∷ 0 ∷ 0 ∷ 7 ∷ []) 0
    ∷ step.Offer 0 Log done
    ∷ step.Find 0 0
    ∷ step.Finish 0 (Whole status) reply 0
    ∷ step.Offer 0 Log done
    ∷ step.Take Log
    ∷ step.Take Log
    ∷ step.Cut Log done
    ∷ []

abbrev pub served_steps : ℕ → List ℕ → Kept → List Step
served_steps status body reply = steps_of (secret_request body) status reply

-- what the log was sent
abbrev pub log_of : State → List ℕ
log_of s = tried_bytes log_text s.shared.log.tries
