-- A request of a member of `system:masters` that acts as another user (Kubernetes, "Authenticating": user impersonation).
use Rattle.std.specs.Prelude.{ℕ, List, [], ◌∷◌, codes}
use Rattle.http_edge.specs.declared.request.Request.{Request}
use Rattle.http_head.specs.declared.header.Header.{Header}
use Rattle.stage_event.specs.declared.facts.Kept.TheVariants.{NotAsked}
use Rattle.token_users.specs.declared.record.Record.{Record}
use Rattle.model_worlds.specs.Setup.{Setup}
use Rattle.model_worlds.specs.Steps.{after_steps, start}
use Rattle.model_worlds.specs.declared.step.Step.{Step}
use Rattle.model_examples.specs.Served.{served, served_settings, steps_of, log_of}

-- the token `t` is root's
abbrev pub root : Record
root = record { token = codes "t"; user = record { name = codes "root"; uid = []; groups = codes "system:masters" ∷ [] } }

abbrev pub rooted : Setup
rooted = record served { set = record served_settings { tokens = root ∷ [] } }

abbrev pub header : List ℕ → List ℕ → Header
header name value = record { name = name; value = value }

-- root reads a secret as the user of that name
abbrev pub acting_request : List ℕ → Request
acting_request name =
    record {
      head = record {
        method = codes "GET";
        target = codes "/api/v1/namespaces/a/secrets/b";
        minor = 1;
        headers = header (codes "Authorization") (codes "Bearer t") ∷ header (codes "Impersonate-User") name ∷ [];
      };
      body = [];
    }

abbrev pub acting_steps : List ℕ → List Step
acting_steps name = steps_of (acting_request name) 200 NotAsked

abbrev pub acting_log : List ℕ → List ℕ
acting_log name = log_of (after_steps rooted (start 1) (acting_steps name))
