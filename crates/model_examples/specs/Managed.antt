-- A request whose body is recorded without managed fields (Kubernetes, `audit.k8s.io/v1`, `omitManagedFields`).
use Rattle.std.specs.Prelude.{ℕ, Bool, true, List, [], ◌∷◌, Some, codes}
use Rattle.front_base.specs.declared.level.Level.TheVariants as level
use Rattle.http_edge.specs.declared.request.Request.{Request}
use Rattle.policy_rules.specs.Policy.{nothing, any_request}
use Rattle.policy_rules.specs.declared.policy.Policy.{Policy}
use Rattle.stage_event.specs.Kept.{IsKept}
use Rattle.stage_event.specs.declared.facts.Kept.{Kept}
use Rattle.stage_event.specs.declared.facts.Kept.TheVariants.{NotAsked}
use Rattle.model_worlds.specs.Setup.{Setup}
use Rattle.model_worlds.specs.declared.step.Step.{Step}
use Rattle.model_examples.specs.Served.{served, served_settings, steps_of}

-- every request at Request, and managed fields are omitted
abbrev pub without_managed : Policy
without_managed =
    record { omit = nothing; omit_managed = Some true; rules = record any_request { level = level.Request } ∷ [] }

-- with what is kept of bodies
abbrev pub pruned : (Bool → List ℕ → Kept) → Setup
pruned keep = record served { set = record served_settings { policy = without_managed }; keep = keep }

-- a body is kept as events keep it
abbrev pub KeepsAll : (Bool → List ℕ → Kept) → Type 0
KeepsAll keep = (omit : Bool) (body : List ℕ) → IsKept omit body (keep omit body)

abbrev pub with_fields : List ℕ
with_fields = codes "{\"metadata\":{\"name\":\"b\",\"managedFields\":[{\"manager\":\"kubectl\"}]}}"

abbrev pub without_fields : List ℕ
without_fields = codes "{\"metadata\":{\"name\":\"b\"}}"

-- what an event shows of both
abbrev pub shown_body : List ℕ
shown_body = codes "\"requestObject\":{\"metadata\":{\"name\":\"b\"}}"

-- it writes an object, with that body
abbrev pub object_request : List ℕ → Request
object_request body =
    record {
      head = record {
        method = codes "PUT";
        target = codes "/api/v1/namespaces/a/configmaps/b";
        minor = 1;
        headers = [];
      };
      body = body;
    }

abbrev pub object_steps : List ℕ → List Step
object_steps body = steps_of (object_request body) 200 NotAsked
