-- The files of a rehearsal (Kubernetes, "Auditing" and "Configure the Aggregation Layer").
use Rattle.std.specs.Prelude.{◌≡◌, ℕ, List, [], ◌∷◌, flat_map, codes}
use Rattle.front_ports.specs.Memory.{files_held}
use Rattle.front_ports.specs.declared.mem_files.MemFiles.{MemFiles}

-- no secrets; requests and replies of updates in the group metrics.example; requests alone of all else in it; metadata of the rest
abbrev pub policy_parts : List (List ℕ)
policy_parts =
    codes "{\"apiVersion\":\"audit.k8s.io/v1\",\"kind\":\"Policy\",\"rules\":["
    ∷ codes "{\"level\":\"None\",\"resources\":[{\"group\":\"\",\"resources\":[\"secrets\"]}]},"
    ∷ codes "{\"level\":\"RequestResponse\",\"verbs\":[\"update\"],\"resources\":[{\"group\":\"metrics.example\"}]},"
    ∷ codes "{\"level\":\"Request\",\"resources\":[{\"group\":\"metrics.example\"}]},"
    ∷ codes "{\"level\":\"Metadata\"}]}" ∷ []

-- two APIs of the delegate, and one whose service is unavailable
abbrev pub service_parts : List (List ℕ)
service_parts =
    codes "{\"apiVersion\":\"v1\",\"kind\":\"List\",\"items\":[{\"apiVersion\":\"apiregistration.k8s.io/v1\",\"kind\":\"APIService\","
    ∷ codes "\"metadata\":{\"name\":\"v1.\"},\"spec\":{\"version\":\"v1\",\"groupPriorityMinimum\":18000,\"versionPriority\":1}},"
    ∷ codes "{\"apiVersion\":\"apiregistration.k8s.io/v1\",\"kind\":\"APIService\",\"metadata\":{\"name\":\"v1.metrics.example\"},"
    ∷ codes "\"spec\":{\"group\":\"metrics.example\",\"version\":\"v1\",\"groupPriorityMinimum\":1000,\"versionPriority\":15}},"
    ∷ codes "{\"apiVersion\":\"apiregistration.k8s.io/v1\",\"kind\":\"APIService\",\"metadata\":{\"name\":\"v1.down.example\"},"
    ∷ codes "\"spec\":{\"service\":{\"namespace\":\"down\",\"name\":\"down\",\"port\":443},\"group\":\"down.example\",\"version\":\"v1\","
    ∷ codes "\"groupPriorityMinimum\":1000,\"versionPriority\":15},"
    ∷ codes "\"status\":{\"conditions\":[{\"type\":\"Available\",\"status\":\"False\"}]}}]}" ∷ []

-- where the delegate is
abbrev pub endpoint_parts : List (List ℕ)
endpoint_parts = codes "local,127.0.0.1:9001\n" ∷ []

abbrev pub joined : List (List ℕ) → List ℕ
joined parts = flat_map (λ part. part) parts

-- the files by their names
abbrev pub files_of : List (List ℕ × List ℕ)
files_of =
    (codes "policy", joined policy_parts) ∷ (codes "apiservices", joined service_parts)
    ∷ (codes "endpoints", joined endpoint_parts) ∷ []

abbrev pub HoldsFiles : MemFiles → Type 0
HoldsFiles files = files_held files ≡ files_of
