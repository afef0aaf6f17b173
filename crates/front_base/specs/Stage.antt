-- The names of the stages (Kubernetes, "Auditing").
use Rattle.std.specs.Prelude.{ℕ, List, Option, Some, None, codes, if◌then◌else◌}
use Rattle.std.specs.Str.{bytes_eq}
use Rattle.front_base.specs.declared.stage.Stage.{Stage}
use Rattle.front_base.specs.declared.stage.Stage.TheVariants.{RequestReceived, ResponseStarted, ResponseComplete, Panic}

-- the name that policies and events spell
abbrev pub stage_name : Stage → List ℕ
stage_name RequestReceived = codes "RequestReceived"
stage_name ResponseStarted = codes "ResponseStarted"
stage_name ResponseComplete = codes "ResponseComplete"
stage_name Panic = codes "Panic"

-- the stage of that name
unfoldable pub stage_of : List ℕ → Option Stage
stage_of name =
    if bytes_eq name (codes "RequestReceived") then Some RequestReceived
    else if bytes_eq name (codes "ResponseStarted") then Some ResponseStarted
    else if bytes_eq name (codes "ResponseComplete") then Some ResponseComplete
    else if bytes_eq name (codes "Panic") then Some Panic
    else None
