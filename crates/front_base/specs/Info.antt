-- Which requests may run for long (Kubernetes, kube-apiserver's long-running verbs and subresources).
use Rattle.std.specs.Prelude.{ℕ, Bool, ◌||◌, if◌then◌else◌, List, nat_eq, codes}
use Rattle.std.specs.List.{starts_with}
use Rattle.std.specs.Str.{bytes_eq}
use Rattle.front_base.specs.declared.info.Info.{Info}

-- subresources that stream
abbrev pub is_stream : List ℕ → Bool
is_stream subresource =
    bytes_eq subresource (codes "attach")
    || bytes_eq subresource (codes "exec")
    || bytes_eq subresource (codes "proxy")
    || bytes_eq subresource (codes "log")
    || bytes_eq subresource (codes "portforward")

-- a watch, a proxied request or a stream; of the other requests, those below `/debug/pprof/`
unfoldable pub is_long_running : Info → Bool
is_long_running info =
    if info.resource_request
    then bytes_eq info.verb (codes "watch") || bytes_eq info.verb (codes "proxy") || is_stream info.subresource
    else starts_with nat_eq info.path (codes "/debug/pprof/")
