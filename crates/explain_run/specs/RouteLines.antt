-- The lines that say where requests go (Kubernetes, "API Aggregation Layer"), in the place of their audit lines.
use Rattle.std.specs.Prelude.{ℕ, List, [], ◌∷◌, ◌++◌, codes}
use Rattle.std.specs.Fmt.{decimal}
use Rattle.audit_core.specs.declared.routed.Handling.{Handling}
use Rattle.audit_core.specs.declared.routed.Handling.TheVariants.{Refused, Served, Proxied}
use Rattle.forward_link.specs.Forwarded.{address_text}
use Rattle.forward_link.specs.Target.{address_of}

-- to the backend at an address, as `a.b.c.d:port`, or to none, and then what it is answered here
abbrev pub way_text : Handling → List ℕ
way_text (Refused code) = codes "refused " ++ decimal code
way_text (Served local reply change) = codes "local " ++ decimal reply.status
way_text (Proxied target) = codes "backend " ++ address_text (address_of target)

-- the number of a request, a space, and where it goes
abbrev pub route_line : ℕ → Handling → List ℕ
route_line number handling = decimal number ++ (codes " " ++ (way_text handling ++ 10 ∷ []))
