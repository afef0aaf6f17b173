-- Statuses of final replies (RFC 9110, section 15).
use Rattle.std.specs.Prelude.{ℕ, ◌≤◌, ◌<◌, ⊤}
use Rattle.audit_core.specs.declared.errand.Errand.{Errand}
use Rattle.audit_core.specs.declared.errand.Errand.TheVariants as errand
use Rattle.audit_core.specs.declared.routed.Handling.{Handling}
use Rattle.audit_core.specs.declared.routed.Handling.TheVariants.{Refused, Served, Proxied}
use Rattle.exchange_replies.specs.declared.reached.Reached.{Reached}
use Rattle.exchange_replies.specs.declared.reached.Reached.TheVariants as reached
use Rattle.local_replies.specs.declared.errand.LocalErrand.{LocalErrand}
use Rattle.local_replies.specs.declared.errand.LocalErrand.TheVariants.{Deny, Conflict, Look, Tabulate, Write, Try}

abbrev pub IsStatus : ℕ → Type 0
IsStatus code = (200 ≤ code) × (code < 1000)

-- it is refused with such a status, if it is
abbrev pub IsFinalLocal : LocalErrand → Type 0
IsFinalLocal (Deny code) = IsStatus code
IsFinalLocal (Conflict name) = ⊤
IsFinalLocal Look = ⊤
IsFinalLocal (Tabulate include moment) = ⊤
IsFinalLocal (Write change) = ⊤
IsFinalLocal (Try change) = ⊤

abbrev pub IsFinalErrand : Errand → Type 0
IsFinalErrand (errand.Refuse code) = IsStatus code
IsFinalErrand (errand.Serve local own) = IsFinalLocal own
IsFinalErrand (errand.Route group version) = ⊤
IsFinalErrand errand.Other = ⊤

-- this server's own reply to it has such a status
abbrev pub IsFinalHandling : Handling → Type 0
IsFinalHandling (Refused code) = IsStatus code
IsFinalHandling (Served local reply change) = IsStatus reply.status
IsFinalHandling (Proxied target) = ⊤

-- the backend's reply has such a status, if one came
abbrev pub IsFinalReached : Reached → Type 0
IsFinalReached reached.NotUsed = ⊤
IsFinalReached (reached.Whole head body) = IsStatus head.status
IsFinalReached reached.DialFailed = ⊤
IsFinalReached reached.BadReply = ⊤
IsFinalReached reached.Cut = ⊤
IsFinalReached reached.LinkFault = ⊤
