-- Each step makes calls more and writes more.
use Rattle.std.proofs.Common.{ℕ, ◌+◌, Bool, true, false, if◌then◌else◌, List, [], ◌∷◌, ◌++◌, Option, None, Some, refl, sym, ap, ◌∙◌, append_assoc, append-nil}
use Rattle.apiservice_rows.specs.Row.{Row}
use Rattle.apiservice_rows.specs.declared.service.ServiceRef.{ServiceRef}
use Rattle.avail_probe.specs.Watching.{changed, probed, wish_at}
use Rattle.front_base.specs.declared.address.Address.{Address}
use Rattle.service_calls.specs.Calls.{Due}
use Rattle.service_calls.specs.Contacts.{is_good}
use Rattle.probe_rounds.specs.Pace.{after, is_due}
use Rattle.probe_rounds.specs.declared.pace.Pace.{Pace}
use Rattle.probe_rounds.specs.Rounds.{Course, asks, called, judged, line, list_due, look, next_answer, probes, put_due, rounds, tells, told, turn, turns, wished, with_rows}
use Rattle.probe_rounds.specs.Standing.{Begins, BeginsSo, Extends}
use Rattle.probe_rounds.specs.declared.plan.ProbePlan.{ProbePlan}
use Rattle.probe_rounds.specs.declared.round.Round.{Round}
use Rattle.service_endpoints.specs.Find.{endpoint_of}

all_of : {T : Type 0} → (xs : List T) → Begins xs xs
all_of xs = ([], sym (append-nil xs))

stays : (c : Course) → BeginsSo c.calls c.text c
stays c = (all_of c.calls, all_of c.text)

begins_join : {T : Type 0} → (xs ys zs : List T) → Begins xs ys → Begins ys zs → Begins xs zs
begins_join xs ys zs h k = (h.0 ++ k.0, k.1 ∙ ap (λ l. l ++ k.0) h.1 ∙ append_assoc xs h.0 k.0)

join : (c d e : Course) → BeginsSo c.calls c.text d → BeginsSo d.calls d.text e → BeginsSo c.calls c.text e
join c d e h k = (begins_join c.calls d.calls e.calls h.0 k.0, begins_join c.text d.text e.text h.1 k.1)

called_extends : (due : Due) → Extends (called due)
called_extends due c = ((due ∷ [], refl), all_of c.text)

pub told_extends : (round : Round) (at : ℕ) (row : Row) (up : Bool) (answer : Option ℕ) → Extends (told round at row up answer)
told_extends round at row up answer c = (all_of c.calls, (line round.number row.name up answer, refl))

tells_extends : (plan : ProbePlan) (round : Round) (at : ℕ) (row : Row) (up : Bool) → Extends (tells plan round at row up)
tells_extends plan round at row up c =
    let d = called (put_due plan round row up) c in
    join c d (tells plan round at row up c) (called_extends (put_due plan round row up) c) (told_extends round at row up (next_answer c.answers) d)

wished_extends : (plan : ProbePlan) (round : Round) (at : ℕ) (row : Row) (wish : Option Bool) → Extends (wished plan round at row wish)
wished_extends plan round at row None c = stays c
wished_extends plan round at row (Some up) c = tells_extends plan round at row up c

pub judged_extends : (plan : ProbePlan) (round : Round) (at : ℕ) (row : Row) (good : Bool) → Extends (judged plan round at row good)
judged_extends plan round at row good c =
    let rows = changed at (probed good) c.rows in
    wished_extends plan round at row (wish_at plan.threshold at rows) (with_rows rows c)

asks_extends : (plan : ProbePlan) (round : Round) (at : ℕ) (row : Row) (address : Option Address) → Extends (asks plan round at row address)
asks_extends plan round at row None c = judged_extends plan round at row _ c
asks_extends plan round at row (Some address) c =
    let d = called (list_due row address) c in
    join c d (asks plan round at row (Some address) c) (called_extends (list_due row address) c)
    (judged_extends plan round at row (is_good (next_answer c.answers)) d)

probes_extends : (plan : ProbePlan) (round : Round) (at : ℕ) (row : Row) (service : Option ServiceRef) → Extends (probes plan round at row service)
probes_extends plan round at row None c = stays c
probes_extends plan round at row (Some service) c = asks_extends plan round at row (endpoint_of plan.endpoints (Some service)) c

turn_extends : (plan : ProbePlan) (round : Round) (at : ℕ) (row : Row) → Extends (turn plan round at row)
unfolding turn
turn_extends plan round at row c = probes_extends plan round at row row.service c

pub turns_extends : (plan : ProbePlan) (round : Round) (at : ℕ) (rows : List Row) → Extends (turns plan round at rows)
unfolding turns
turns_extends plan round at [] c = stays c
turns_extends plan round at (row ∷ rows) c =
    let d = turn plan round at row c in
    join c d (turns plan round (at + 1) rows d) (turn_extends plan round at row c) (turns_extends plan round (at + 1) rows d)

either_extends : (due : Bool) (step : Course → Course) → Extends step → Extends (λ c. if due then step c else c)
either_extends true step h c = h c
either_extends false step h c = stays c

pub look_extends : (plan : ProbePlan) (rows : List Row) (pace : Pace) (now : ℕ) → Extends (look plan rows pace now)
look_extends plan rows pace now =
    let round : Round = record { number = pace.done + 1; moment = now } in
    either_extends (is_due plan.every pace.began now) (turns plan round 0 rows) (turns_extends plan round 0 rows)

pub rounds_extends : (plan : ProbePlan) (rows : List Row) (pace : Pace) (moments : List ℕ) → Extends (rounds plan rows pace moments)
unfolding rounds
rounds_extends plan rows pace [] c = stays c
rounds_extends plan rows pace (now ∷ later) c =
    let d = look plan rows pace now c in
    join c d (rounds plan rows (after plan pace now) later d) (look_extends plan rows pace now c) (rounds_extends plan rows (after plan pace now) later d)
