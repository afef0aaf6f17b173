-- How many bytes the texts of facts have in a line, at whatever stage and level.
use Rattle.std.proofs.Common.{ℕ, ◌+◌, ◌<◌, ◌≤◌, ◌^◌, Bool, false, [], ◌∷◌, refl, arith, lit≤}
use Rattle.std.proofs.lemmas.Bool.{cond_both}
use Rattle.std.proofs.lemmas.List.Elements.{All-from_recursion}
use Rattle.front_base.specs.Info.{is_long_running}
use Rattle.front_base.specs.declared.level.Level.{Level}
use Rattle.front_base.specs.declared.level.Level.TheVariants as levels
use Rattle.front_base.specs.declared.moment.TheConstants.{MOMENT_END}
use Rattle.front_base.specs.declared.stage.Stage.{Stage}
use Rattle.front_base.specs.declared.stage.Stage.TheVariants as stages
use Rattle.stage_event.specs.Due.{request_due, reply_due}
use Rattle.stage_event.specs.Events.{event, event_of, object_ref, code, moment}
use Rattle.stage_event.specs.Views.{view, recorded, no_facts}
use Rattle.stage_event.specs.declared.facts.Facts.{Facts}
use Rattle.line_bounds.specs.Bounds.{text_size, user_size, acting_size, named_size, line_bound, IsAddress, IsCode, HasRanges}
use Rattle.request_bounds.proofs.PathLemmas.{AnyIsBounded}

-- the numbers of facts are values of their types
pub record FactsHaveRanges (f : Facts) : Type 0 where
  pub peer : IsAddress f.peer
  pub status : f.status < 2 ^ 16
  pub received : f.received < MOMENT_END
  pub started : f.started < MOMENT_END
  pub complete : f.complete < MOMENT_END

code-fits : (stage : Stage) (status : ℕ) → status < 2 ^ 16 → IsCode (code stage status)
code-fits stages.RequestReceived status h = tt
code-fits stages.ResponseStarted status h = h
code-fits stages.ResponseComplete status h = h
code-fits stages.Panic status h = h

moment-fits : (stage : Stage) (received started complete : ℕ) → received < MOMENT_END → started < MOMENT_END → complete < MOMENT_END →
    moment stage received started complete < MOMENT_END
moment-fits stages.RequestReceived a b c p q r = p
moment-fits stages.ResponseStarted a b c p q r = q
moment-fits stages.ResponseComplete a b c p q r = r
moment-fits stages.Panic a b c p q r = r

of-ranges : (stage : Stage) (level : Level) (f : Facts) → FactsHaveRanges f → HasRanges (event_of stage level f)
of-ranges stage level f h =
    record {
      peer = h.peer;
      code = code-fits stage f.status h.status;
      received = h.received;
      at = moment-fits stage f.received f.started f.complete h.received h.started h.complete;
    }

recorded-ranges : (request reply : Bool) (f : Facts) → FactsHaveRanges f → FactsHaveRanges (recorded request reply f)
recorded-ranges request reply f h =
    let low : 0 < MOMENT_END = lit≤ tt in
    record {
      peer = h.peer;
      status = h.status;
      received = h.received;
      started = cond_both (is_long_running f.info) f.started 0 (λ (n : ℕ). n < MOMENT_END) (λ e. h.started) (λ e. low);
      complete = h.complete;
    }

zeros : IsAddress (0 ∷ 0 ∷ 0 ∷ 0 ∷ [])
zeros =
    (refl, All-from_recursion (λ b. b < 256) (0 ∷ 0 ∷ 0 ∷ 0 ∷ []) (lit≤ tt, (lit≤ tt, (lit≤ tt, (lit≤ tt, tt)))))

none-ranges : (f : Facts) → FactsHaveRanges (no_facts f.id)
none-ranges f =
    record { peer = zeros; status = lit≤ tt; received = lit≤ tt; started = lit≤ tt; complete = lit≤ tt }

view-ranges : (level : Level) (f : Facts) → FactsHaveRanges f → FactsHaveRanges (view level f)
view-ranges levels.None f h = none-ranges f
view-ranges levels.Metadata f h = recorded-ranges false false f h
view-ranges levels.Request f h = recorded-ranges (request_due levels.Request f.info) false f h
view-ranges levels.RequestResponse f h =
    recorded-ranges (request_due levels.RequestResponse f.info) (reply_due levels.RequestResponse f.info) f h

pub event-ranges : (stage : Stage) (level : Level) (f : Facts) → FactsHaveRanges f → HasRanges (event stage level f)
unfolding event
event-ranges stage level f h = of-ranges stage level (view level f) (view-ranges level f h)

-- the most bytes of a line that shows all of them
abbrev pub facts_bound : Facts → ℕ
facts_bound f =
    text_size f.target + text_size f.info.verb + user_size f.user + acting_size f.acting + text_size f.agent
    + named_size (object_ref f.info) + 640

view-most : AnyIsBounded → (level : Level) (f : Facts) → facts_bound (view level f) ≤ facts_bound f
view-most any levels.None f = let none = any [] in omega arith
view-most any levels.Metadata f = omega arith
view-most any levels.Request f = omega arith
view-most any levels.RequestResponse f = omega arith

-- an event shows no more than its facts
pub event-most : AnyIsBounded → (stage : Stage) (level : Level) (f : Facts) → line_bound (event stage level f) ≤ facts_bound f
unfolding event
event-most any stage level f = view-most any level f
