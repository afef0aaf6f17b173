-- What is known of a request when it was received.
use Rattle.std.specs.Prelude.{ℕ, List, Option}
use Rattle.front_base.specs.AuditId.{AuditId}
use Rattle.front_base.specs.declared.info.Info.{Info}
use Rattle.front_base.specs.declared.user.User.{User}
use Rattle.stage_event.specs.declared.facts.Facts.{Facts}
use Rattle.stage_event.specs.declared.facts.Kept.{Kept}
use Rattle.stage_event.specs.declared.facts.Kept.TheVariants.{NotAsked}

-- the facts before anything is known of the reply
abbrev pub begun : AuditId → List ℕ → Info → User → Option User → List ℕ → List ℕ → ℕ → Facts
begun id target info user acting peer agent received =
    record {
      id = id;
      target = target;
      info = info;
      user = user;
      acting = acting;
      peer = peer;
      agent = agent;
      status = 0;
      request = NotAsked;
      reply = NotAsked;
      received = received;
      started = received;
      complete = received;
    }

-- the facts as they were when the request was received
abbrev pub as_begun : Facts → Facts
as_begun facts = begun facts.id facts.target facts.info facts.user facts.acting facts.peer facts.agent facts.received

-- the facts, once the status and the bodies are known, and when the reply started and was complete
abbrev pub filled : ℕ → Kept → Kept → ℕ → ℕ → Facts → Facts
filled status request reply started complete facts =
    record facts { status = status; request = request; reply = reply; started = started; complete = complete }
