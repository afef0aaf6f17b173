-- What a level records of a request and its reply (Kubernetes, "Auditing", audit policy).
use Rattle.std.specs.Prelude.{ℕ, Bool, true, false, [], ◌∷◌, Option, Some, if◌then◌else◌}
use Rattle.std.specs.Prelude as prelude
use Rattle.front_base.specs.AuditId.{AuditId}
use Rattle.front_base.specs.Info.{is_long_running}
use Rattle.front_base.specs.declared.info.Info.{Info}
use Rattle.front_base.specs.declared.user.User.{User}
use Rattle.front_base.specs.declared.level.Level.{Level}
use Rattle.front_base.specs.declared.level.Level.TheVariants.{None, Metadata, Request, RequestResponse}
use Rattle.stage_event.specs.Due.{request_due, reply_due}
use Rattle.stage_event.specs.declared.facts.Facts.{Facts}
use Rattle.stage_event.specs.declared.facts.Kept.{Kept}
use Rattle.stage_event.specs.declared.facts.Kept.TheVariants.{NotAsked, Compact, NotJson, Over, CutOff}

-- a body as events can show it: only compact JSON is shown
abbrev pub shown : Kept → Kept
shown (Compact text) = Compact text
shown NotAsked = NotAsked
shown NotJson = NotAsked
shown Over = NotAsked
shown CutOff = NotAsked

abbrev pub shown_if : Bool → Kept → Kept
shown_if true kept = shown kept
shown_if false kept = NotAsked

-- when the reply started is recorded of long-running requests alone
abbrev pub started : Facts → ℕ
started facts = if is_long_running facts.info then facts.started else 0

abbrev pub no_info : Info
no_info =
    record {
      resource_request = false;
      path = [];
      verb = [];
      group = [];
      version = [];
      namespace = [];
      resource = [];
      subresource = [];
      name = [];
    }

abbrev pub no_user : User
no_user = record { name = []; uid = []; groups = [] }

-- the user that a request acts as, which is the one that authenticated where it acts as no other
abbrev pub or_own : Option User → User → User
or_own prelude.None own = own
or_own (Some user) own = user

-- the user as whom a request is served
abbrev pub effective_user : Facts → User
effective_user facts = or_own facts.acting facts.user

-- facts that say nothing but the request's ID
abbrev pub no_facts : AuditId → Facts
no_facts id =
    record {
      id = id;
      target = [];
      info = no_info;
      user = no_user;
      acting = prelude.None;
      peer = 0 ∷ 0 ∷ 0 ∷ 0 ∷ [];
      agent = [];
      status = 0;
      request = NotAsked;
      reply = NotAsked;
      received = 0;
      started = 0;
      complete = 0;
    }

abbrev pub with_bodies : Kept → Kept → Facts → Facts
with_bodies request reply facts = record facts { request = request; reply = reply }

abbrev pub with_start : ℕ → Facts → Facts
with_start started facts = record facts { started = started }

abbrev pub with_info : Info → Facts → Facts
with_info info facts = record facts { info = info }

-- what is recorded, given whether each body is
abbrev pub recorded : Bool → Bool → Facts → Facts
recorded request reply facts =
    record facts {
      request = shown_if request facts.request;
      reply = shown_if reply facts.reply;
      started = started facts;
    }

-- the facts, with all that the level doesn't record left empty
abbrev pub view : Level → Facts → Facts
view None facts = no_facts facts.id
view Metadata facts = recorded false false facts
view Request facts = recorded (request_due Request facts.info) false facts
view RequestResponse facts = recorded (request_due RequestResponse facts.info) (reply_due RequestResponse facts.info) facts
