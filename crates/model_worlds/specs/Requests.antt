-- What the steps read of a request.
use Rattle.std.specs.Prelude.{ℕ, Bool, true, false, List, Option, Some, None, codes, bytes_eq}
use Rattle.apiservice_table.specs.declared.change.Change.{Change}
use Rattle.audit_core.specs.Errand.{user_in, acting_in, info_in, errand_in}
use Rattle.audit_core.specs.Exchange.{decision_in, agent_in}
use Rattle.audit_core.specs.declared.errand.Errand.{Errand}
use Rattle.audit_core.specs.declared.errand.Errand.TheVariants as errand
use Rattle.front_base.specs.declared.info.Info.{Info}
use Rattle.front_base.specs.declared.level.Level.{Level}
use Rattle.front_base.specs.declared.user.User.{User}
use Rattle.http_edge.specs.declared.request.Request.{Request}
use Rattle.local_replies.specs.declared.errand.LocalErrand.{LocalErrand}
use Rattle.local_replies.specs.declared.errand.LocalErrand.TheVariants.{Deny, Conflict, Look, Tabulate, Write, Try}
use Rattle.stage_event.specs.Due.{request_due}
use Rattle.stage_event.specs.declared.facts.Kept.{Kept}
use Rattle.stage_event.specs.declared.facts.Kept.TheVariants.{NotAsked}
use Rattle.model_worlds.specs.Setup.{Setup}

-- ---- the change that it asks for, if it asks for one

abbrev pub local_asked : LocalErrand → Option Change
local_asked (Deny code) = None
local_asked (Conflict name) = None
local_asked Look = None
local_asked (Tabulate include moment) = None
local_asked (Write change) = Some change
local_asked (Try change) = None

abbrev pub asked_by : Errand → Option Change
asked_by (errand.Refuse code) = None
asked_by (errand.Serve local own) = local_asked own
asked_by (errand.Route group version) = None
asked_by errand.Other = None

-- ---- what it means

pub record Wish : Type 0 where
  pub level : Level
  pub target : List ℕ
  pub info : Info
  pub user : User
  pub acting : Option User
  pub peer : List ℕ
  pub agent : List ℕ
  pub errand : Errand
  pub asked : Option Change
  pub is_head : Bool
  -- managed fields are omitted
  pub managed : Bool
  pub body : Kept

-- a body that no event shows isn't looked at
abbrev pub kept_if : Bool → Kept → Kept
kept_if true kept = kept
kept_if false kept = NotAsked

-- a request from that address that came at that moment, by the definitions of `audit_core`
unfoldable pub wish_of : Setup → List ℕ → Request → ℕ → Wish
wish_of setup peer r moment =
    record {
      level = (decision_in setup.set r).level;
      target = r.head.target;
      info = info_in r;
      user = user_in setup.set r;
      acting = acting_in setup.set r;
      peer = peer;
      agent = agent_in r.head.headers;
      errand = errand_in setup.set r moment;
      asked = asked_by (errand_in setup.set r moment);
      is_head = bytes_eq r.head.method (codes "HEAD");
      managed = (decision_in setup.set r).omit_managed;
      body =
          kept_if
          (request_due (decision_in setup.set r).level (info_in r))
          (setup.keep (decision_in setup.set r).omit_managed r.body);
    }
