-- An exchange before the change that it asks for was noted and its offers were made.
use Rattle.std.specs.Prelude.{◌≡◌, ℕ, List, [], Option, None, bytes_eq, codes}
use Rattle.audit_core.specs.Exchange.{AreFirstFacts}
use Rattle.audit_core.specs.declared.judged.Judged.{Judged}
use Rattle.audit_core.specs.declared.link_note.LinkNote.TheVariants.{NotUsed}
use Rattle.audit_core.specs.declared.stamp.Stamp.{Stamp}
use Rattle.front_base.specs.declared.stage.Stage.TheVariants.{RequestReceived}
use Rattle.http_edge.specs.declared.request.Request.{Request}
use Rattle.stage_event.specs.declared.facts.Facts.{Facts}
use Rattle.model_worlds.specs.Requests.{Wish, asked_by}
use Rattle.model_worlds.specs.Setup.{Setup}
use Rattle.model_worlds.specs.Steps.{due, facts_begun, phase_begun}
use Rattle.model_worlds.specs.declared.state.Exchange.{Exchange}
use Rattle.model_worlds.specs.declared.state.Open.{Open}

-- the exchange of a request that was judged so and has that stamp
abbrev pub IsBare : Stamp → Request → Judged → Exchange → Type 0
IsBare stamp r judged x =
    (facts : Facts) × AreFirstFacts stamp r judged.attributes judged.decision facts
    × (x
    ≡ record {
      level = judged.decision.level;
      facts = facts;
      errand = judged.errand;
      asked = None;
      is_head = bytes_eq r.head.method (codes "HEAD");
      managed = judged.decision.omit_managed;
      seen = 0;
      link = NotUsed;
      notes = [];
    })

-- of a request that means this
abbrev pub bare : Setup → ℕ → ℕ → Wish → ℕ → Open
bare setup bay number w moment =
    record {
      exchange = record {
        level = w.level;
        facts = facts_begun setup bay number w moment;
        errand = w.errand;
        asked = None;
        is_head = w.is_head;
        managed = w.managed;
        seen = 0;
        link = NotUsed;
        notes = [];
      };
      phase = phase_begun moment;
      waiting = [];
    }

-- the change that it asks for is noted, and its offers wait
abbrev pub completed : Setup → Open → Open
completed setup o =
    record {
      exchange = record o.exchange { asked = asked_by o.exchange.errand };
      phase = o.phase;
      waiting = due setup RequestReceived o.exchange.level o.exchange.facts;
    }
