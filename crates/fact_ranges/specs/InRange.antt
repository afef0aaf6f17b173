-- What the facts of an exchange meet by the types of their fields, since contracts see texts and numbers without these bounds.
use Rattle.std.specs.Prelude.{◌<◌, ◌^◌, IfSome}
use Rattle.event_members.specs.Ranges.{IsUtf8, IsUser, IsPeer, IsReference}
use Rattle.front_base.specs.declared.moment.TheConstants.{MOMENT_END}
use Rattle.stage_event.specs.Events.{reference}
use Rattle.stage_event.specs.declared.facts.Facts.{Facts}

pub record AreInRange (facts : Facts) : Type 0 where
  pub boot : facts.id.boot < 2 ^ 64
  pub bay : facts.id.bay < 2 ^ 16
  pub number : facts.id.number < 2 ^ 48
  pub target : IsUtf8 facts.target
  pub verb : IsUtf8 facts.info.verb
  pub named : IsReference (reference facts.info)
  pub user : IsUser facts.user
  pub acting : IfSome facts.acting IsUser
  pub peer : IsPeer facts.peer
  pub agent : IsUtf8 facts.agent
  pub status : facts.status < 65536
  pub received : facts.received < MOMENT_END
  pub started : facts.started < MOMENT_END
  pub complete : facts.complete < MOMENT_END
