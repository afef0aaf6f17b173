use Rattle.std.proofs.Common.{◌∙◌, subst}
use Rattle.service_calls.specs.Calls.{DialState, dial_state}
use Rattle.service_calls.specs.Contacts.{Asks}
use Rattle.probe_rounds.proofs.turn.probe_at.Goals as goal

pub returns-in-Ok-ask-clause-ok : goal.returns-in-Ok-ask-clause-ok
returns-in-Ok-ask-clause-ok g c =
    let D = g.D.Dial in
    let p : DialState = dial_state (D.calls c.args.dial.now) (D.faults c.args.dial.now) (D.link_faults c.args.dial.now) in
    let q : DialState = dial_state (D.calls c.ask.new.dial) (D.faults c.ask.new.dial) (D.link_faults c.ask.new.dial) in (
      c.in-Ok-ask.answer,
      subst (λ t. Asks (record { to = c.args.address; text = t }) c.in-Ok-ask.answer p q) (c.as_slice.ensures ∙ c.in-Ok.ensures) c.in-Ok-ask.ensures.ok,
      c.is_good.ensures,
    )
