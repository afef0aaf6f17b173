use Rattle.std.proofs.Common.{sym, subst, ◌∙◌, ◌++◌, ◌<◌, arith, refl}
use Rattle.apiservice_table.specs.Changes.{rows_of}
use Rattle.front_base.specs.declared.audit_id.TheConstants.{MOST_REQUESTS}
use Rattle.front_ports.specs.Cause.{Rose}
use Rattle.front_ports.specs.Written.{AppendsFront}
use Rattle.http_edge.specs.Calls.{KeepsCount}
use Rattle.http_edge.specs.declared.request.End.TheVariants.{Asked}
use Rattle.command_ends.specs.Ports.{Port, port}
use Rattle.explain_run.specs.Serving.{Serves, Spilled}
use Rattle.command_ends.specs.declared.status.Status.TheVariants.{Done, NoMemory, NumbersSpent}
use Rattle.explain_run.proofs.ServingLemmas.{none_served, served_none, stand, stop_serves, up_to, stand_front, stand_more, stand_asked, last_front, closed, closed_as, whole_front, served_spilled, rose_earlier}
use Rattle.explain_run.proofs.serving.serve_requests.Goals as goal

pub returns-in_default-clause-run : goal.returns-in_default-clause-run
returns-in_default-clause-run g c =
    let S = g.S.Source in
    let O = g.O.ByteSink in
    let input : Port =
    port (S.left c.args.input.now) (S.read_faults c.args.input.now) (S.left c.args.input.now) (S.read_faults c.args.input.now) in
    let output : Port =
    port (O.written c.args.out.now) (O.write_faults c.args.out.now) (O.written c.args.out.now) (O.write_faults c.args.out.now) in
    none_served _ _ input output _ c.requires refl refl

pub serving-init : goal.serving-init
serving-init g c = record {
  served = served_none _ _ _ _ _ _ _ c.in-Ok.ensures c.new-pending.ensures.items c.requires;
  few = omega arith;
  counted = omega (arith, c.requires);
  read_later = omega arith;
  read_sound = refl;
  write_sound = refl;
}

pub returns-in-Err-clause-run : goal.returns-in-Err-clause-run
returns-in-Err-clause-run g c =
    let S = g.S.Source in
    let O = g.O.ByteSink in
    let i = c.serving.invariant in
    let law = c.requests_stay.ensures in
    let input : Port =
    port (S.left c.args.input.now) (S.read_faults c.args.input.now) (S.left c.next_request.new.conn) (S.read_faults c.next_request.new.conn) in
    let output : Port =
    port (O.written c.args.out.now) (O.write_faults c.args.out.now) (O.written c.close.new.out) (O.write_faults c.close.new.out) in
    let done =
    closed_as output (O.written c.serving.out) (O.write_faults c.serving.out) _ c.serving.pending.items _ _ c.close.result
    c.as_slice.ensures.value c.status_of_stop.ensures i.write_sound c.close.ensures.closes in
    subst (λ large. Serves c.args.setup.now (rows_of c.args.routes.now) input output large c.close.result) (sym c.note_end.ensures)
    (stop_serves law.starts law.refused _ _ _ input output _ _ _ _ _ _ i.served _ c.in-Err.stop c.close.result
    (rose_earlier _ _ _ i.read_later)
    (subst (λ n. KeepsCount n (S.read_faults c.next_request.new.conn) c.in-Err.stop) i.read_sound c.in-Err.ensures.told)
    c.in-Err.ensures.err done)

pub returns-then-number-eq-MOST_REQUESTS-clause-run : goal.returns-then-number-eq-MOST_REQUESTS-clause-run
returns-then-number-eq-MOST_REQUESTS-clause-run g c =
    let S = g.S.Source in
    let O = g.O.ByteSink in
    let i = c.serving.invariant in
    let law = c.requests_stay.ensures in
    let close = c.close-then-number-eq-MOST_REQUESTS in
    let r = c.in-Ok-next_request.request in
    let input : Port =
    port (S.left c.args.input.now) (S.read_faults c.args.input.now) (S.left c.next_request.new.conn) (S.read_faults c.next_request.new.conn) in
    let output : Port =
    port (O.written c.args.out.now) (O.write_faults c.args.out.now) (O.written close.new.out) (O.write_faults close.new.out) in
    let stands = stand law.starts law.refused _ _ _ _ _ _ _ _ _ _ _ _ i.served c.next_request.new.self r c.in-Ok-next_request.ensures.ok in
    let done =
    closed_as output (O.written c.serving.out) (O.write_faults c.serving.out) _ c.serving.pending.items _ NumbersSpent close.result
    c.as_slice-then-number-eq-MOST_REQUESTS.ensures.value refl i.write_sound close.ensures.closes in
    closed _ _ input output _ _ c.serving.pending.items NumbersSpent close.result done
    (λ h q. up_to law.starts _ _ _ input output _ _ _ _ _ r stands (stands.count ∙ c.if-number-eq-MOST_REQUESTS.true) h)
    (λ h. stand_front law.starts _ _ _ input output _ _ _ _ _ r stands h)

pub returns-in-Err-add_lines-clause-run : goal.returns-in-Err-add_lines-clause-run
returns-in-Err-add_lines-clause-run g c =
    let S = g.S.Source in
    let O = g.O.ByteSink in
    let i = c.serving.invariant in
    let law = c.requests_stay.ensures in
    let close = c.close-in-Err-add_lines in
    let r = c.in-Ok-next_request.request in
    let input : Port =
    port (S.left c.args.input.now) (S.read_faults c.args.input.now) (S.left c.next_request.new.conn) (S.read_faults c.next_request.new.conn) in
    let output : Port =
    port (O.written c.args.out.now) (O.write_faults c.args.out.now) (O.written close.new.out) (O.write_faults close.new.out) in
    let stands = stand law.starts law.refused _ _ _ _ _ _ _ _ _ _ _ _ i.served c.next_request.new.self r c.in-Ok-next_request.ensures.ok in
    let done =
    closed_as output (O.written c.serving.out) (O.write_faults c.serving.out) _ c.serving.pending.items _ NoMemory close.result
    (c.as_slice-in-Err-add_lines.ensures.value ∙ c.in-Err-add_lines.ensures.kept) refl i.write_sound close.ensures.closes in
    closed _ _ input output _ _ c.serving.pending.items NoMemory close.result done
    (λ h q. stand_front law.starts _ _ _ input output _ _ _ _ _ r stands (whole_front _ _ _ h))
    (λ h. stand_front law.starts _ _ _ input output _ _ _ _ _ r stands h)

pub returns-then-asks-clause-run : goal.returns-then-asks-clause-run
returns-then-asks-clause-run g c =
    let S = g.S.Source in
    let O = g.O.ByteSink in
    let i = c.serving.invariant in
    let law = c.requests_stay.ensures in
    let close = c.close-then-asks in
    let r = c.in-Ok-next_request.request in
    let own = c.in-Ok-add_lines.ensures.adds in
    let input : Port =
    port (S.left c.args.input.now) (S.read_faults c.args.input.now) (S.left c.next_request.new.conn) (S.read_faults c.next_request.new.conn) in
    let output : Port =
    port (O.written c.args.out.now) (O.write_faults c.args.out.now) (O.written close.new.out) (O.write_faults close.new.out) in
    let stands = stand law.starts law.refused _ _ _ _ _ _ _ _ _ _ _ _ i.served c.next_request.new.self r c.in-Ok-next_request.ensures.ok in
    let room : c.serving.number < MOST_REQUESTS = omega (arith, i.few, c.if-number-eq-MOST_REQUESTS.false) in
    let done =
    closed_as output (O.written c.serving.out) (O.write_faults c.serving.out) _ (c.serving.pending.items ++ own.0) _ Done close.result
    (c.as_slice-then-asks.ensures.value ∙ own.2) refl i.write_sound close.ensures.closes in
    closed _ _ input output _ _ (c.serving.pending.items ++ own.0) Done close.result done
    (λ h q. (Asked, refl, stand_asked law.starts _ _ _ input output _ _ _ _ _ r stands room own.0 _ own.1 (sym c.if-asks.ensures) h, c.in-Ok-next_request.ensures.calm ∙ i.read_sound, q))
    (λ h. last_front law.starts _ _ _ input output _ _ _ _ _ r stands room own.0 _ own.1 h)

pub returns-in-Err-spill-clause-run : goal.returns-in-Err-spill-clause-run
returns-in-Err-spill-clause-run g c =
    let S = g.S.Source in
    let O = g.O.ByteSink in
    let i = c.serving.invariant in
    let law = c.requests_stay.ensures in
    let r = c.in-Ok-next_request.request in
    let own = c.in-Ok-add_lines.ensures.adds in
    let input : Port =
    port (S.left c.args.input.now) (S.read_faults c.args.input.now) (S.left c.next_request.new.conn) (S.read_faults c.next_request.new.conn) in
    let output : Port =
    port (O.written c.args.out.now) (O.write_faults c.args.out.now) (O.written c.spill.new.out) (O.write_faults c.spill.new.out) in
    let room : c.serving.number < MOST_REQUESTS = omega (arith, i.few, c.if-number-eq-MOST_REQUESTS.false) in
    let stands = stand law.starts law.refused _ _ _ _ _ _ _ _ _ _ _ _ i.served c.next_request.new.self r c.in-Ok-next_request.ensures.ok in (
      subst (λ n. Rose n (O.write_faults c.spill.new.out)) i.write_sound c.in-Err-spill.ensures.cause.failed,
      last_front law.starts _ _ _ input output _ _ _ _ _ r stands room own.0 _ own.1
          (subst (AppendsFront (O.written c.serving.out) (O.written c.spill.new.out)) own.2 c.in-Err-spill.ensures.err),
    )

pub serving-preserved : goal.serving-preserved
serving-preserved g c =
    let O = g.O.ByteSink in
    let i = c.serving.invariant in
    let law = c.requests_stay.ensures in
    let r = c.in-Ok-next_request.request in
    let own = c.in-Ok-add_lines.ensures.adds in
    let room : c.serving.number < MOST_REQUESTS = omega (arith, i.few, c.if-number-eq-MOST_REQUESTS.false) in
    let stands = stand law.starts law.refused _ _ _ _ _ _ _ _ _ _ _ _ i.served c.next_request.new.self r c.in-Ok-next_request.ensures.ok in
    let more = stand_more _ _ _ _ _ _ _ _ _ _ _ r stands room own.0 _ own.1 _ own.3 (sym c.if-asks.ensures) in
    let spilled =
    subst
    (λ p. Spilled (O.written c.serving.out) (O.written c.spill.new.out) p c.spill.new.pending.items)
    own.2 c.in-Ok-spill.ensures.ok in
    record {
      served = served_spilled _ _ _ _ _ _ _ _ _ (c.serving.pending.items ++ own.0) _ _ _ more spilled;
      few = omega (arith, i.few, c.if-number-eq-MOST_REQUESTS.false);
      counted = omega (arith, i.counted, c.in-Ok-add_lines.ensures.few);
      read_later = omega (arith, i.read_later, c.next_request.ensures.later);
      read_sound = c.in-Ok-next_request.ensures.calm ∙ i.read_sound;
      write_sound = c.in-Ok-spill.ensures.cause.sound ∙ i.write_sound;
    }
