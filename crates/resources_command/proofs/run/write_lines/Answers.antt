use Rattle.std.proofs.Common.{ℕ, ◌+◌, Bool, take, refl, sym, subst, ◌∙◌, arith}
use Rattle.std.proofs.KnownBytes.{Appends-nil}
use Rattle.command_ends.specs.Ports.{Port, port}
use Rattle.command_ends.specs.declared.status.Status.{Status}
use Rattle.front_ports.specs.Cause.{Rose}
use Rattle.service_calls.specs.Calls.{DialState}
use Rattle.resources_command.specs.Run.{MergesTo, NotesState}
use Rattle.resources_command.proofs.RunLemmas.{SoFar, all_ended, all_written, more_written, not_written, nothing_yet}
use Rattle.resources_command.proofs.run.write_lines.Goals as goal

pub loop-own-init : goal.loop-own-init
loop-own-init g c = record {
  so_far = nothing_yet c.args.settings.now _ _ _ (Appends-nil _);
  sound = refl;
  faults = omega arith;
  link_faults = omega arith;
}

pub loop-own-preserved : goal.loop-own-preserved
loop-own-preserved g c =
    let i = c.loop-own.invariant in
    let D = g.D.Dial in
    let O = g.O.ByteSink in
    let N = g.N.Notes in
    let m : DialState = record { calls = D.calls c.args.dial.now; faults = D.faults c.args.dial.now; link_faults = D.link_faults c.args.dial.now } in
    let n : DialState = record {
      calls = D.calls c.write_one.new.dial;
      faults = D.faults c.write_one.new.dial;
      link_faults = D.link_faults c.write_one.new.dial;
    } in
    record {
      so_far = subst
          (λ (b : Bool). SoFar c.args.settings.now (take (c.loop-own.own-index + 1) c.args.all.now) m n (O.written c.args.out.now)
          (O.written c.write_one.new.out) (N.noted c.args.notes.now) (N.noted c.write_one.new.notes) b) (sym c.either-listed.ensures)
          (more_written c.args.settings.now c.args.all.now c.loop-own.own-index c.own-item.result _ _ _ _ _ _ _ _ _ _ _ c.loop-own-test.true
          c.own-item.is i.so_far c.in-Ok.ensures.ok);
      sound = c.in-Ok.ensures.sound ∙ i.sound;
      faults = omega (arith, i.faults, c.write_one.ensures.dial_later.0);
      link_faults = omega (arith, i.link_faults, c.write_one.ensures.dial_later.1);
    }

pub returns-in-Err-clause-merges : goal.returns-in-Err-clause-merges
returns-in-Err-clause-merges g c =
    let i = c.loop-own.invariant in
    let D = g.D.Dial in
    let O = g.O.ByteSink in
    let m : DialState = record { calls = D.calls c.args.dial.now; faults = D.faults c.args.dial.now; link_faults = D.link_faults c.args.dial.now } in
    let k : DialState = record { calls = D.calls c.loop-own.dial; faults = D.faults c.loop-own.dial; link_faults = D.link_faults c.loop-own.dial } in
    let n : DialState = record {
      calls = D.calls c.write_one.new.dial;
      faults = D.faults c.write_one.new.dial;
      link_faults = D.link_faults c.write_one.new.dial;
    } in
    let output : Port =
    port (O.written c.args.out.now) (O.write_faults c.args.out.now) (O.written c.write_one.new.out) (O.write_faults c.write_one.new.out) in
    let notes : NotesState = record { before = g.N.Notes.noted c.args.notes.now; after = g.N.Notes.noted c.write_one.new.notes } in
    subst (λ (s : Status). MergesTo c.args.settings.now c.args.all.now m n output notes s) (sym c.status_of.ensures)
    (not_written c.args.settings.now c.args.all.now c.loop-own.own-index c.own-item.result m k n output (O.written c.loop-own.out) _ _ notes _ c.loop-own-test.true
    c.own-item.is i.so_far (Rose (O.write_faults c.loop-own.out) (O.write_faults c.write_one.new.out)) c.in-Err.stop
    (λ rose. subst (λ (f : ℕ). Rose f (O.write_faults c.write_one.new.out)) i.sound rose) c.in-Err.ensures.err)

pub returns-clause-merges : goal.returns-clause-merges
returns-clause-merges g c =
    let i = c.loop-own.invariant in
    let D = g.D.Dial in
    let O = g.O.ByteSink in
    let m : DialState = record { calls = D.calls c.args.dial.now; faults = D.faults c.args.dial.now; link_faults = D.link_faults c.args.dial.now } in
    let n : DialState = record { calls = D.calls c.loop-own.dial; faults = D.faults c.loop-own.dial; link_faults = D.link_faults c.loop-own.dial } in
    let output : Port =
    port (O.written c.args.out.now) (O.write_faults c.args.out.now) (O.written c.loop-own.out) (O.write_faults c.loop-own.out) in
    let notes : NotesState = record { before = g.N.Notes.noted c.args.notes.now; after = g.N.Notes.noted c.loop-own.notes } in
    let all = c.args.all.now in
    subst (λ (s : Status). MergesTo c.args.settings.now all m n output notes s) (sym c.end_of.ensures)
    (all_ended c.args.settings.now all m n output notes c.loop-own.listed
    (all_written c.args.settings.now all c.loop-own.own-index m n output notes c.loop-own.listed c.loop-own-test.false i.so_far i.sound))
