use Rattle.std.proofs.Common.{◌≡◌, ◌≤◌, take}
use Rattle.resources_command.proofs.RunLemmas.{SoFar}
use Rattle.resources_command.proofs.run.write_lines.Given as goal

abbrev pub invariant-loop-own : goal.invariant-loop-own
invariant-loop-own g l = record {
  so_far : SoFar l.settings (take l.own-index l.all)
      (record {
        calls = g.D.Dial.calls l.initial.dial;
        faults = g.D.Dial.faults l.initial.dial;
        link_faults = g.D.Dial.link_faults l.initial.dial;
      })
      (record { calls = g.D.Dial.calls l.dial; faults = g.D.Dial.faults l.dial; link_faults = g.D.Dial.link_faults l.dial })
      (g.O.ByteSink.written l.initial.out) (g.O.ByteSink.written l.out) (g.N.Notes.noted l.initial.notes) (g.N.Notes.noted l.notes) l.listed;
  sound : g.O.ByteSink.write_faults l.out ≡ g.O.ByteSink.write_faults l.initial.out;
  faults : g.D.Dial.faults l.initial.dial ≤ g.D.Dial.faults l.dial;
  link_faults : g.D.Dial.link_faults l.initial.dial ≤ g.D.Dial.link_faults l.dial;
}
