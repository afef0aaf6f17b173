use Rattle.std.proofs.Common.{◌≡◌, [], ◌∷◌, sym, subst, ◌∙◌}
use Rattle.std.specs.Option.{MatchOption}
use Rattle.bay_runs.specs.Runs.{GaveFirst, conn_tells}
use Rattle.front_ports.specs.Doors.{GivesFirst, CountsEnd, NotesVisit}
use Rattle.bay_runs.proofs.RunLemmas.{gave_one, noted_one}
use Rattle.bay_runs.proofs.run.serve_next.Goals as goal

pub returns-in-Ok-Some-clause-ok : goal.returns-in-Ok-Some-clause-ok
returns-in-Ok-Some-clause-ok g c =
    let conn = c.in-Ok-Some.conn in
    let back = c.serve_connection-end.new.conn in
    let before = c.args.door.now in
    let given = c.next.new.self in
    let after = c.done.new.self in
    let is = c.in-Ok-Some.field-0-is in
    let says = c.in-Ok-Some.ensures in
    let first = subst (λ o. GivesFirst (g.O.Door.left before) (g.O.Door.left given) o) is says.first in
    let end = subst (λ o. CountsEnd (g.O.Door.closes before) (g.O.Door.closes given) o) is says.end in
    let noted = subst
    (λ o. MatchOption o (g.O.Door.given given ≡ g.O.Door.given before)
    (λ x. NotesVisit (g.O.Door.given before) (g.O.Door.given given) (g.O.C.Conn.from x) (g.O.C.Source.left x) (g.O.C.ByteSink.written x)))
    is says.noted in
    record {
      conn = conn;
      back = back;
      exchanges = c.serve_connection-end.ensures.serves.0;
      serves = c.serve_connection-end.ensures.serves.1;
      gave = subst (λ o. GaveFirst (g.O.Door.left before) (conn ∷ []) o) (sym c.done.ensures.left)
          (gave_one (g.O.Door.left before) (g.O.Door.left given) conn first);
      noted = noted_one (conn_tells g.O.C.Source g.O.C.ByteSink g.O.C.Conn) (g.O.Door.given before) (g.O.Door.given given) (g.O.Door.given after)
          (record { conn = conn; back = back; end = c.serve_connection-end.result; exchanges = c.serve_connection-end.ensures.serves.0 }) noted c.done.ensures.noted;
      closes = c.done.ensures.closes ∙ end;
      faults = c.done.ensures.faults ∙ says.cause.sound;
      counted = c.count.ensures;
    }
