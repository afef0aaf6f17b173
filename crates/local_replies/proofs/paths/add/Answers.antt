use Rattle.std.proofs.Common.{◌≡◌, Result, Ok, Err, sym, subst}
use Rattle.std.specs.Prelude.{OnOk}
use Rattle.matchit.specs.Rows.{RowsOf}
use Rattle.matchit.specs.Route.{Scan, parse_route}
use Rattle.matchit.specs.Router.{RouteOf, InsertsRead}
use Rattle.matchit.specs.declared.error.InsertError.{InsertError}
use Rattle.local_replies.specs.Router.{rows_with, IsFree}
use Rattle.local_replies.specs.declared.kind.Kind.{Kind}
use Rattle.local_replies.proofs.paths.add.Goals as goal
use Rattle.local_replies.proofs.paths.add.Goals.{in-Ok, in-Err-OutOfMemory}

took : (scan : Result Scan InsertError) (kind : Kind) (old new : RowsOf (RouteOf Kind)) (u : Unit {0}) → IsFree scan old
    → InsertsRead scan kind old new (Ok u) → new ≡ rows_with scan kind old
took (Ok scan) kind old new u free h = h.1
took (Err e) kind old new u free h = absurd free

pub returns : goal.returns
returns c =
    let scan = parse_route c.args.route.now in
    let new = c.insert.new.self in
    elim c.match-insert.branch [
      | in-Ok w ↦
          subst (λ r. OnOk r (new ≡ rows_with scan c.args.kind c.args.router.now)) (sym w.result-is)
          (took scan c.args.kind c.args.router.now new w.in-Ok.field-0 c.requires
          (subst (InsertsRead scan c.args.kind c.args.router.now new) w.in-Ok.is c.insert.ensures))
      | in-Err-OutOfMemory w ↦ subst (λ r. OnOk r (new ≡ rows_with scan c.args.kind c.args.router.now)) (sym w.result-is) tt
    ]
