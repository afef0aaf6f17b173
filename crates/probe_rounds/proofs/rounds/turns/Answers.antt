use Rattle.std.proofs.Common.{◌≡◌, ◌+◌, ◌∷◌, ◌∙◌, drop, sym, ap, refl, arith}
use Rattle.service_calls.specs.Calls.{DialState, dial_state}
use Rattle.std.proofs.lemmas.List.{drop_more}
use Rattle.probe_rounds.specs.Standing.{OutTells, Stand, out_tells, stand}
use Rattle.probe_rounds.proofs.TurnLemmas.{turns_all, turns_broke, turns_more, turns_none}
use Rattle.probe_rounds.proofs.rounds.turns.Goals as goal

pub loop-at-init : goal.loop-at-init
loop-at-init g c = record { so_far = turns_none c.args.plan.now c.args.round.now c.args.rows.now _; threshold = refl; length = refl }

pub turn-requires-clause-inside : goal.turn-requires-clause-inside
turn-requires-clause-inside g c =
    omega (arith, c.loop-at-test.true, c.loop-at.invariant.length, c.requires.same)

pub turn-requires-clause-threshold : goal.turn-requires-clause-threshold
turn-requires-clause-threshold g c = c.loop-at.invariant.threshold ∙ c.requires.threshold

pub loop-at-preserved : goal.loop-at-preserved
loop-at-preserved g c =
    let D = g.D.Dial in
    let O = g.O.ByteSink in
    let rows = c.args.rows.now in
    let row = c.index-rows-at.result in
    let at = c.loop-at.at in
    let split : drop at rows ≡ row ∷ drop (at + 1) rows =
    drop_more rows at row c.loop-at-test.true ∙ ap (λ x. x ∷ drop (at + 1) rows) (sym c.index-rows-at.is) in
    let r : Stand = stand c.turn.new.watcher.rows (dial_state (D.calls c.turn.new.dial) (D.faults c.turn.new.dial) (D.link_faults c.turn.new.dial))
    (out_tells (O.written c.turn.new.out) (O.write_faults c.turn.new.out)) in
    record {
      so_far = turns_more c.args.plan.now c.args.round.now rows at _ _ c.loop-at.invariant.so_far row r split c.in-Ok.ensures.ok;
      threshold = c.turn.ensures.threshold ∙ c.loop-at.invariant.threshold;
      length = c.turn.ensures.length ∙ c.loop-at.invariant.length;
    }

pub returns-in-Err-clause-err : goal.returns-in-Err-clause-err
returns-in-Err-clause-err g c =
    let D = g.D.Dial in
    let O = g.O.ByteSink in
    let rows = c.args.rows.now in
    let row = c.index-rows-at.result in
    let at = c.loop-at.at in
    let split : drop at rows ≡ row ∷ drop (at + 1) rows =
    drop_more rows at row c.loop-at-test.true ∙ ap (λ x. x ∷ drop (at + 1) rows) (sym c.index-rows-at.is) in
    let d : DialState = dial_state (D.calls c.turn.new.dial) (D.faults c.turn.new.dial) (D.link_faults c.turn.new.dial) in
    let o : OutTells = out_tells (O.written c.turn.new.out) (O.write_faults c.turn.new.out) in
    turns_broke c.args.plan.now c.args.round.now rows at _ _ c.loop-at.invariant.so_far row c.in-Err.stop d o split c.in-Err.ensures.err

pub returns-clause-ok : goal.returns-clause-ok
returns-clause-ok g c =
    turns_all c.args.plan.now c.args.round.now c.args.rows.now c.loop-at.at _ _ c.loop-at.invariant.so_far (omega (arith, c.loop-at-test.false))

pub returns-clause-length : goal.returns-clause-length
returns-clause-length g c = c.loop-at.invariant.length
