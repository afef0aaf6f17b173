use Rattle.std.proofs.Common.{◌≡◌, ◌<◌, ◌+◌, ◌∙◌, ℕ, [], ◌∷◌, ◌++◌, refl, ap, sym, subst, inl, inr, arith}
use Rattle.front_ports.specs.Cause.{Rose}
use Rattle.front_ports.specs.Told.{Grows}
use Rattle.probe_rounds.specs.Pace.{once_more}
use Rattle.probe_rounds.specs.Standing.{PaceTells, RoundsSoFar, Stand, out_tells, pace_tells, stand}
use Rattle.probe_rounds.specs.declared.pace.Pace.{Pace}
use Rattle.service_calls.specs.Calls.{dial_state}
use Rattle.probe_rounds.proofs.TurnLemmas.{given_more, made_is, one_longer, pace_more, pace_none, rounds_broke, rounds_made, rounds_more, rounds_none, waits_more, waits_same}
use Rattle.probe_rounds.proofs.rounds.all_rounds.Goals as goal

pub loop-init : goal.loop-init
loop-init g c =
    let D = g.D.Dial in
    let O = g.O.ByteSink in
    let plan = c.args.plan.now in
    let rows = c.args.rows.now in
    let p : Stand = stand c.args.watcher.now.rows (dial_state (D.calls c.args.dial.now) (D.faults c.args.dial.now) (D.link_faults c.args.dial.now))
    (out_tells (O.written c.args.out.now) (O.write_faults c.args.out.now)) in
    record {
      moments = [];
      so_far = subst (λ (x : Pace). RoundsSoFar plan rows x [] p p) (sym c.start-pace.ensures) (rounds_none plan rows p);
      clock = pace_none plan _;
      count = refl;
      most = omega arith;
      left = subst (λ (x : Pace). x.done < plan.rounds) (sym c.start-pace.ensures) (omega (arith, c.requires.rounds));
      threshold = refl;
      length = refl;
      last = omega arith;
    }

pub look-requires-clause-same : goal.look-requires-clause-same
look-requires-clause-same g c = c.loop.invariant.length ∙ c.requires.same

pub look-requires-clause-threshold : goal.look-requires-clause-threshold
look-requires-clause-threshold g c = c.loop.invariant.threshold ∙ c.requires.threshold

pub loop-preserved : goal.loop-preserved
loop-preserved g c =
    let D = g.D.Dial in
    let O = g.O.ByteSink in
    let K = g.K.Clock in
    let G = g.G.Going in
    let i = c.loop.invariant in
    let plan = c.args.plan.now in
    let rows = c.args.rows.now in
    let now = c.now-moment.result in
    let k0 : PaceTells = pace_tells (K.given c.args.clock.now) (K.rests c.args.clock.now) (G.asked c.args.going.now) (G.noes c.args.going.now) in
    let k : PaceTells = pace_tells (K.given c.loop.clock) (K.rests c.loop.clock) (G.asked c.loop.going) (G.noes c.loop.going) in
    let l : PaceTells =
    pace_tells (K.given c.goes_on.new.clock) (K.rests c.goes_on.new.clock) (G.asked c.goes_on.new.going) (G.noes c.goes_on.new.going) in
    let given : Grows k.given l.given (now ∷ []) =
    subst (λ o. Grows (K.given c.loop.clock) o (now ∷ [])) (sym c.goes_on.ensures.given) c.now-moment.ensures.given in
    let rests : l.rests ≡ once_more k.rests = c.goes_on.ensures.rests ∙ ap once_more c.now-moment.ensures.rests in
    let p : Stand = stand c.args.watcher.now.rows (dial_state (D.calls c.args.dial.now) (D.faults c.args.dial.now) (D.link_faults c.args.dial.now))
    (out_tells (O.written c.args.out.now) (O.write_faults c.args.out.now)) in
    let r : Stand = stand c.look.new.watcher.rows (dial_state (D.calls c.look.new.dial) (D.faults c.look.new.dial) (D.link_faults c.look.new.dial))
    (out_tells (O.written c.look.new.out) (O.write_faults c.look.new.out)) in
    let s : RoundsSoFar plan rows c.look.new.pace (i.moments ++ now ∷ []) p r =
    rounds_more plan rows c.loop.pace i.moments p _ i.so_far now c.look.new.pace r c.in-Ok.ensures.pace c.in-Ok.ensures.ok in
    record {
      moments = i.moments ++ now ∷ [];
      so_far = s;
      clock = pace_more plan i.moments k0 k l now i.clock given rests c.goes_on.ensures.asked (c.goes_on.ensures.yes c.if-not-goes_on.false);
      count = omega (arith, one_longer i.moments now, i.count);
      most = omega (arith, c.loop-test.true);
      left = c.is_whole.ensures.left c.if-is_whole.false;
      threshold = c.look.ensures.threshold ∙ i.threshold;
      length = c.look.ensures.length ∙ i.length;
      last = omega (arith, i.last, c.now-moment.ensures.later, c.now-moment.ensures.last, c.goes_on.ensures.last);
    }

pub returns-in-Err-clause-err : goal.returns-in-Err-clause-err
returns-in-Err-clause-err g c =
    let D = g.D.Dial in
    let O = g.O.ByteSink in
    let K = g.K.Clock in
    let G = g.G.Going in
    let i = c.loop.invariant in
    let plan = c.args.plan.now in
    let rows = c.args.rows.now in
    let now = c.now-moment.result in
    let k0 : PaceTells = pace_tells (K.given c.args.clock.now) (K.rests c.args.clock.now) (G.asked c.args.going.now) (G.noes c.args.going.now) in
    let k : PaceTells = pace_tells (K.given c.loop.clock) (K.rests c.loop.clock) (G.asked c.loop.going) (G.noes c.loop.going) in
    let l : PaceTells = pace_tells (K.given c.now-moment.new.self) (K.rests c.now-moment.new.self) (G.asked c.loop.going) (G.noes c.loop.going) in
    rounds_broke plan rows c.loop.pace i.moments _ _ i.so_far now k0 k l c.in-Err.stop _ _ i.clock c.now-moment.ensures.given c.now-moment.ensures.rests refl refl
    c.in-Err.ensures.err

pub returns-in-Err-clause-later : goal.returns-in-Err-clause-later
returns-in-Err-clause-later g c = omega (arith, c.loop.invariant.last, c.now-moment.ensures.later, c.now-moment.ensures.last)

pub returns-then-is_whole-clause-ok : goal.returns-then-is_whole-clause-ok
returns-then-is_whole-clause-ok g c =
    let D = g.D.Dial in
    let O = g.O.ByteSink in
    let K = g.K.Clock in
    let G = g.G.Going in
    let i = c.loop.invariant in
    let plan = c.args.plan.now in
    let rows = c.args.rows.now in
    let now = c.now-moment.result in
    let k0 : PaceTells = pace_tells (K.given c.args.clock.now) (K.rests c.args.clock.now) (G.asked c.args.going.now) (G.noes c.args.going.now) in
    let k : PaceTells = pace_tells (K.given c.loop.clock) (K.rests c.loop.clock) (G.asked c.loop.going) (G.noes c.loop.going) in
    let l : PaceTells = pace_tells (K.given c.now-moment.new.self) (K.rests c.now-moment.new.self) (G.asked c.loop.going) (G.noes c.loop.going) in
    let p : Stand = stand c.args.watcher.now.rows (dial_state (D.calls c.args.dial.now) (D.faults c.args.dial.now) (D.link_faults c.args.dial.now))
    (out_tells (O.written c.args.out.now) (O.write_faults c.args.out.now)) in
    let r : Stand = stand c.look.new.watcher.rows (dial_state (D.calls c.look.new.dial) (D.faults c.look.new.dial) (D.link_faults c.look.new.dial))
    (out_tells (O.written c.look.new.out) (O.write_faults c.look.new.out)) in
    let s : RoundsSoFar plan rows c.look.new.pace (i.moments ++ now ∷ []) p r =
    rounds_more plan rows c.loop.pace i.moments p _ i.so_far now c.look.new.pace r c.in-Ok.ensures.pace c.in-Ok.ensures.ok in
    rounds_made plan rows c.look.new.pace (i.moments ++ now ∷ []) p r k0 l s (given_more plan i.moments k0 k l now i.clock c.now-moment.ensures.given)
    (inl (record {
      count = made_is plan rows c.look.new.pace (i.moments ++ now ∷ []) p r s ∙ c.is_whole.ensures.whole c.if-is_whole.true;
      waits = waits_same plan i.moments k0 k l now i.clock c.now-moment.ensures.given c.now-moment.ensures.rests refl;
      noes_are = i.clock.noes_are;
    }))

pub returns-then-is_whole-clause-later : goal.returns-then-is_whole-clause-later
returns-then-is_whole-clause-later g c = omega (arith, c.loop.invariant.last, c.now-moment.ensures.later, c.now-moment.ensures.last)

pub returns-then-not-goes_on-clause-ok : goal.returns-then-not-goes_on-clause-ok
returns-then-not-goes_on-clause-ok g c =
    let D = g.D.Dial in
    let O = g.O.ByteSink in
    let K = g.K.Clock in
    let G = g.G.Going in
    let i = c.loop.invariant in
    let plan = c.args.plan.now in
    let rows = c.args.rows.now in
    let now = c.now-moment.result in
    let k0 : PaceTells = pace_tells (K.given c.args.clock.now) (K.rests c.args.clock.now) (G.asked c.args.going.now) (G.noes c.args.going.now) in
    let k : PaceTells = pace_tells (K.given c.loop.clock) (K.rests c.loop.clock) (G.asked c.loop.going) (G.noes c.loop.going) in
    let l : PaceTells =
    pace_tells (K.given c.goes_on.new.clock) (K.rests c.goes_on.new.clock) (G.asked c.goes_on.new.going) (G.noes c.goes_on.new.going) in
    let given : Grows k.given l.given (now ∷ []) =
    subst (λ o. Grows (K.given c.loop.clock) o (now ∷ [])) (sym c.goes_on.ensures.given) c.now-moment.ensures.given in
    let rests : l.rests ≡ once_more k.rests = c.goes_on.ensures.rests ∙ ap once_more c.now-moment.ensures.rests in
    let p : Stand = stand c.args.watcher.now.rows (dial_state (D.calls c.args.dial.now) (D.faults c.args.dial.now) (D.link_faults c.args.dial.now))
    (out_tells (O.written c.args.out.now) (O.write_faults c.args.out.now)) in
    let r : Stand = stand c.look.new.watcher.rows (dial_state (D.calls c.look.new.dial) (D.faults c.look.new.dial) (D.link_faults c.look.new.dial))
    (out_tells (O.written c.look.new.out) (O.write_faults c.look.new.out)) in
    let s : RoundsSoFar plan rows c.look.new.pace (i.moments ++ now ∷ []) p r =
    rounds_more plan rows c.loop.pace i.moments p _ i.so_far now c.look.new.pace r c.in-Ok.ensures.pace c.in-Ok.ensures.ok in
    rounds_made plan rows c.look.new.pace (i.moments ++ now ∷ []) p r k0 l s (given_more plan i.moments k0 k l now i.clock given)
    (inr (inl (record {
      count = subst (λ (n : ℕ). n < plan.rounds) (sym (made_is plan rows c.look.new.pace (i.moments ++ now ∷ []) p r s))
          (c.is_whole.ensures.left c.if-is_whole.false);
      every = c.goes_on.ensures.told c.if-not-goes_on.true;
      waits = waits_more plan i.moments k0 k l now i.clock given rests c.goes_on.ensures.asked;
      said = subst (λ (n : ℕ). Rose n l.noes) i.clock.noes_are (c.goes_on.ensures.no c.if-not-goes_on.true);
    })))

pub returns-then-not-goes_on-clause-later : goal.returns-then-not-goes_on-clause-later
returns-then-not-goes_on-clause-later g c =
    omega (arith, c.loop.invariant.last, c.now-moment.ensures.later, c.now-moment.ensures.last, c.goes_on.ensures.last)

pub returns-clause-ok : goal.returns-clause-ok
returns-clause-ok g c =
    let i = c.loop.invariant in
    let plan = c.args.plan.now in
    let rows = c.args.rows.now in
    rounds_made plan rows c.loop.pace i.moments _ _ _ _ i.so_far i.clock.given
    (inr (inr (record {
      count = subst (λ (n : ℕ). n < plan.rounds) (sym (made_is plan rows c.loop.pace i.moments _ _ i.so_far)) i.left;
      moments_are = omega (arith, i.count, i.most, c.loop-test.false);
      waits = i.clock.waits;
      noes_are = i.clock.noes_are;
    })))
