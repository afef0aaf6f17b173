use Rattle.std.proofs.Common.{◌≡◌, ◌<◌, length, take, arith, true, sym, subst, ◌∙◌}
use Rattle.body_frames.specs.Machine.{run, is_framing}
use Rattle.body_frames.proofs.MachineLemmas.{run_nothing, emitted_nothing, step_run, framing_emits, none_passed}
use Rattle.body_frames.proofs.place.pass_framing.Goals as goal

pub loop-at-init : goal.loop-at-init
loop-at-init c = record {
  within = omega arith;
  moved = run_nothing _;
  nothing = emitted_nothing _;
  sound = c.requires;
  falls = omega arith;
  held = λ none. omega arith;
}

pub loop-at-preserved : goal.loop-at-preserved
loop-at-preserved c =
    let i = c.loop-at.invariant in
    let p = c.args.place.now in
    let piece = c.args.piece.now in
    let n = c.loop-at.at in
    let within : n < length piece = c.loop-at-test.true in
    let framing : is_framing c.loop-at.place ≡ true = sym c.is_framing.ensures ∙ c.if-is_framing.true in
    let there : is_framing (run p (take n piece)) ≡ true = subst (λ q. is_framing q ≡ true) i.moved framing in
    let less = c.step.ensures.falls in
    record {
      within = omega arith;
      moved = step_run p c.loop-at.place c.step.new.place piece n within i.moved c.step.ensures.moved;
      nothing = framing_emits p piece n within i.nothing there;
      sound = c.step.ensures.sound;
      falls = omega (arith, i.falls);
      held = λ none. absurd (none_passed p c.loop-at.place piece n i.moved i.held framing none);
    }
