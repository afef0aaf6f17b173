use Rattle.std.proofs.Common.{◌≡◌, take, drop, arith, sym, ◌∙◌, ap, not, Some}
use Rattle.std.proofs.lemmas.List.{take_rest}
use Rattle.body_frames.specs.Machine.{fault_of, fault_mode}
use Rattle.body_frames.proofs.MachineLemmas.{run_parts, emitted_parts, some_taken, open_or_done, broken_same}
use Rattle.body_frames.proofs.MachineLemmas.{broken_run}
use Rattle.body_frames.proofs.decoder.feed_place.Goals as goal

pub returns-clause-took : goal.returns-clause-took
returns-clause-took c =
    let p = c.args.place.now in
    let piece = c.args.piece.now in
    let n = c.pass_framing-from.result in
    let m = c.pass_data-size.result in
    let moved = rw (take_rest piece n) at c.pass_data-size.ensures.moved in
    let body = rw (take_rest piece n) at c.pass_data-size.ensures.body in
    record {
      within = omega (arith, c.pass_data-size.ensures.within);
      range = omega arith;
      end = omega arith;
      moved =
          run_parts p c.pass_framing-from.new.place c.pass_data-size.new.place piece n m c.pass_framing-from.ensures.moved moved;
      body =
          emitted_parts p c.pass_framing-from.new.place piece n m c.pass_framing-from.ensures.moved c.pass_framing-from.ensures.nothing body;
    }

pub returns-clause-some : goal.returns-clause-some
returns-clause-some c = λ more awaits.
    let p = c.args.place.now in
    let piece = c.args.piece.now in
    let n = c.pass_framing-from.result in
    let m = c.pass_data-size.result in
    let moved = rw (take_rest piece n) at c.pass_data-size.ensures.moved in
    let stops = rw (take_rest piece n) at c.pass_data-size.ensures.stops in
    some_taken p c.pass_framing-from.new.place c.pass_data-size.new.place piece n m more awaits c.pass_framing-from.ensures.moved c.pass_framing-from.ensures.stops moved stops

pub returns-clause-awaits : goal.returns-clause-awaits
returns-clause-awaits c =
    open_or_done c.pass_data-size.new.place c.pass_data-size.ensures.sound c.pass_data-size.ensures.whole
    ∙ ap not (sym c.is_done.ensures)

pub returns-in-Broken-clause-again : goal.returns-in-Broken-clause-again
returns-in-Broken-clause-again c = λ fault broken.
    let p = c.args.place.now in
    let q = c.pass_framing-from.new.place in
    let same : q ≡ p =
    broken_same p q c.args.piece.now c.pass_framing-from.result fault broken c.pass_framing-from.ensures.moved c.pass_framing-from.ensures.held in
    let own : fault_of q ≡ Some c.in-Broken.fault = ap fault_mode c.in-Broken.is in
    (cc (own, ap fault_of same, broken), same)

pub returns-clause-again : goal.returns-clause-again
returns-clause-again c = λ fault broken.
    let p = c.args.place.now in
    let q = c.pass_framing-from.new.place in
    let same : q ≡ p =
    broken_same p q c.args.piece.now c.pass_framing-from.result fault broken c.pass_framing-from.ensures.moved c.pass_framing-from.ensures.held in
    let own : fault_of q ≡ Some fault = ap fault_of same ∙ broken in
    let rest = take c.pass_data-size.result (drop c.pass_framing-from.result c.args.piece.now) in
    let moved = rw (take_rest c.args.piece.now c.pass_framing-from.result) at c.pass_data-size.ensures.moved in
    absurd (cc (broken_run rest q fault own, ap fault_of moved, c.pass_data-size.ensures.whole))
