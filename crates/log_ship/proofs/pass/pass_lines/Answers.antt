use Rattle.std.proofs.Common.{◌≡◌, ◌∙◌, List, ℕ, [], false, refl, subst, sym, arith}
use Rattle.front_ports.specs.Cause.{Rose}
use Rattle.log_ship.specs.Shipped.{EndsNext, KeepsCount, ReadsPast}
use Rattle.log_ship.proofs.ShipLemmas.{past_more, past_start}
use Rattle.log_ship.proofs.pass.pass_lines.Goals as goal

pub passing-init : goal.passing-init
passing-init g c =
    let a = g.S.Source.left c.args.input.now in
    record {
      past = subst (λ (z : List ℕ). ReadsPast a a 0 z) (sym c.requires.none) (past_start a);
      few = omega arith;
      later = omega arith;
      calm = refl;
    }

pub passing-preserved : goal.passing-preserved
passing-preserved g c =
    let left = g.S.Source.left in
    let i = c.passing.invariant in
    let n = c.in-Ok.ensures.ok in
    record {
      past = past_more (left c.args.input.now) (left c.passing.input) (left c.pass_next.new.input) c.passing.lines c.passing.buffer n.bytes n.line
          c.pass_next.new.buffer i.past n.seen n.starts n.short;
      few = let few = i.few in omega (arith, few, c.if-lines-before.false);
      later = let a = i.later in let b = c.pass_next.ensures.later in omega (arith, a, b);
      calm = c.in-Ok.ensures.calm ∙ i.calm;
    }

pub returns-then-lines-before-clause-ok : goal.returns-then-lines-before-clause-ok
returns-then-lines-before-clause-ok g c =
    let left = g.S.Source.left in
    let e : c.passing.lines ≡ c.args.before = omega (arith, c.if-lines-before.true) in
    subst (λ (n : ℕ). ReadsPast (left c.args.input.now) (left c.passing.input) n c.passing.buffer) e c.passing.invariant.past

pub returns-in-Err-clause-err : goal.returns-in-Err-clause-err
returns-in-Err-clause-err g c =
    let left = g.S.Source.left in
    let faults = g.S.Source.read_faults in
    let i = c.passing.invariant in
    record {
      earlier = left c.passing.input;
      bytes = c.passing.buffer;
      past = i.past;
      few = let few = i.few in omega (arith, few, c.if-lines-before.false);
      ends = subst
          (λ (n : ℕ). EndsNext (left c.passing.input) (left c.pass_next.new.input) c.passing.buffer c.pass_next.new.buffer false
          (Rose n (faults c.pass_next.new.input)) c.in-Err.end)
          i.calm c.in-Err.ensures.err;
    }

pub returns-in-Err-clause-told : goal.returns-in-Err-clause-told
returns-in-Err-clause-told g c =
    let faults = g.S.Source.read_faults in
    subst (λ (n : ℕ). KeepsCount n (faults c.pass_next.new.input) c.in-Err.end) c.passing.invariant.calm c.in-Err.ensures.told
