use Rattle.std.proofs.Common.{◌≡◌, ◌∙◌, List, ℕ, subst, sym, arith}
use Rattle.log_lines.specs.Lines.{StartsWithLine}
use Rattle.log_ship.proofs.ShipLemmas.{after_is}
use Rattle.log_ship.proofs.pass.pass_next.Goals as goal

pub returns-clause-ok : goal.returns-clause-ok
returns-clause-ok g c =
    let bytes = c.next_line.new.lines in
    let n = c.in-Ok.length in
    let h = c.in-Ok.ensures.ok in
    let after : c.skip.new.self ≡ h.after = c.skip.ensures ∙ after_is bytes h.line h.after n h.starts h.length_is in
    record {
      bytes = bytes;
      seen = h.seen;
      line = h.line;
      starts = subst (λ (z : List ℕ). StartsWithLine bytes h.line z) (sym after) h.starts;
      short = let a = h.length_is in let b = h.short in omega (arith, a, b);
    }
