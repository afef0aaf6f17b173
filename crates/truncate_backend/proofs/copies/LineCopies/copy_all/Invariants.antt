use Rattle.std.proofs.Common.{◌≡◌, ◌++◌, drop, take, true}
use Rattle.truncate_backend.specs.Copies.{copies_fit}
use Rattle.truncate_backend.proofs.copies.LineCopies.copy_all.Given as goal

abbrev pub invariant-loop-line : goal.invariant-loop-line
invariant-loop-line l = record {
  copied : l.self ≡ record { lines = l.fn.self.lines ++ take l.line-index l.lines; most_lines = l.fn.self.most_lines; most_bytes = l.fn.self.most_bytes };
  fits : copies_fit l.self (drop l.line-index l.lines) ≡ true;
}
