use Rattle.std.proofs.Common.{ap, sym, ◌∙◌, ◌+◌, ◌∷◌, [], length-append, ℕ}
use Rattle.check_command.proofs.bad_lines.BadLines.add.Goals as goal

pub returns-clause-adds : goal.returns-clause-adds
returns-clause-adds c = λ bad h. record {
  first = c.in_ok-push_listed.ensures.lists bad h.first;
  count = ap (λ (n : ℕ). n + 1) h.count ∙ sym (length-append bad (c.args.line ∷ []));
}
