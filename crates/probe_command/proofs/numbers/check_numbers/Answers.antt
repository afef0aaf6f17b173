use Rattle.std.proofs.Common.{◌≡◌, ◌∙◌, false, refl, sym, true}
use Rattle.command_options.specs.Options.{have_numbers}
use Rattle.probe_command.specs.Probe.{numbers_of, probe_numbers}
use Rattle.probe_command.proofs.numbers.check_numbers.Goals as goal

pub returns-then-have_numbers : goal.returns-then-have_numbers
unfolding numbers_of
returns-then-have_numbers c =
    let e : have_numbers probe_numbers c.args.options.now ≡ true = sym c.have_numbers.ensures ∙ c.if-have_numbers.true in
    rw e refl

pub returns-else-have_numbers : goal.returns-else-have_numbers
unfolding numbers_of
returns-else-have_numbers c =
    let e : have_numbers probe_numbers c.args.options.now ≡ false = sym c.have_numbers.ensures ∙ c.if-have_numbers.false in
    rw e refl
