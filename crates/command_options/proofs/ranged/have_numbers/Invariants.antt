use Rattle.std.proofs.Common.{◌≡◌, drop}
use Rattle.command_options.specs.Options.{have_numbers}
use Rattle.command_options.proofs.ranged.have_numbers.Given as goal

-- the options that were passed have numbers
abbrev pub invariant-loop-option : goal.invariant-loop-option
invariant-loop-option l = have_numbers (drop l.option-index l.numbers) l.options ≡ have_numbers l.numbers l.options
