use Rattle.std.proofs.Common.{◌∙◌, ap}
use Rattle.clap.specs.Words.{first_of, found_of, rows_of}
use Rattle.clap.proofs.WalkLemmas.{first_value-rows}
use Rattle.command_options.specs.Parser.{given_in}
use Rattle.command_options.specs.Options.{value_of}
use Rattle.command_options.proofs.DistinctLemmas.{value_is}
use Rattle.command_options.proofs.given.value_of.Goals as goal

pub returns : goal.returns
returns c =
    let found = found_of c.options.inside.matches in
    c.get_str.ensures ∙ first_value-rows found c.args.name.now ∙ ap (first_of c.args.name.now) c.options.invariant
    ∙ value_is c.args.name.now (given_in (rows_of found)) ∙ ap (value_of c.args.name.now) c.options.view_is
