use Rattle.std.proofs.Common.{refl}
use Rattle.serve_config.specs.Serve.{limits_by, number_in}
use Rattle.serve_config.proofs.laws.the_limits_are_the_ports_own.Goals as goal

pub returns : goal.returns
unfolding limits_by number_in
returns c = refl
