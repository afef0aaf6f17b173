use Rattle.std.proofs.Common.{◌≡◌, Err, None, refl, sym}
use Rattle.front_ports.specs.declared.files.FileFail.TheVariants as fail
use Rattle.front_config.specs.Load.{name_for}
use Rattle.front_config.proofs.files.bytes_of.Goals as goal

pub returns-in_default-clause-bytes : goal.returns-in_default-clause-bytes
returns-in_default-clause-bytes g c =
    let e : None ≡ name_for c.args.names.now c.args.which = c.in_default.ensures in
    rw (sym e) (Err fail.Fault, tt, refl)
