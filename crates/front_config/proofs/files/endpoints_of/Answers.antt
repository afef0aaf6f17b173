use Rattle.std.proofs.lemmas.Result.{err_from_is_err_and}
use Rattle.front_config.specs.Load.{bytes_in, is_memory, endpoints_in}
use Rattle.front_config.specs.declared.fault.Which.TheVariants as file
use Rattle.front_config.proofs.FaultLemmas.{fails_first}
use Rattle.front_config.proofs.LoadLemmas.{gives_next, cause_of_bytes, endpoints_are_read}
use Rattle.front_config.proofs.files.endpoints_of.Goals as goal

pub returns-in_err-bytes-clause-loaded : goal.returns-in_err-bytes-clause-loaded
returns-in_err-bytes-clause-loaded g c =
    let p = err_from_is_err_and c.from_residual.result c.from_residual.ensures.1 in
    let read = c.in_err-bytes.ensures.bytes in
    let bytes = bytes_in file.Endpoints c.args.names.now.endpoints read.0 in
    (read.0, read.1, rw (p.1, p.2) (fails_first is_memory c.in_err-bytes.field-0.0 bytes endpoints_in read.2))

pub returns-clause-loaded : goal.returns-clause-loaded
returns-clause-loaded g c =
    let read = c.in_ok-bytes.ensures.bytes in
    let bytes = bytes_in file.Endpoints c.args.names.now.endpoints read.0 in
    (read.0, read.1, gives_next bytes c.in_ok-bytes.bytes endpoints_in c.endpoints_in.result read.2 c.endpoints_in.ensures)

pub returns-clause-cause : goal.returns-clause-cause
returns-clause-cause g c =
    let bytes = c.in_ok-bytes.bytes in
    cause_of_bytes c.args.names.now _ _ _ _ (endpoints_in bytes) c.endpoints_in.result (endpoints_are_read bytes) c.in_ok-bytes.ensures.cause c.endpoints_in.ensures
