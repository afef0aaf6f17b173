use Rattle.std.proofs.Common.{sym, subst, map, string_bytes}
use Rattle.check_command.specs.Config as spec
use Rattle.check_command.proofs.ConfigLemmas.{load_refused}
use Rattle.command_ends.specs.Ports.{FilesPort, files_port}
use Rattle.command_ends.specs.Why.{status_of_load}
use Rattle.check_command.proofs.config.configure_check.Goals as goal

pub returns-in-Err-load-clause-err : goal.returns-in-Err-load-clause-err
returns-in-Err-load-clause-err g c =
    let l = c.in-Err-load.ensures.loaded in
    let F = g.F.Files in
    let files : FilesPort =
    files_port (F.files c.args.files.now) (F.failed c.args.files.now) (F.faults c.args.files.now)
    (F.files c.load.new.files) (F.failed c.load.new.files) (F.faults c.load.new.files) in
    let line = map string_bytes c.args.words.now.items in
    let o = c.load_outcome.result in
    subst
    (λ s. spec.IsRefused line files s o.why)
    (sym c.load_outcome.ensures.status)
    (subst
    (λ why. spec.IsRefused line files (status_of_load c.in-Err-load.fault) why)
    (sym c.load_outcome.ensures.why)
    (load_refused line files c.in-Ok.names l.0 c.in-Err-load.fault c.in-Ok.ensures l.1 l.2 c.in-Err-load.ensures.cause))
