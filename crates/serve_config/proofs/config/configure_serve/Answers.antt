use Rattle.std.proofs.Common.{sym, subst, map, string_bytes}
use Rattle.command_ends.specs.Ports.{FilesPort, files_port}
use Rattle.command_ends.specs.Why.{status_of_load}
use Rattle.serve_config.specs.Config as spec
use Rattle.serve_config.proofs.ConfigLemmas.{load_refused, words_refused}
use Rattle.serve_config.proofs.config.configure_serve.Goals as goal

pub returns-in-Ok-load-clause-ok : goal.returns-in-Ok-load-clause-ok
returns-in-Ok-load-clause-ok g c =
    let l = c.in-Ok-load.ensures.loaded in
    record { command = c.in-Ok.ensures.gives; reads = l.0; read = l.1; load = l.2 }

pub returns-in-Err-load-clause-err : goal.returns-in-Err-load-clause-err
returns-in-Err-load-clause-err g c =
    let l = c.in-Err-load.ensures.loaded in
    let F = g.F.Files in
    let files : FilesPort =
    files_port (F.files c.args.files.now) (F.failed c.args.files.now) (F.faults c.args.files.now)
    (F.files c.load.new.files) (F.failed c.load.new.files) (F.faults c.load.new.files) in
    let line = map string_bytes c.args.words.now.items in
    let o = c.load_outcome.result in
    subst
    (λ s. spec.IsRefused line files s o.why)
    (sym c.load_outcome.ensures.status)
    (subst
    (λ why. spec.IsRefused line files (status_of_load c.in-Err-load.fault) why)
    (sym c.load_outcome.ensures.why)
    (load_refused line files c.in-Ok.told l.0 c.in-Err-load.fault c.in-Ok.ensures.gives l.1 l.2 c.in-Err-load.ensures.cause))

pub returns-in-Err-clause-err : goal.returns-in-Err-clause-err
returns-in-Err-clause-err g c =
    let F = g.F.Files in
    let files : FilesPort =
    files_port (F.files c.args.files.now) (F.failed c.args.files.now) (F.faults c.args.files.now)
    (F.files c.args.files.now) (F.failed c.args.files.now) (F.faults c.args.files.now) in
    let line = map string_bytes c.args.words.now.items in
    let o = c.serve_outcome.result in
    subst (λ s. spec.IsRefused line files s o.why) (sym c.serve_outcome.ensures.status)
    (words_refused line files c.in-Err.fault o.why c.in-Err.ensures.gives c.serve_outcome.ensures.why)
