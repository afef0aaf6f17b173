use Rattle.std.proofs.Common.{Option, sym, subst, ◌∙◌}
use Rattle.command_ends.specs.Ports.{FilesPort, files_port}
use Rattle.command_ends.specs.Why.{status_of_load, why_of_load}
use Rattle.command_ends.specs.declared.status.Status.{Status}
use Rattle.refusal_text.specs.declared.refusal.Refusal.{Refusal}
use Rattle.resources_command.specs.Config.{FilesEnd}
use Rattle.resources_command.specs.declared.previous.PreviousRefusal.{PreviousRefusal}
use Rattle.resources_command.proofs.ConfigLemmas.{load_refused}
use Rattle.resources_command.proofs.config.configured.Goals as goal

pub returns-in-Err-clause-err : goal.returns-in-Err-clause-err
returns-in-Err-clause-err g c =
    let F = g.F.Files in
    let files : FilesPort =
    files_port (F.files c.args.files.now) (F.failed c.args.files.now) (F.faults c.args.files.now)
    (F.files c.load.new.files) (F.failed c.load.new.files) (F.faults c.load.new.files) in
    let own = c.args.own in
    let fault = c.in-Err.fault in
    let l = c.in-Err.ensures.loaded in
    subst (λ (s : Status). FilesEnd own files s c.ended_by.result.why c.ended_by.result.previous)
    (sym (c.ended_by.ensures.status ∙ c.load_outcome.ensures.status))
    (subst (λ (why : Option Refusal). FilesEnd own files (status_of_load fault) why c.ended_by.result.previous)
    (sym (c.ended_by.ensures.why ∙ c.load_outcome.ensures.why))
    (subst (λ (previous : Option PreviousRefusal). FilesEnd own files (status_of_load fault) (why_of_load own.names fault) previous)
    (sym c.ended_by.ensures.previous)
    (load_refused files own l.0 fault l.1 l.2 c.in-Err.ensures.cause)))
