use Rattle.std.proofs.Common.{Option, map, string_bytes, sym, subst, ◌∙◌}
use Rattle.command_ends.specs.Ports.{FilesPort, files_port}
use Rattle.command_ends.specs.Why.{status_of_words}
use Rattle.command_ends.specs.declared.status.Status.{Status}
use Rattle.refusal_text.specs.declared.refusal.Refusal.{Refusal}
use Rattle.resources_command.specs.Config.{IsRefused}
use Rattle.resources_command.specs.declared.previous.PreviousRefusal.{PreviousRefusal}
use Rattle.std.proofs.lemmas.Result.{IfErr-weaker}
use Rattle.resources_command.proofs.WordsLemmas.{files_refused, words_refused}
use Rattle.resources_command.proofs.config.configure_resources.Goals as goal

pub returns-in-Err-clause-err : goal.returns-in-Err-clause-err
returns-in-Err-clause-err g c =
    let F = g.F.Files in
    let files : FilesPort =
    files_port (F.files c.args.files.now) (F.failed c.args.files.now) (F.faults c.args.files.now)
    (F.files c.args.files.now) (F.failed c.args.files.now) (F.faults c.args.files.now) in
    let line = map string_bytes c.args.words.now.items in
    let fault = c.in-Err.fault in
    subst (λ (s : Status). IsRefused line files s c.ended_by.result.why c.ended_by.result.previous)
    (sym (c.ended_by.ensures.status ∙ c.words_outcome.ensures.status))
    (subst (λ (why : Option Refusal). IsRefused line files (status_of_words fault) why c.ended_by.result.previous)
    (sym c.ended_by.ensures.why)
    (subst (λ (previous : Option PreviousRefusal). IsRefused line files (status_of_words fault) c.words_outcome.result.why previous)
    (sym c.ended_by.ensures.previous)
    (words_refused line files fault c.words_outcome.result.why c.in-Err.ensures c.words_outcome.ensures.why)))

pub returns-in-Ok-clause-err : goal.returns-in-Ok-clause-err
returns-in-Ok-clause-err g c =
    let F = g.F.Files in
    let files : FilesPort =
    files_port (F.files c.args.files.now) (F.failed c.args.files.now) (F.faults c.args.files.now)
    (F.files c.configured.new.files) (F.failed c.configured.new.files) (F.faults c.configured.new.files) in
    let line = map string_bytes c.args.words.now.items in
    IfErr-weaker c.configured.result _ _
    (λ ended h. files_refused line files c.in-Ok.own ended.status ended.why ended.previous c.in-Ok.ensures h) c.configured.ensures.err
