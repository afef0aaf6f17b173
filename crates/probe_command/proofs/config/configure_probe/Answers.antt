use Rattle.std.proofs.Common.{◌≡◌, ◌≤◌, Ok, ap, sym, subst, ◌∙◌, map, string_bytes}
use Rattle.std.proofs.lemmas.Result.{IfErr-weaker, IfOk-weaker}
use Rattle.command_ends.specs.Ports.{FilesPort, files_port}
use Rattle.command_ends.specs.Why.{status_of_load}
use Rattle.front_config.specs.Load.{AreRead, load_of}
use Rattle.front_config.specs.declared.files.Loaded.{Loaded}
use Rattle.probe_command.specs.Config as spec
use Rattle.probe_command.specs.Token.{HasToken}
use Rattle.probe_command.specs.declared.probe.ProbeWords.{ProbeWords}
use Rattle.probe_command.proofs.ConfigLemmas.{load_refused, on_ok, token_refused, words_refused}
use Rattle.probe_command.proofs.config.configure_probe.Goals as goal

pub returns-in-Ok-load-clause-ok : goal.returns-in-Ok-load-clause-ok
returns-in-Ok-load-clause-ok g c =
    let l = c.in-Ok-load.ensures.loaded in
    IfOk-weaker c.with_token.result _ _ (λ own h. record {
      command = c.in-Ok.ensures.gives ∙ ap (λ (w : ProbeWords). Ok w) (sym h.0);
      reads = l.0;
      read = subst (λ (w : ProbeWords). AreRead (g.F.Files.files c.args.files.now) w.files l.0) (sym h.0) l.1;
      load = subst (λ (w : ProbeWords). load_of w.files l.0 ≡ Ok own.loaded) (sym h.0) (l.2 ∙ ap (λ (x : Loaded). Ok x) (sym h.1));
      token = subst (λ (w : ProbeWords). HasToken (g.T.Files.files c.args.tokens.now) w.token_file own.token) (sym h.0) h.2;
    }) c.with_token.ensures.ok

pub returns-in-Ok-load-clause-err : goal.returns-in-Ok-load-clause-err
returns-in-Ok-load-clause-err g c =
    let l = c.in-Ok-load.ensures.loaded in
    let F = g.F.Files in
    let T = g.T.Files in
    let files : FilesPort =
    files_port (F.files c.args.files.now) (F.failed c.args.files.now) (F.faults c.args.files.now)
    (F.files c.load.new.files) (F.failed c.load.new.files) (F.faults c.load.new.files) in
    let tokens : FilesPort =
    files_port (T.files c.args.tokens.now) (T.failed c.args.tokens.now) (T.faults c.args.tokens.now)
    (T.files c.with_token.new.tokens) (T.failed c.with_token.new.tokens) (T.faults c.with_token.new.tokens) in
    IfErr-weaker c.with_token.result _ _ (λ outcome h.
    token_refused (map string_bytes c.args.words.now.items) files tokens c.in-Ok.told l.0 c.in-Ok-load.loaded outcome.status outcome.why
    c.in-Ok.ensures.gives l.1 l.2 h) c.with_token.ensures.err

pub returns-in-Ok-load-clause-within : goal.returns-in-Ok-load-clause-within
returns-in-Ok-load-clause-within g c =
    IfOk-weaker c.with_token.result _ _ (λ own h.
    subst (λ (w : ProbeWords). (1 ≤ w.threshold) × (w.threshold ≤ 10)) (sym h.0) (c.in-Ok.ensures.least.1, c.in-Ok.ensures.most.1))
    c.with_token.ensures.ok

pub returns-in-Ok-load-clause-sound : goal.returns-in-Ok-load-clause-sound
returns-in-Ok-load-clause-sound g c = on_ok c.with_token.result _ c.in-Ok-load.ensures.sound

pub returns-in-Ok-load-clause-rounds : goal.returns-in-Ok-load-clause-rounds
returns-in-Ok-load-clause-rounds g c =
    IfOk-weaker c.with_token.result _ _ (λ own h. subst (λ (w : ProbeWords). 1 ≤ w.rounds) (sym h.0) c.in-Ok.ensures.least.0) c.with_token.ensures.ok

pub returns-in-Err-load-clause-err : goal.returns-in-Err-load-clause-err
returns-in-Err-load-clause-err g c =
    let l = c.in-Err-load.ensures.loaded in
    let F = g.F.Files in
    let T = g.T.Files in
    let files : FilesPort =
    files_port (F.files c.args.files.now) (F.failed c.args.files.now) (F.faults c.args.files.now)
    (F.files c.load.new.files) (F.failed c.load.new.files) (F.faults c.load.new.files) in
    let tokens : FilesPort =
    files_port (T.files c.args.tokens.now) (T.failed c.args.tokens.now) (T.faults c.args.tokens.now)
    (T.files c.args.tokens.now) (T.failed c.args.tokens.now) (T.faults c.args.tokens.now) in
    let line = map string_bytes c.args.words.now.items in
    let o = c.load_outcome.result in
    subst
    (λ s. spec.IsRefused line files tokens s o.why)
    (sym c.load_outcome.ensures.status)
    (subst
    (λ why. spec.IsRefused line files tokens (status_of_load c.in-Err-load.fault) why)
    (sym c.load_outcome.ensures.why)
    (load_refused line files tokens c.in-Ok.told l.0 c.in-Err-load.fault c.in-Ok.ensures.gives l.1 l.2 c.in-Err-load.ensures.cause))

pub returns-in-Err-clause-err : goal.returns-in-Err-clause-err
returns-in-Err-clause-err g c =
    let F = g.F.Files in
    let T = g.T.Files in
    let files : FilesPort =
    files_port (F.files c.args.files.now) (F.failed c.args.files.now) (F.faults c.args.files.now)
    (F.files c.args.files.now) (F.failed c.args.files.now) (F.faults c.args.files.now) in
    let tokens : FilesPort =
    files_port (T.files c.args.tokens.now) (T.failed c.args.tokens.now) (T.faults c.args.tokens.now)
    (T.files c.args.tokens.now) (T.failed c.args.tokens.now) (T.faults c.args.tokens.now) in
    let line = map string_bytes c.args.words.now.items in
    let o = c.probe_outcome.result in
    subst (λ s. spec.IsRefused line files tokens s o.why) (sym c.probe_outcome.ensures.status)
    (words_refused line files tokens c.in-Err.fault o.why c.in-Err.ensures.gives c.probe_outcome.ensures.why)
