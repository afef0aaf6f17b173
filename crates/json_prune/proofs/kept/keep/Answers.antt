use Rattle.std.proofs.Common.{◌≡◌, ◌++◌, [], length, take, drop, ap, ◌∙◌, arith}
use Rattle.std.proofs.lemmas.List.{take_at}
use Rattle.json_prune.specs.Mend.{mend}
use Rattle.json_prune.proofs.MendLemmas.{behind_length}
use Rattle.json_prune.proofs.KeptLemmas.{mended_keeps}
use Rattle.json_prune.proofs.kept.keep.Goals as goal

pub returns-clause-ok : goal.returns-clause-ok
returns-clause-ok c =
    let items = c.in_ok-kept.kept.items in
    let len = c.in_ok-kept.kept.len in
    let new = c.mend.new.text in
    let is : new ≡ mend items = c.mend.ensures ∙ ap mend c.deref_mut.ensures.value in
    let size : length new ≡ len = omega (arith, ap length is, behind_length [] items, c.in_ok-kept.kept.ok.0) in
    mended_keeps c.args.omit c.args.text.now items (take len (new ++ drop (length new) items)) c.in_ok-kept.ensures.ok (take_at new (drop (length new) items) len size ∙ is)
