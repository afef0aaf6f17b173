use Rattle.std.proofs.lemmas.Bool.Decides.{Decides-eqb}
use Rattle.std.proofs.lemmas.Slice.Eq.{strip_prefix_is}
use Rattle.event_members.proofs.WordLemmas.{is_after}
use Rattle.event_members.proofs.json_string.after_if.Goals as goal

pub returns : goal.returns
returns c =
    let bytes = c.args.bytes.now in
    let word = c.args.word.now in
    is_after word bytes c.strip_prefix.result (strip_prefix_is Decides-eqb bytes word c.strip_prefix.result c.strip_prefix.ensures.cases)
