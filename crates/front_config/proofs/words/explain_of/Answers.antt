use Rattle.std.proofs.Common.{◌≡◌, ◌∙◌, ap, codes, map, string_bytes, sym, Ok}
use Rattle.json_value.specs.Results.{◌>>=◌}
use Rattle.std.proofs.lemmas.Result.{err_from_is_err_and}
use Rattle.command_options.specs.Options.{given_of, given_with, is_memory, with_flag}
use Rattle.front_config.specs.Words.{explain_by, explain_names, explain_of}
use Rattle.front_config.proofs.FaultLemmas.{fails_first}
use Rattle.front_config.proofs.words.explain_of.Goals as goal

pub returns-in_err-words : goal.returns-in_err-words
unfolding explain_of given_with
returns-in_err-words c =
    let p = err_from_is_err_and c.from_residual.result c.from_residual.ensures.1 in
    let fault = c.in_err-words.field-0.0 in
    let own = with_flag (codes "routes") (map string_bytes c.args.words.now) in
    rw (p.1, p.2) (fails_first is_memory fault (own >>= given_of explain_names) explain_by (fails_first is_memory fault own (given_of explain_names) c.in_err-words.ensures))

pub returns-in-Ok : goal.returns-in-Ok
unfolding explain_of given_with
returns-in-Ok c =
    let own = ap (map string_bytes) c.as_slice.ensures.value in
    let e : given_of explain_names (map string_bytes c.in_ok-words.words.items) ≡ Ok c.in-Ok.options = ap (given_of explain_names) (sym own) ∙ c.in-Ok.ensures in
    rw (c.in_ok-words.ensures, e) c.explain_by.ensures

pub returns : goal.returns
unfolding explain_of given_with
returns c =
    let own = ap (map string_bytes) c.as_slice.ensures.value in
    let due = rw own at c.in-Err.ensures in
    rw c.in_ok-words.ensures (fails_first is_memory c.in-Err.fault (given_of explain_names (map string_bytes c.in_ok-words.words.items)) explain_by due)
