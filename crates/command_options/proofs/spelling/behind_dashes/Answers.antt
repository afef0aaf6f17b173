use Rattle.std.proofs.Common.{◌≡◌, ℕ, List, Option, Some, None, option_map, Bor, true, false, codes, refl, sym, ap, ◌∙◌}
use Rattle.std.specs.Prelude.{MatchOption, drop, nat_eq}
use Rattle.std.specs.List.{starts_with}
use Rattle.std.specs.Str.Pattern.{FindsTextPrefix, StripsPrefix}
use Rattle.std.proofs.lemmas.Str.Pattern.{starts_text}
use Rattle.command_options.specs.Spelling.{behind_dashes}
use Rattle.command_options.proofs.spelling.behind_dashes.Goals as goal

stripped : (word : List ℕ) (r : Option (Bor (List ℕ)))
    → MatchOption r (FindsTextPrefix (codes "--") word None) (λ x. StripsPrefix (FindsTextPrefix (codes "--")) word x.now)
    → option_map (λ text. text.now) r ≡ behind_dashes word
unfolding behind_dashes
stripped word None h =
    let e : false ≡ starts_with nat_eq word (codes "--") = starts_text false (codes "--") word h in
    rw (sym e) refl
stripped word (Some x) h =
    let e : true ≡ starts_with nat_eq word (codes "--") = starts_text true (codes "--") word (h.0, h.1, rw h.1.0 h.1.2) in
    rw (sym e) (ap Some (h.2 ∙ ap (λ n. drop n word) h.1.0))

pub returns : goal.returns
returns c = stripped c.args.word.now c.strip_prefix.result c.strip_prefix.ensures.cases
