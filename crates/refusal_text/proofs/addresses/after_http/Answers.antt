use Rattle.std.proofs.Common.{◌≡◌, ℕ, List, Option, Some, None, option_map, Bor, true, false, codes, refl, sym, ap, ◌∙◌}
use Rattle.std.specs.Prelude.{MatchOption, drop, nat_eq}
use Rattle.std.specs.List.{starts_with}
use Rattle.std.specs.Str.Pattern.{FindsTextPrefix, StripsPrefix}
use Rattle.std.proofs.lemmas.Str.Pattern.{starts_text}
use Rattle.refusal_text.specs.Text.{after}
use Rattle.refusal_text.proofs.addresses.after_http.Goals as goal

stripped : (url : List ℕ) (r : Option (Bor (List ℕ)))
    → MatchOption r (FindsTextPrefix (codes "http://") url None) (λ x. StripsPrefix (FindsTextPrefix (codes "http://")) url x.now)
    → option_map (λ rest. rest.now) r ≡ after (codes "http://") url
stripped url None h =
    let e : false ≡ starts_with nat_eq url (codes "http://") = starts_text false (codes "http://") url h in
    rw (sym e) refl
stripped url (Some x) h =
    let e : true ≡ starts_with nat_eq url (codes "http://") = starts_text true (codes "http://") url (h.0, h.1, rw h.1.0 h.1.2) in
    rw (sym e) (ap Some (h.2 ∙ ap (λ n. drop n url) h.1.0))

pub returns : goal.returns
returns c = stripped c.args.url.now c.strip_prefix.result c.strip_prefix.ensures.cases
