-- Names with `-` for each `_`.
use Rattle.std.proofs.Common.{◌≡◌, ℕ, true, false, List, [], ◌∷◌, length, take, refl, sym, ap, ◌∙◌, arith}
use Rattle.std.specs.Char.{to_ascii_lowercase}
use Rattle.std.specs.Str.{str_to_ascii_lowercase}
use Rattle.std.proofs.lemmas.Bool.{false_from_ne_true}
use Rattle.std.proofs.lemmas.Bool.Decides.{nat_tests}
use Rattle.std.proofs.lemmas.List.{take-map}
use Rattle.std.proofs.lemmas.Slice.Eq.{bytes_eq-Decides}
use Rattle.http_head.specs.Name.{name_begins}
use Rattle.forward_link.specs.Dashed.{dash, dashed}

lower_dash : (b : ℕ) → to_ascii_lowercase (dash b) ≡ dash (to_ascii_lowercase b)
lower_dash b = grind (arith, nat_tests)

lower_dashed : (xs : List ℕ) → str_to_ascii_lowercase (dashed xs) ≡ dashed (str_to_ascii_lowercase xs)
lower_dashed [] = refl
lower_dashed (b ∷ bs) = ap (λ x. x ∷ str_to_ascii_lowercase (dashed bs)) (lower_dash b) ∙ ap (λ l. dash (to_ascii_lowercase b) ∷ l) (lower_dashed bs)

-- a name that begins so still does. `plain` is by computation at a prefix without `_`
begins_still : (prefix own : List ℕ) → dashed (str_to_ascii_lowercase prefix) ≡ str_to_ascii_lowercase prefix
    → name_begins prefix own ≡ true → name_begins prefix (dashed own) ≡ true
begins_still prefix own plain e =
    let front = take (length prefix) own in
    let same : str_to_ascii_lowercase front ≡ str_to_ascii_lowercase prefix = (bytes_eq-Decides (str_to_ascii_lowercase front) (str_to_ascii_lowercase prefix)).0 e in
    (bytes_eq-Decides (str_to_ascii_lowercase (take (length prefix) (dashed own))) (str_to_ascii_lowercase prefix)).1
    (ap str_to_ascii_lowercase (take-map dash (length prefix) own) ∙ lower_dashed front ∙ ap dashed same ∙ plain)

pub begins_not : (prefix own : List ℕ) → dashed (str_to_ascii_lowercase prefix) ≡ str_to_ascii_lowercase prefix
    → name_begins prefix (dashed own) ≡ false → name_begins prefix own ≡ false
begins_not prefix own plain e =
    false_from_ne_true (name_begins prefix own) (λ f. let g : true ≡ false = sym (begins_still prefix own plain f) ∙ e in cc)
