use Rattle.std.proofs.Common.{◌≡◌, ℕ, ◌<◌, ◌==◌, true, false, List, length, Option, Some, None, option_map, Bor, refl, ap, arith}
use Rattle.std.specs.Prelude.{MatchOption, nat_lt}
use Rattle.std.specs.List.{position_or_len, before_first, after_first}
use Rattle.std.proofs.lemmas.Str.Pattern.{split_once_first}
use Rattle.std.proofs.lemmas.Bool.Decides.{nat_tests}
use Rattle.front_base.specs.Cut as spec
use Rattle.front_base.proofs.cut.cut_at.Goals as goal

lt_not : (a b : ℕ) → a ≡ b → nat_lt a b ≡ false
lt_not a b e = grind (arith, nat_tests, e)

lt_is : (a b : ℕ) → a < b → nat_lt a b ≡ true
lt_is a b h = grind (arith, nat_tests, h)

cut_is : (at : ℕ) (text : List ℕ) (r : Option (Bor (List ℕ) × Bor (List ℕ)))
    → MatchOption r (position_or_len (λ b. b == at) text ≡ length text)
    (λ x. (position_or_len (λ b. b == at) text < length text) × (x.0.now ≡ before_first (λ b. b == at) text)
    × (x.1.now ≡ after_first (λ b. b == at) text))
    → option_map (λ parts. (parts.0.now, parts.1.now)) r ≡ spec.cut_at at text
unfolding spec.cut_at
cut_is at text None h = rw (lt_not _ _ h) refl
cut_is at text (Some x) h =
    let e : nat_lt (position_or_len (λ b. b == at) text) (length text) ≡ true = lt_is _ _ h.0 in
    let parts : (x.0.now, x.1.now) ≡ (before_first (λ b. b == at) text, after_first (λ b. b == at) text) = rw (h.1, h.2) refl in
    rw e (ap Some parts)

pub returns : goal.returns
returns c = cut_is c.args.at c.args.text.now c.split_once.result
    (split_once_first c.args.at c.args.text.now c.split_once.result c.split_once.ensures.cases c.requires)
