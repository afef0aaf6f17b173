use Rattle.std.proofs.Common.{◌≡◌, ℕ, ◌-◌, ◌<◌, ◌==◌, false, List, [], ◌∷◌, refl, length, take, drop, sym, ◌∙◌, arith}
use Rattle.std.proofs.lemmas.Bool.Decides.{Decides-eqb, nat_tests}
use Rattle.std.proofs.Math.Seq.{take-length}
use Rattle.apiservice_table.proofs.FindLemmas.{rest_some, rest_none}
use Rattle.apiservice_table.proofs.place.compare_rest.Goals as goal

not_zero : (n : ℕ) → (n == 0) ≡ false → 0 < n
not_zero n e = grind (arith, nat_tests, e)

-- all behind the first
all_behind : (xs : List ℕ) → take (length xs - 1) (drop 1 xs) ≡ drop 1 xs
all_behind [] = refl
all_behind (x ∷ xs) = let n : length (x ∷ xs) - 1 ≡ length xs = omega arith in rw n (take-length xs)

pub returns-then-is_empty : goal.returns-then-is_empty
returns-then-is_empty c =
    sym (rest_none c.args.rest.now c.args.group.now
    ((Decides-eqb (length c.args.rest.now) 0).0 (sym c.is_empty.ensures ∙ c.if-is_empty.true)))

pub returns : goal.returns
returns c =
    let some : 0 < length c.args.rest.now = not_zero (length c.args.rest.now) (sym c.is_empty.ensures ∙ c.if-is_empty.false) in
    let all : take (length c.args.rest.now - 1) (drop 1 c.args.rest.now) ≡ drop 1 c.args.rest.now = all_behind c.args.rest.now in
    rw (c.then.ensures, c.cmp-dot.ensures, rw all at c.cmp.ensures) (sym (rest_some c.args.rest.now c.args.group.now some))
