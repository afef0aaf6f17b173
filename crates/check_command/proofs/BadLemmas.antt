-- One line more of those that don't conform.
use Rattle.std.proofs.Common.{◌≡◌, ◌<◌, ◌≤◌, ◌+◌, ℕ, Bool, true, false, List, [], ◌∷◌, ◌++◌, length, take, refl, sym, ap, ◌∙◌, arith, length-append}
use Rattle.std.specs.Prelude.{min, nat_le}
use Rattle.std.proofs.lemmas.Bool.{leb-true}
use Rattle.std.proofs.lemmas.Bool.Decides.{nat_tests}
use Rattle.std.proofs.lemmas.List.{length-take, length-take-le, take-append-le, take_all}
use Rattle.std.proofs.Math.Nat.{min-le_right}
use Rattle.check_command.specs.Reviews.{KeepsList}
use Rattle.check_command.specs.declared.bad_lines.BadLine.{BadLine}
use Rattle.check_command.specs.declared.bad_lines.BadLines.{BadLines}
use Rattle.check_command.specs.declared.bad_lines.TheConstants.{MOST_LISTED}

at_least : (n : ℕ) (xs : List BadLine) → n ≤ length (take n xs) → n ≤ length xs
at_least n xs h = let size = length-take n xs in let less = min-le_right n (length xs) in omega (arith, h, size, less)

fewer : (m n : ℕ) → nat_le n m ≡ false → m < n
fewer m n e = grind (arith, nat_tests, e)

fewer_by : (n : ℕ) (xs : List BadLine) (b : Bool) → nat_le n (length xs) ≡ b → length (take n xs) < n → length xs < n
fewer_by n xs true e h = let size = length-take-le n xs (leb-true n (length xs) e) in absurd (omega (arith, size, h))
fewer_by n xs false e h = fewer (length xs) n e

pub listed_full : (bad first : List BadLine) (line : BadLine) → first ≡ take MOST_LISTED bad → MOST_LISTED ≤ length first
    → first ≡ take MOST_LISTED (bad ++ line ∷ [])
listed_full bad first line e h =
    let size = ap length e in
    e ∙ sym (take-append-le MOST_LISTED bad (line ∷ []) (at_least MOST_LISTED bad (omega (arith, h, size))))

pub listed_room : (bad first new : List BadLine) (line : BadLine) → first ≡ take MOST_LISTED bad → length first < MOST_LISTED
    → new ≡ first ++ line ∷ [] → new ≡ take MOST_LISTED (bad ++ line ∷ [])
listed_room bad first new line e h k =
    let size = ap length e in
    let few = fewer_by MOST_LISTED bad (nat_le MOST_LISTED (length bad)) refl (omega (arith, h, size)) in
    let more = length-append bad (line ∷ []) in
    k
    ∙ (ap (λ (l : List BadLine). l ++ line ∷ []) (e ∙ take_all MOST_LISTED bad (omega (arith, few)))
    ∙ sym (take_all MOST_LISTED (bad ++ line ∷ []) (omega (arith, few, more))))

pub keeps_list : (old new : BadLines) → new.first.items ≡ old.first.items → new.count ≡ old.count → KeepsList old new
keeps_list old new e same = λ bad l. record { first = e ∙ l.first; count = same ∙ l.count }
