-- Texts in two parts.
use Rattle.std.specs.Prelude.{ℕ, ◌==◌, nat_lt, if◌then◌else◌, List, length, Option, Some, None}
use Rattle.std.specs.List.{position_or_len, before_first, after_first}

-- what stands before and after the first byte of that kind
unfoldable pub cut_at : ℕ → List ℕ → Option (List ℕ × List ℕ)
cut_at at text =
    if nat_lt (position_or_len (λ b. b == at) text) (length text) then
    Some (before_first (λ b. b == at) text, after_first (λ b. b == at) text)
    else None
