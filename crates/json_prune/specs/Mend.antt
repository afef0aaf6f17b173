-- Strings without halves of surrogate pairs (RFC 8259, section 8.2), for which readers as Go's `encoding/json` have the
-- replacement character.
use Rattle.std.specs.Prelude.{ℕ, ◌==◌, ◌||◌, ◌&&◌, Bool, true, false, List, [], ◌∷◌, ◌++◌, codes, take, if◌then◌else◌}
use Rattle.json_span.specs.Strings.{is, within, is_hex}
use Rattle.json_span.specs.Value.{Value, token, array, object, Items, no_items, item, Members, no_members, member}

abbrev pub is_d : ℕ → Bool
is_d b = (b == 68) || (b == 100)

-- `8` to `b`
abbrev pub is_high_digit : ℕ → Bool
is_high_digit b = within 56 57 b || within 65 66 b || within 97 98 b

-- `c` to `f`
abbrev pub is_low_digit : ℕ → Bool
is_low_digit b = within 67 70 b || within 99 102 b

-- the first bytes pass these tests, each its own
abbrev pub begins : List (ℕ → Bool) → List ℕ → Bool
begins [] bs = true
begins (p ∷ ps) [] = false
begins (p ∷ ps) (b ∷ bs) = p b && begins ps bs

-- what follows the backslash of an escape of a pair's first half, of its second, and of both
abbrev pub high : List (ℕ → Bool)
high = is 117 ∷ is_d ∷ is_high_digit ∷ is_hex ∷ is_hex ∷ []

abbrev pub low : List (ℕ → Bool)
low = is 117 ∷ is_d ∷ is_low_digit ∷ is_hex ∷ is_hex ∷ []

abbrev pub pair : List (ℕ → Bool)
pair = high ++ is 92 ∷ low

-- what stands in the place of the bytes behind a backslash: a pair stays, a half is replaced, and of another escape the
-- first byte stays
abbrev pub instead : List ℕ → List ℕ
instead bs =
    if begins pair bs then take 11 bs else if begins high bs || begins low bs then codes "ufffd" else take 1 bs

-- the bytes, of which the first are replaced by others
abbrev pub mend_behind : List ℕ → List ℕ → List ℕ
mend_behind rs [] = []
mend_behind (r ∷ rs) (b ∷ bs) = r ∷ mend_behind rs bs
mend_behind [] (b ∷ bs) = b ∷ mend_behind (if b == 92 then instead bs else []) bs

-- the bytes with `\ufffd` for each escape of half a pair
abbrev pub mend : List ℕ → List ℕ
mend = mend_behind []

-- the value with all its strings mended; no other token has a backslash
abbrev mutual
  pub mended : Value → Value
  mended (token t) = token (mend t)
  mended (array vs) = array (mended_items vs)
  mended (object ms) = object (mended_members ms)

  pub mended_items : Items → Items
  mended_items no_items = no_items
  mended_items (item v vs) = item (mended v) (mended_items vs)

  pub mended_members : Members → Members
  mended_members no_members = no_members
  mended_members (member n v ms) = member (mend n) (mended v) (mended_members ms)
