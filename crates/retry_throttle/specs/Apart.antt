-- How far the posts of a batch are apart.
use Rattle.std.specs.Prelude.{◌≡◌, ◌≤◌, ◌+◌, ◌⊎◌, ℕ, List, [], ◌∷◌, ⊤}
use Rattle.retry_throttle.specs.Pauses.{rests_in, wait_after}
use Rattle.retry_throttle.specs.Sendings.{Rules, Post}
use Rattle.retry_throttle.specs.declared.pause.TheConstants.{MOST_RESTS}

-- after so many posts, the last of which had its token at this moment, the token of each further one is later by its wait, or the clock rested
-- as often as it may in the wait
abbrev pub Follow : Rules → ℕ → ℕ → List Post → Type 0
Follow rules earlier taken [] = ⊤
Follow rules earlier taken (p ∷ ps) =
    ((taken + wait_after rules.wait earlier ≤ p.taken) ⊎ (rests_in p.paused ≡ MOST_RESTS)) × Follow rules (earlier + 1) p.taken ps

-- the same of all posts of a batch
abbrev pub AreApart : Rules → List Post → Type 0
AreApart rules [] = ⊤
AreApart rules (p ∷ ps) = Follow rules 1 p.taken ps
