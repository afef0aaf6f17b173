-- How long a batch waits before it is posted again.
use Rattle.std.specs.Prelude.{◌≡◌, ◌≤◌, ◌<◌, ◌+◌, ◌*◌, ◌⊎◌, min, ℕ, zero, suc, nat_eq, if◌then◌else◌, List, [], ◌∷◌, ◌++◌, length, All}
use Rattle.retry_throttle.specs.declared.pause.TheConstants.{MOST_RESTS, MOST_WAIT}

-- the wait after another one, in microseconds: the first, and then twice as long, up to the longest
abbrev pub next_wait : ℕ → ℕ → ℕ
next_wait first wait = (if nat_eq wait 0 then first else min (wait * 2) MOST_WAIT)

-- the wait of a batch that was posted so often: none before its first post
abbrev pub wait_after : ℕ → ℕ → ℕ
wait_after first zero = 0
wait_after first (suc posts) = next_wait first (wait_after first posts)

-- the clock gave a moment, and another one after each rest, up to one that is so much later, or as often as it may rest
pub record PausesFor (wait : ℕ) (moments : List ℕ) : Type 0 where
  pub first : ℕ
  pub early : List ℕ
  pub last : ℕ
  pub moments_are : moments ≡ first ∷ (early ++ last ∷ [])
  pub before : All (λ m. m < first + wait) early
  pub few : length early < MOST_RESTS
  pub ends : (first + wait ≤ last) ⊎ (length early + 1 ≡ MOST_RESTS)

-- the same, and no moment for no wait
abbrev pub Pauses : ℕ → List ℕ → Type 0
Pauses zero moments = moments ≡ []
Pauses (suc wait) moments = PausesFor (suc wait) moments

-- how often the clock rested: after the first moment once before each
abbrev pub rests_in : List ℕ → ℕ
rests_in [] = 0
rests_in (first ∷ moments) = length moments
