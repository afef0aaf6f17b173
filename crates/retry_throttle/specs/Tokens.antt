-- The moments at which a bucket gives a token.
use Rattle.std.specs.Prelude.{◌+◌, ℕ, List, [], ◌∷◌, nat_le, ◌&&◌, if◌then◌else◌}
use Rattle.retry_throttle.specs.Buckets.{Level, gives, asked}

-- those of these at which it gives one, when it is asked at each of them
abbrev pub tokens : Level → List ℕ → List ℕ
tokens b [] = []
tokens b (m ∷ ms) = (if gives b m then m ∷ tokens (asked b m) ms else tokens (asked b m) ms)

-- how many of them are from one moment to another
abbrev pub count_between : ℕ → ℕ → List ℕ → ℕ
count_between a b [] = 0
count_between a b (m ∷ ms) = (if nat_le a m && nat_le m b then 1 + count_between a b ms else count_between a b ms)
