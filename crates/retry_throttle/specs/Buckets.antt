-- A token bucket: what it holds, and when it gives a token.
use Rattle.std.specs.Prelude.{◌≤◌, ◌+◌, ◌-◌, ◌*◌, min, ℕ, Bool, nat_le, if◌then◌else◌}
use Rattle.retry_throttle.specs.declared.bucket.TheConstants.{TOKEN}

-- how many tokens it gains a second, and how many it holds at most; what it holds, in millionths of a token, and the moment at which it
-- held that
pub record Level : Type 0 where
  pub rate : ℕ
  pub burst : ℕ
  pub level : ℕ
  pub last : ℕ

-- it begins full
abbrev pub full : ℕ → ℕ → ℕ → Level
full rate burst now = record { rate = rate; burst = burst; level = burst * TOKEN; last = now }

-- what it holds at a moment: a microsecond adds as many millionths as a second adds tokens, until it is full
abbrev pub level_at : Level → ℕ → ℕ
level_at b now = min (b.burst * TOKEN) (b.level + b.rate * (now - b.last))

-- it gives a token where it holds a whole one
abbrev pub gives : Level → ℕ → Bool
gives b now = nat_le TOKEN (level_at b now)

-- it was asked for a token at a moment
abbrev pub asked : Level → ℕ → Level
asked b now = record {
  rate = b.rate;
  burst = b.burst;
  level = (if gives b now then level_at b now - TOKEN else level_at b now);
  last = now;
}

-- what every bucket keeps: it holds at most what it may
pub record IsWithin (b : Level) : Type 0 where
  pub some : 1 ≤ b.burst
  pub slow : b.rate ≤ 1000
  pub small : b.burst ≤ 1000
  pub held : b.level ≤ b.burst * TOKEN
