-- How many tokens a bucket gives between two moments.
use Rattle.std.proofs.Common.{◌≡◌, ◌<◌, ◌≤◌, ◌+◌, ◌-◌, ◌*◌, ◌/◌, ⊎_elim, ℕ, Bool, true, false, ◌&&◌, if◌then◌else◌, nat_le, List, [], ◌∷◌, refl, sym, ap, ◌∙◌, subst, arith}
use Rattle.std.proofs.Math.Nat.{mul-add, mul-le-mul_left}
use Rattle.std.proofs.lemmas.Bool.Decides.{nat_tests}
use Rattle.std.proofs.lemmas.Bool.{cases_lt}
use Rattle.retry_throttle.specs.Buckets.{Level, full, level_at, gives, asked}
use Rattle.retry_throttle.specs.Clocks.{IsRising}
use Rattle.retry_throttle.specs.Tokens.{tokens, count_between}
use Rattle.retry_throttle.specs.declared.bucket.TheConstants.{TOKEN}

-- what is gained from one moment to another, and on to a third
gain_join : (rate a m b : ℕ) → a ≤ m → m ≤ b → rate * (m - a) + rate * (b - m) ≡ rate * (b - a)
gain_join rate a m b h k =
    let e : m - a + (b - m) ≡ b - a = omega (arith, h, k) in
    sym (mul-add rate (m - a) (b - m)) ∙ ap (λ d. rate * d) e

gain_more : (rate a m b : ℕ) → a ≤ m → rate * (b - m) ≤ rate * (b - a)
gain_more rate a m b h = mul-le-mul_left rate (omega (arith, h))

-- one moment more counts once at most, and after the last of the two not at all
count_one : (a b m : ℕ) (ms : List ℕ) → count_between a b (m ∷ ms) ≤ 1 + count_between a b ms
count_one a b m ms = by (nat_le a m && nat_le m b)
  where
    by : (g : Bool) → (if g then 1 + count_between a b ms else count_between a b ms) ≤ 1 + count_between a b ms
    by true = omega arith
    by false = omega arith

count_late : (a b m : ℕ) (ms : List ℕ) → b < m → count_between a b (m ∷ ms) ≡ count_between a b ms
count_late a b m ms h =
    let e : (nat_le a m && nat_le m b) ≡ false = grind (arith, nat_tests, h) in
    ap (λ g. if g then 1 + count_between a b ms else count_between a b ms) e

count_early : (a b m : ℕ) (ms : List ℕ) → m < a → count_between a b (m ∷ ms) ≡ count_between a b ms
count_early a b m ms h =
    let e : (nat_le a m && nat_le m b) ≡ false = grind (arith, nat_tests, h) in
    ap (λ g. if g then 1 + count_between a b ms else count_between a b ms) e

none_step : (a b m : ℕ) (s : Level) (ms : List ℕ) → b < m → count_between a b (tokens (asked s m) ms) ≡ 0 → (g : Bool)
    → count_between a b (if g then m ∷ tokens (asked s m) ms else tokens (asked s m) ms) ≡ 0
none_step a b m s ms h rest true = count_late a b m (tokens (asked s m) ms) h ∙ rest
none_step a b m s ms h rest false = rest

none_after : (a b last : ℕ) (s : Level) (ms : List ℕ) → b < last → IsRising last ms → count_between a b (tokens s ms) ≡ 0
none_after a b last s [] h r = refl
none_after a b last s (m ∷ ms) h r =
    let k : b < m = omega (arith, h, r.0) in
    none_step a b m s ms k (none_after a b m (asked s m) ms k r.1) (gives s m)

-- a token that is taken is paid
one_more : (a b : ℕ) (s : Level) (m : ℕ) (ms : List ℕ)
    → TOKEN * count_between a b (tokens (asked s m) ms) ≤ (asked s m).level + s.rate * (b - m)
    → TOKEN * count_between a b (tokens s (m ∷ ms)) ≤ level_at s m + s.rate * (b - m)
one_more a b s m ms ih = by (gives s m) refl
  where
    by : (g : Bool) → gives s m ≡ g
        → TOKEN * count_between a b (if g then m ∷ tokens (asked s m) ms else tokens (asked s m) ms) ≤ level_at s m + s.rate * (b - m)
    by true e =
        let paid : (asked s m).level ≡ level_at s m - TOKEN = ap (λ g. if g then level_at s m - TOKEN else level_at s m) e in
        let whole : TOKEN ≤ level_at s m = grind (arith, nat_tests, e) in
        omega (arith, ih, paid, whole, count_one a b m (tokens (asked s m) ms))
    by false e =
        let kept : (asked s m).level ≡ level_at s m = ap (λ g. if g then level_at s m - TOKEN else level_at s m) e in
        omega (arith, ih, kept)

-- from the last moment on
abbrev IsLow : ℕ → ℕ → Level → List ℕ → Type 0
IsLow a b s ms = TOKEN * count_between a b (tokens s ms) ≤ s.level + s.rate * (b - s.last)

low_late : (a b : ℕ) (s : Level) (m : ℕ) (ms : List ℕ) → IsRising m ms → b < m → IsLow a b s (m ∷ ms)
low_late a b s m ms r k =
    let z : count_between a b (tokens s (m ∷ ms)) ≡ 0 = none_after a b m s (m ∷ ms) k (omega arith, r) in
    omega (arith, z)

low_soon : (a b : ℕ) (s : Level) (m : ℕ) (ms : List ℕ) → s.last ≤ m → (m ≤ b → IsLow a b (asked s m) ms) → m ≤ b → IsLow a b s (m ∷ ms)
low_soon a b s m ms r ih k =
    let more = one_more a b s m ms (ih k) in
    let most : level_at s m ≤ s.level + s.rate * (m - s.last) = omega arith in
    omega (arith, more, most, gain_join s.rate s.last m b r k)

low : (a b : ℕ) (s : Level) (ms : List ℕ) → IsRising s.last ms → s.last ≤ b → IsLow a b s ms
low a b s [] r h = omega arith
low a b s (m ∷ ms) r h = ⊎_elim (low_late a b s m ms r.1) (low_soon a b s m ms r.0 (low a b (asked s m) ms r.1)) (cases_lt b m)

-- from the first of the two moments on
abbrev IsHigh : ℕ → ℕ → Level → List ℕ → Type 0
IsHigh a b s ms = TOKEN * count_between a b (tokens s ms) ≤ s.burst * TOKEN + s.rate * (b - a)

high_step : (a b : ℕ) (s : Level) (m : ℕ) (ms : List ℕ) → m < a → IsHigh a b (asked s m) ms → (g : Bool)
    → TOKEN * count_between a b (if g then m ∷ tokens (asked s m) ms else tokens (asked s m) ms) ≤ s.burst * TOKEN + s.rate * (b - a)
high_step a b s m ms k rest true =
    subst (λ c. TOKEN * c ≤ s.burst * TOKEN + s.rate * (b - a)) (sym (count_early a b m (tokens (asked s m) ms) k)) rest
high_step a b s m ms k rest false = rest

high_early : (a b : ℕ) (s : Level) (m : ℕ) (ms : List ℕ) → IsHigh a b (asked s m) ms → m < a → IsHigh a b s (m ∷ ms)
high_early a b s m ms ih k = high_step a b s m ms k ih (gives s m)

high_late : (a b : ℕ) (s : Level) (m : ℕ) (ms : List ℕ) → IsRising m ms → a ≤ m → IsHigh a b s (m ∷ ms)
high_late a b s m ms r k = ⊎_elim after within (cases_lt b m)
  where
    after : b < m → IsHigh a b s (m ∷ ms)
    after j =
        let z : count_between a b (tokens s (m ∷ ms)) ≡ 0 = none_after a b m s (m ∷ ms) j (omega arith, r) in
        omega (arith, z)

    within : m ≤ b → IsHigh a b s (m ∷ ms)
    within j =
        let more = one_more a b s m ms (low a b (asked s m) ms r j) in
        let held : level_at s m ≤ s.burst * TOKEN = omega arith in
        omega (arith, more, held, gain_more s.rate a m b k)

still_held : (s : Level) (m : ℕ) → (asked s m).level ≤ s.burst * TOKEN
still_held s m = by (gives s m)
  where
    by : (g : Bool) → (if g then level_at s m - TOKEN else level_at s m) ≤ s.burst * TOKEN
    by true = omega arith
    by false = omega arith

high : (a b : ℕ) (s : Level) (ms : List ℕ) → s.level ≤ s.burst * TOKEN → IsRising s.last ms → IsHigh a b s ms
high a b s [] w r = omega arith
high a b s (m ∷ ms) w r =
    ⊎_elim (high_early a b s m ms (high a b (asked s m) ms (still_held s m) r.1)) (high_late a b s m ms r.1) (cases_lt m a)

-- whole tokens
whole : (n burst gain : ℕ) → TOKEN * n ≤ burst * TOKEN + gain → n ≤ burst + gain / TOKEN
whole n burst gain h = omega (arith, h)

pub few_between : (rate burst first : ℕ) (ms : List ℕ) (a b : ℕ) → IsRising first ms
    → count_between a b (tokens (full rate burst first) ms) ≤ burst + rate * (b - a) / TOKEN
few_between rate burst first ms a b r =
    whole (count_between a b (tokens (full rate burst first) ms)) burst (rate * (b - a))
    (high a b (full rate burst first) ms (omega arith) r)
