-- Batches that a sender sends one after another.
use Rattle.std.specs.Prelude.{◌≡◌, ◌+◌, ◌-◌, ◌^◌, min, ℕ, List, [], ◌∷◌, length}
use Rattle.front_base.specs.Line.{Line}
use Rattle.truncate_backend.specs.Told.{Joined}
use Rattle.truncate_backend.specs.Tries.{SinkTells}
use Rattle.retry_throttle.specs.Buckets.{Level}
use Rattle.retry_throttle.specs.Clocks.{ClockTells, Passed}
use Rattle.retry_throttle.specs.Sendings.{Rules, Delivery, Sends}
use Rattle.retry_throttle.specs.Shippings.{Ships, all_tries, all_moments, all_rests}
use Rattle.retry_throttle.specs.declared.sent.Sent.{Sent}
use Rattle.retry_throttle.specs.declared.sent.Sent.TheVariants.{Done, GaveUp, Throttled}
use Rattle.log_ship.specs.declared.tally.Tally.{Tally}

-- what a sender tells: its sink, its clock, and its bucket
pub record Side : Type 0 where
  pub sink : SinkTells
  pub clock : ClockTells
  pub bucket : Level

-- one batch was sent
abbrev pub SendsOne : Rules → Side → List Line → Sent → Side → Type 0
SendsOne rules p lines end q = Sends rules lines p.bucket p.sink p.clock end q.bucket q.sink q.clock

-- these batches were sent, one after another, and this became of each
abbrev pub Chain : Rules → Side → List (List Line) → List Sent → Side → Type 0
Chain rules p [] [] q = q ≡ p
Chain rules p [] (end ∷ ends) q = ⊥
Chain rules p (lines ∷ batches) [] q = ⊥
Chain rules p (lines ∷ batches) (end ∷ ends) q = (m : Side) × SendsOne rules p lines end m × Chain rules m batches ends q

abbrev pub ends_of : List (Delivery × Sent) → List Sent
ends_of [] = []
ends_of (d ∷ ds) = d.1 ∷ ends_of ds

-- all of their posts: the sink's tries are joined by theirs, and the clock gave their moments and rested as they say, in order
pub record Posted (rules : Rules) (p : Side) (batches : List (List Line)) (ends : List Sent) (q : Side) : Type 0 where
  pub outcomes : List (Delivery × Sent)
  pub ends_are : ends_of outcomes ≡ ends
  pub ships : Ships rules p.sink.text p.bucket batches outcomes q.bucket
  pub tries : Joined p.sink.tries (all_tries outcomes) q.sink.tries
  pub clock : Passed p.clock (all_moments outcomes) (all_rests outcomes) q.clock

-- ---- counts

-- how many of the lines of a batch are posted, and how many lost; and how often it was posted
abbrev pub posted_of : List Line → Sent → ℕ
posted_of lines (Done posts) = length lines
posted_of lines (GaveUp posts last) = 0
posted_of lines (Throttled posts) = 0

abbrev pub lost_of : List Line → Sent → ℕ
lost_of lines (Done posts) = 0
lost_of lines (GaveUp posts last) = length lines
lost_of lines (Throttled posts) = length lines

abbrev pub posts_of : Sent → ℕ
posts_of (Done posts) = posts
posts_of (GaveUp posts last) = posts
posts_of (Throttled posts) = posts

-- a batch is counted. A count stands at the greatest number of its type
abbrev pub counted : List Line → Sent → Tally → Tally
counted lines end t = record {
  posted = min (t.posted + posted_of lines end) (2 ^ 64 - 1);
  lost = min (t.lost + lost_of lines end) (2 ^ 64 - 1);
  posts = min (t.posts + posts_of end) (2 ^ 64 - 1);
}

-- batches are counted, one after another
abbrev pub tallied : Tally → List (List Line) → List Sent → Tally
tallied t [] ends = t
tallied t (lines ∷ batches) [] = t
tallied t (lines ∷ batches) (end ∷ ends) = tallied (counted lines end t) batches ends
