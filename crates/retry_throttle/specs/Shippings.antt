-- Batches that are sent one after another.
use Rattle.std.specs.Prelude.{◌≡◌, ◌+◌, ℕ, List, [], ◌∷◌, ◌++◌}
use Rattle.front_base.specs.Line.{Line}
use Rattle.truncate_backend.specs.Tries.{Try}
use Rattle.retry_throttle.specs.Buckets.{Level}
use Rattle.retry_throttle.specs.Sendings.{Rules, Post, Delivery, Delivers, tries_of, asked_at, moments_at, rests_at}
use Rattle.retry_throttle.specs.declared.sent.Sent.{Sent}

-- these batches were sent, each after all posts of those before it, and this became of each
abbrev pub Ships : Rules → (List Line → List ℕ) → Level → List (List Line) → List (Delivery × Sent) → Level → Type 0
Ships rules text b [] [] n = n ≡ b
Ships rules text b [] (d ∷ ds) n = ⊥
Ships rules text b (lines ∷ batches) [] n = ⊥
Ships rules text b (lines ∷ batches) (d ∷ ds) n = (m : Level) × Delivers rules text lines b d.0 d.1 m × Ships rules text m batches ds n

-- the tries of all posts
abbrev pub all_tries : List (Delivery × Sent) → List Try
all_tries [] = []
all_tries (d ∷ ds) = tries_of d.0.posts ++ all_tries ds

-- all moments at which the bucket was asked
abbrev pub all_asked : List (Delivery × Sent) → List ℕ
all_asked [] = []
all_asked (d ∷ ds) = asked_at d.0 ++ all_asked ds

-- all moments that the clock gave
abbrev pub all_moments : List (Delivery × Sent) → List ℕ
all_moments [] = []
all_moments (d ∷ ds) = moments_at d.0 ++ all_moments ds

-- how often it rested
abbrev pub all_rests : List (Delivery × Sent) → ℕ
all_rests [] = 0
all_rests (d ∷ ds) = rests_at d.0 + all_rests ds

-- the moments at which the tokens of posts were taken
abbrev pub taken_at : List Post → List ℕ
taken_at [] = []
taken_at (p ∷ ps) = p.taken ∷ taken_at ps

abbrev pub all_taken : List (Delivery × Sent) → List ℕ
all_taken [] = []
all_taken (d ∷ ds) = taken_at d.0.posts ++ all_taken ds
