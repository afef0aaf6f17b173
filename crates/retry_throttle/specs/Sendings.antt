-- How batches are sent: the posts of each, and the tokens that they wait for.
use Rattle.std.specs.Prelude.{◌≡◌, ◌≢◌, ◌<◌, ◌≤◌, ◌+◌, ℕ, Bool, true, false, List, [], ◌∷◌, ◌++◌, length, Err, ⊤, All}
use Rattle.front_base.specs.Line.{Line}
use Rattle.truncate_backend.specs.Told.{Joined, Rises}
use Rattle.truncate_backend.specs.Tries.{Try, SinkTells, IsNoted, answer_of}
use Rattle.truncate_backend.specs.declared.tries.SinkFault.{SinkFault}
use Rattle.truncate_backend.specs.declared.tries.TryAnswer.{TryAnswer}
use Rattle.truncate_backend.specs.declared.tries.TryAnswer.TheVariants as answers
use Rattle.retry_throttle.specs.Buckets.{Level, gives, asked}
use Rattle.retry_throttle.specs.Clocks.{ClockTells, Passed}
use Rattle.retry_throttle.specs.Pauses.{Pauses, rests_in, wait_after}
use Rattle.retry_throttle.specs.declared.pause.TheConstants.{MOST_RESTS}
use Rattle.retry_throttle.specs.declared.sent.Sent.{Sent}
use Rattle.retry_throttle.specs.declared.sent.Sent.TheVariants.{Done, GaveUp, Throttled}

-- how often a batch is posted at most, and how long it waits before its second post, in microseconds
pub record Rules : Type 0 where
  pub tries : ℕ
  pub wait : ℕ

-- ---- the bucket

-- at these moments, one after another, the bucket gave no token
abbrev pub Refuses : Level → List ℕ → Level → Type 0
Refuses b [] n = n ≡ b
Refuses b (m ∷ ms) n = (b.last ≤ m) × (gives b m ≡ false) × Refuses (asked b m) ms n

-- it gave no token at fewer moments than it may be asked at, and gave one at the next
pub record Grants (b : Level) (refused : List ℕ) (taken : ℕ) (n : Level) : Type 0 where
  pub between : Level
  pub refuses : Refuses b refused between
  pub few : length refused < MOST_RESTS
  pub later : between.last ≤ taken
  pub given : gives between taken ≡ true
  pub asked_is : n ≡ asked between taken

-- it gave no token as often as it may be asked
pub record Throttles (b : Level) (refused : List ℕ) (n : Level) : Type 0 where
  pub refuses : Refuses b refused n
  pub all : length refused ≡ MOST_RESTS

-- ---- one batch

-- a post: the moments of the wait before it, those at which the bucket gave no token, the one at which it gave one, and the try
pub record Post : Type 0 where
  pub paused : List ℕ
  pub refused : List ℕ
  pub taken : ℕ
  pub try : Try

-- what became of a batch: its posts, one after another, the moments of a wait after them, and those at which the bucket gave no token then
pub record Delivery : Type 0 where
  pub posts : List Post
  pub paused : List ℕ
  pub refused : List ℕ

-- a post of these lines after so many others: after its wait, and after its token
pub record IsPost (rules : Rules) (text : List Line → List ℕ) (lines : List Line) (earlier : ℕ) (b : Level) (p : Post) (n : Level) : Type 0 where
  pub pauses : Pauses (wait_after rules.wait earlier) p.paused
  pub grants : Grants b p.refused p.taken n
  pub lines_are : p.try.lines ≡ lines
  pub noted : IsNoted text p.try

-- posts of these lines after so many others, none of which is done
abbrev pub Fail : Rules → (List Line → List ℕ) → List Line → ℕ → Level → List Post → Level → Type 0
Fail rules text lines earlier b [] n = n ≡ b
Fail rules text lines earlier b (p ∷ ps) n =
    (m : Level) × IsPost rules text lines earlier b p m × (p.try.note.answer ≢ answers.Done) × Fail rules text lines (earlier + 1) m ps n

-- the first post that is done ends them
pub record IsDelivered (rules : Rules) (text : List Line → List ℕ) (lines : List Line) (b : Level) (d : Delivery) (n : Level) : Type 0 where
  pub failed : List Post
  pub last : Post
  pub between : Level
  pub posts_are : d.posts ≡ failed ++ last ∷ []
  pub fail : Fail rules text lines 0 b failed between
  pub is_post : IsPost rules text lines (length failed) between last n
  pub done : last.try.note.answer ≡ answers.Done
  pub no_wait : d.paused ≡ []
  pub no_more : d.refused ≡ []
  pub few : length d.posts ≤ rules.tries

-- each post that there may be failed, the last one so
pub record IsGivenUp (rules : Rules) (text : List Line → List ℕ) (lines : List Line) (b : Level) (d : Delivery) (fault : SinkFault) (n : Level)
    : Type 0 where
  pub failed : List Post
  pub last : Post
  pub posts_are : d.posts ≡ failed ++ last ∷ []
  pub fail : Fail rules text lines 0 b d.posts n
  pub fault_is : last.try.note.answer ≡ answer_of (Err fault)
  pub no_wait : d.paused ≡ []
  pub no_more : d.refused ≡ []
  pub all : length d.posts ≡ rules.tries

-- the posts failed, fewer than there may be, and the bucket gave no token for one more after its wait
pub record IsThrottled (rules : Rules) (text : List Line → List ℕ) (lines : List Line) (b : Level) (d : Delivery) (n : Level) : Type 0 where
  pub between : Level
  pub fail : Fail rules text lines 0 b d.posts between
  pub pauses : Pauses (wait_after rules.wait (length d.posts)) d.paused
  pub throttles : Throttles between d.refused n
  pub few : length d.posts < rules.tries

-- what each end of a batch says
abbrev pub Delivers : Rules → (List Line → List ℕ) → List Line → Level → Delivery → Sent → Level → Type 0
Delivers rules text lines b d (Done posts) n = (posts ≡ length d.posts) × IsDelivered rules text lines b d n
Delivers rules text lines b d (GaveUp posts fault) n = (posts ≡ length d.posts) × IsGivenUp rules text lines b d fault n
Delivers rules text lines b d (Throttled posts) n = (posts ≡ length d.posts) × IsThrottled rules text lines b d n

-- ---- what a delivery adds to what is told

abbrev pub tries_of : List Post → List Try
tries_of [] = []
tries_of (p ∷ ps) = p.try ∷ tries_of ps

-- the moments of a post
abbrev pub moments_in : Post → List ℕ
moments_in p = p.paused ++ (p.refused ++ p.taken ∷ [])

abbrev pub moments_of : List Post → List ℕ
moments_of [] = []
moments_of (p ∷ ps) = moments_in p ++ moments_of ps

-- all moments that the clock gave
abbrev pub moments_at : Delivery → List ℕ
moments_at d = moments_of d.posts ++ (d.paused ++ d.refused)

-- those at which the bucket was asked
abbrev pub asked_of : List Post → List ℕ
asked_of [] = []
asked_of (p ∷ ps) = (p.refused ++ p.taken ∷ []) ++ asked_of ps

abbrev pub asked_at : Delivery → List ℕ
asked_at d = asked_of d.posts ++ d.refused

-- how often the clock rested: in each wait, and after each asking that gave no token
abbrev pub rests_of : List Post → ℕ
rests_of [] = 0
rests_of (p ∷ ps) = rests_in p.paused + length p.refused + rests_of ps

abbrev pub rests_at : Delivery → ℕ
rests_at d = rests_of d.posts + (rests_in d.paused + length d.refused)

-- the count of the answer's kind rose
abbrev pub RoseFor : SinkTells → SinkTells → TryAnswer → Type 0
RoseFor s t answers.Done = ⊤
RoseFor s t answers.Port = Rises s.faults t.faults
RoseFor s t (answers.Refused code) = Rises s.refusals t.refusals
RoseFor s t answers.BadAnswer = Rises s.refusals t.refusals

-- the sink's counts don't fall, and rose for each post that failed
pub record CountsPosts (s t : SinkTells) (posts : List Post) : Type 0 where
  pub faults : s.faults ≤ t.faults
  pub refusals : s.refusals ≤ t.refusals
  pub each : All (λ (p : Post). RoseFor s t p.try.note.answer) posts

-- a batch was sent: the sink's tries are joined by those of its posts, and the clock gave the moments and rested as its waits and askings say
pub record Sends (rules : Rules) (lines : List Line) (b : Level) (s : SinkTells) (c : ClockTells) (end : Sent)
    (n : Level) (t : SinkTells) (d : ClockTells) : Type 0 where
  pub delivery : Delivery
  pub delivers : Delivers rules s.text lines b delivery end n
  pub tries : Joined s.tries (tries_of delivery.posts) t.tries
  pub clock : Passed c (moments_at delivery) (rests_at delivery) d
  pub counts : CountsPosts s t delivery.posts
  pub text_is : t.text ≡ s.text

-- ---- for private clauses

-- the clock gave moments and rested for a wait
abbrev pub Paused : ℕ → ClockTells → ClockTells → Type 0
Paused wait c d = (moments : List ℕ) × Pauses wait moments × Passed c moments (rests_in moments) d

-- so far: as many rests as moments after the first, none of which is late
pub record PausesSoFar (wait : ℕ) (first : ℕ) (c : ClockTells) (count : ℕ) (d : ClockTells) : Type 0 where
  pub early : List ℕ
  pub before : All (λ m. m < first + wait) early
  pub count_is : length early ≡ count
  pub few : count < MOST_RESTS
  pub passed : Passed c (first ∷ early) count d

-- the bucket was asked until it gave a token, or as often as it may be, and the clock rested after each asking that gave none
abbrev pub Asked : Level → ClockTells → Bool → Level → ClockTells → Type 0
Asked b c true n d = (refused : List ℕ) × (taken : ℕ) × Grants b refused taken n × Passed c (refused ++ taken ∷ []) (length refused) d
Asked b c false n d = (refused : List ℕ) × Throttles b refused n × Passed c refused (length refused) d

-- so far: it gave no token
pub record Waits (b : Level) (c : ClockTells) (count : ℕ) (n : Level) (d : ClockTells) : Type 0 where
  pub refused : List ℕ
  pub refuses : Refuses b refused n
  pub count_is : length refused ≡ count
  pub few : count < MOST_RESTS
  pub passed : Passed c refused (length refused) d

-- the same after a wait
abbrev pub Waited : ℕ → Level → ClockTells → Bool → Level → ClockTells → Type 0
Waited wait b c true n d =
    (paused : List ℕ) × (refused : List ℕ) × (taken : ℕ) × Pauses wait paused × Grants b refused taken n
    × Passed c (paused ++ (refused ++ taken ∷ [])) (rests_in paused + length refused) d
Waited wait b c false n d =
    (paused : List ℕ) × (refused : List ℕ) × Pauses wait paused × Throttles b refused n
    × Passed c (paused ++ refused) (rests_in paused + length refused) d

-- so far: these posts failed
pub record Posts (rules : Rules) (lines : List Line) (b : Level) (s : SinkTells) (c : ClockTells) (count : ℕ)
    (n : Level) (t : SinkTells) (d : ClockTells) : Type 0 where
  pub posts : List Post
  pub fail : Fail rules s.text lines 0 b posts n
  pub count_is : length posts ≡ count
  pub few : count < rules.tries
  pub tries : Joined s.tries (tries_of posts) t.tries
  pub clock : Passed c (moments_of posts) (rests_of posts) d
  pub counts : CountsPosts s t posts
  pub text_is : t.text ≡ s.text
