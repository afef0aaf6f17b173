-- What a prober does, round after round: the calls that it makes and the lines that it writes, by the answers of its calls.
use Rattle.std.specs.Prelude.{ℕ, ◌+◌, ◌==◌, Bool, false, if◌then◌else◌, List, [], ◌∷◌, ◌++◌, Option, Some, None, codes, decimal}
use Rattle.apiservice_rows.specs.Row.{Row}
use Rattle.apiservice_rows.specs.declared.service.ServiceRef.{ServiceRef}
use Rattle.avail_probe.specs.Watching.{Watched, changed, opened, probed, put, refuse, wish_at}
use Rattle.front_base.specs.declared.address.Address.{Address}
use Rattle.probe_calls.specs.Requests.{patch_request}
use Rattle.probe_rounds.specs.Pace.{after, is_due, start}
use Rattle.probe_rounds.specs.declared.pace.Pace.{Pace}
use Rattle.probe_rounds.specs.declared.plan.ProbePlan.{ProbePlan}
use Rattle.probe_rounds.specs.declared.round.Round.{Round}
use Rattle.service_calls.specs.Calls.{Due}
use Rattle.service_calls.specs.Contacts.{is_good}
use Rattle.service_calls.specs.Request.{request_bytes}
use Rattle.service_endpoints.specs.Find.{endpoint_of}

-- where a run stands: the condition of each row and its last probes, the answers of the calls that come, the calls that were made,
-- and the lines that were written
pub record Course : Type 0 where
  pub rows : List Watched
  pub answers : List (Option ℕ)
  pub calls : List Due
  pub text : List ℕ

-- ---- one call

abbrev pub next_answer : List (Option ℕ) → Option ℕ
next_answer [] = None
next_answer (answer ∷ answers) = answer

abbrev pub later_answers : List (Option ℕ) → List (Option ℕ)
later_answers [] = []
later_answers (answer ∷ answers) = answers

-- a call is made, and takes the next answer
abbrev pub called : Due → Course → Course
called due c = record { rows = c.rows; answers = later_answers c.answers; calls = c.calls ++ due ∷ []; text = c.text }

-- ---- a line

abbrev pub word_of : Bool → List ℕ
word_of up = if up then codes "up" else codes "down"

abbrev pub answer_text : Option ℕ → List ℕ
answer_text None = codes "none"
answer_text (Some status) = decimal status

-- the round, the name, the condition that is wished, and the status of the front door's reply
unfoldable pub line : ℕ → List ℕ → Bool → Option ℕ → List ℕ
line round name up answer =
    decimal round ++ (codes " " ++ (name ++ (codes " " ++ (word_of up ++ (codes " " ++ (answer_text answer ++ codes "\n"))))))

-- ---- a row's turn in a round

-- only a status of 200 changes the condition, and all else is kept as a refusal
abbrev pub is_taken : Option ℕ → Bool
is_taken None = false
is_taken (Some status) = status == 200

abbrev pub rows_after : Bool → ℕ → Bool → List Watched → List Watched
rows_after taken at up rows = if taken then changed at (put up) rows else changed at refuse rows

-- the front door answered what it was told
abbrev pub told : Round → ℕ → Row → Bool → Option ℕ → Course → Course
told round at row up answer c = record {
  rows = rows_after (is_taken answer) at up c.rows;
  answers = c.answers;
  calls = c.calls;
  text = c.text ++ line round.number row.name up answer;
}

abbrev pub put_due : ProbePlan → Round → Row → Bool → Due
put_due plan round row up = record { to = plan.front; text = patch_request plan.front plan.token row up round.moment }

-- the front door is told
abbrev pub tells : ProbePlan → Round → ℕ → Row → Bool → Course → Course
tells plan round at row up c = told round at row up (next_answer c.answers) (called (put_due plan round row up) c)

-- where a condition is wished, it is told
abbrev pub wished : ProbePlan → Round → ℕ → Row → Option Bool → Course → Course
wished plan round at row None c = c
wished plan round at row (Some up) c = tells plan round at row up c

abbrev pub with_rows : List Watched → Course → Course
with_rows rows c = record { rows = rows; answers = c.answers; calls = c.calls; text = c.text }

abbrev pub judged_by : ProbePlan → Round → ℕ → Row → List Watched → Course → Course
judged_by plan round at row rows c = wished plan round at row (wish_at plan.threshold at rows) (with_rows rows c)

-- a probe was good or bad
abbrev pub judged : ProbePlan → Round → ℕ → Row → Bool → Course → Course
judged plan round at row good c = judged_by plan round at row (changed at (probed good) c.rows) c

abbrev pub list_due : Row → Address → Due
list_due row address = record { to = address; text = request_bytes row address }

-- a service is asked where it is reached; one that isn't reached anywhere is bad, and nothing is dialed
abbrev pub asks : ProbePlan → Round → ℕ → Row → Option Address → Course → Course
asks plan round at row None c = judged plan round at row false c
asks plan round at row (Some address) c =
    judged plan round at row (is_good (next_answer c.answers)) (called (list_due row address) c)

-- only rows with a service are probed
abbrev pub probes : ProbePlan → Round → ℕ → Row → Option ServiceRef → Course → Course
probes plan round at row None c = c
probes plan round at row (Some service) c = asks plan round at row (endpoint_of plan.endpoints (Some service)) c

-- the turn of the row at that place
unfoldable pub turn : ProbePlan → Round → ℕ → Row → Course → Course
turn plan round at row c = probes plan round at row row.service c

-- ---- rounds

-- the turns of rows, of which the first has that place
unfoldable pub turns : ProbePlan → Round → ℕ → List Row → Course → Course
turns plan round at [] c = c
turns plan round at (row ∷ rows) c = turns plan round (at + 1) rows (turn plan round at row c)

-- a moment was given, at which a round begins if one is due
abbrev pub look : ProbePlan → List Row → Pace → ℕ → Course → Course
look plan rows pace now c =
    if is_due plan.every pace.began now then turns plan (record { number = pace.done + 1; moment = now }) 0 rows c else c

-- these moments were given, one after another
unfoldable pub rounds : ProbePlan → List Row → Pace → List ℕ → Course → Course
rounds plan rows pace [] c = c
rounds plan rows pace (now ∷ later) c = rounds plan rows (after plan pace now) later (look plan rows pace now c)

-- before the first call: the rows have the conditions that they were found with
abbrev pub beginning : List Row → List (Option ℕ) → Course
beginning rows answers = record { rows = opened rows; answers = answers; calls = []; text = [] }

-- a run over these rows, whose clock gives these moments and whose calls are answered so: in each round each row has its turn
unfoldable pub probe_run : ProbePlan → List Row → List ℕ → List (Option ℕ) → Course
probe_run plan rows moments answers = rounds plan rows start moments (beginning rows answers)
