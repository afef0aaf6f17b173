-- What a rehearsal comes to.
use Rattle.std.specs.Prelude.{ℕ, zero, suc, ◌+◌, nat_eq, Bool, true, false, if◌then◌else◌, List, [], ◌++◌, codes, decimal}
use Rattle.std.specs.List.{list_any}
use Rattle.front_base.specs.Level.{level_name}
use Rattle.front_base.specs.Stage.{stage_name}
use Rattle.front_base.specs.declared.level.Level.{Level}
use Rattle.front_base.specs.declared.level.Level.TheVariants as level
use Rattle.front_base.specs.declared.stage.Stage.{Stage}
use Rattle.front_base.specs.declared.stage.Stage.TheVariants as stage
use Rattle.rehearse_plan.specs.Kinds.{kind_at, level_of, stages_of, status_of}
use Rattle.rehearse_plan.specs.declared.kind.Kind.{Kind}
use Rattle.rehearse_plan.specs.declared.counts.Tally.{Tally}
use Rattle.rehearse_plan.specs.declared.counts.Tally.TheVariants as tally

-- ---- which requests count

abbrev pub is_same : Level → Level → Bool
is_same level.None level.None = true
is_same level.Metadata level.Metadata = true
is_same level.Request level.Request = true
is_same level.RequestResponse level.RequestResponse = true
is_same _ _ = false

abbrev pub is_stage : Stage → Stage → Bool
is_stage stage.RequestReceived stage.RequestReceived = true
is_stage stage.ResponseStarted stage.ResponseStarted = true
is_stage stage.ResponseComplete stage.ResponseComplete = true
is_stage stage.Panic stage.Panic = true
is_stage _ _ = false

-- a request of that kind has an event of that stage
abbrev pub owes : Kind → Stage → Bool
owes kind stage = list_any (is_stage stage) (stages_of kind)

abbrev pub has : Tally → Kind → Bool
has (tally.Level level) kind = is_same level (level_of kind)
has (tally.Stage stage) kind = owes kind stage
has (tally.Status status) kind = nat_eq (status_of kind) status

-- how many of the first requests count
abbrev pub count_of : Tally → ℕ → ℕ → ℕ
count_of tally start zero = 0
count_of tally start (suc number) = (if has tally (kind_at start number) then 1 else 0) + count_of tally start number

-- ---- the text

abbrev pub count_line : List ℕ → ℕ → List ℕ
count_line word count = word ++ (codes " " ++ (decimal count ++ codes "\n"))

abbrev pub level_line : ℕ → ℕ → Level → List ℕ
level_line start count level = codes "level " ++ count_line (level_name level) (count_of (tally.Level level) start count)

abbrev pub stage_line : ℕ → ℕ → Stage → List ℕ
stage_line start count stage = codes "stage " ++ count_line (stage_name stage) (count_of (tally.Stage stage) start count)

-- nothing for a status that no request is answered
abbrev pub status_by : ℕ → ℕ → List ℕ
status_by status zero = []
status_by status (suc count) = codes "status " ++ count_line (decimal status) (suc count)

abbrev pub status_lines : ℕ → ℕ → ℕ → List ℕ
status_lines start count status = status_by status (count_of (tally.Status status) start count)

abbrev pub level_lines : ℕ → ℕ → List ℕ
level_lines start count =
    level_line start count level.None ++ (level_line start count level.Metadata
    ++ (level_line start count level.Request ++ level_line start count level.RequestResponse))

abbrev pub stage_lines : ℕ → ℕ → List ℕ
stage_lines start count =
    stage_line start count stage.RequestReceived
    ++ (stage_line start count stage.ResponseStarted ++ stage_line start count stage.ResponseComplete)

abbrev pub statuses : ℕ → ℕ → List ℕ
statuses start count =
    status_lines start count 200 ++ (status_lines start count 201 ++ (status_lines start count 404 ++ status_lines start count 503))

-- how many events there are
abbrev pub line_count : ℕ → ℕ → ℕ
line_count start count =
    (count_of (tally.Stage stage.RequestReceived) start count + count_of (tally.Stage stage.ResponseStarted) start count)
    + count_of (tally.Stage stage.ResponseComplete) start count

-- how many requests there are, how many are recorded at each level, how many events there are of each stage, how many requests
-- are answered each status that occurs, how many lines are written, and that no event is dropped
unfoldable pub summary : ℕ → ℕ → List ℕ
summary start count =
    count_line (codes "requests") count
    ++ (level_lines start count ++ (stage_lines start count ++ (statuses start count
    ++ (count_line (codes "lines") (line_count start count) ++ count_line (codes "dropped") 0))))
