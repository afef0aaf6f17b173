-- The tries of a sink.
use Rattle.std.specs.Prelude.{◌≡◌, ◌≤◌, ◌+◌, ℕ, List, [], ◌∷◌, ◌++◌, length, take, Option, Some, None, Result, Ok, Err, ⊤}
use Rattle.front_base.specs.Line.{Line}
use Rattle.truncate_backend.specs.Told.{Joined, JoinedEach, RisesByOne}
use Rattle.truncate_backend.specs.declared.tries.SinkFault.{SinkFault}
use Rattle.truncate_backend.specs.declared.tries.SinkFault.TheVariants as faults
use Rattle.truncate_backend.specs.declared.tries.TryAnswer.{TryAnswer}
use Rattle.truncate_backend.specs.declared.tries.TryAnswer.TheVariants as answers
use Rattle.truncate_backend.specs.declared.tries.TryNote.{TryNote}

-- one put of a sink: its lines, and what was noted
pub record Try : Type 0 where
  pub lines : List Line
  pub note : TryNote

-- what a batch sink tells: its tries, how often its port failed, and how often its peer refused or gave no answer in HTTP;
-- the text of a try with given lines; and all bytes that its port was given: None where they aren't told, and Some None from
-- when on they are told no longer
pub record SinkTells : Type 0 where
  pub tries : Option (List Try)
  pub faults : ℕ
  pub refusals : ℕ
  pub text : List Line → List ℕ
  pub sent : Option (Option (List ℕ))

-- what is noted of an answer
abbrev pub answer_of : Result ⊤ SinkFault → TryAnswer
answer_of (Ok u) = answers.Done
answer_of (Err faults.Port) = answers.Port
answer_of (Err (faults.Refused code)) = answers.Refused code
answer_of (Err faults.BadAnswer) = answers.BadAnswer

-- a try of these lines, of which so many bytes were sent
abbrev pub try_of : List Line → ℕ → TryAnswer → Try
try_of lines sent answer =
    record { lines = lines; note = record { lines = length lines; sent = sent; answer = answer } }

-- which count an answer raises, by one
abbrev pub Counted : SinkTells → Result ⊤ SinkFault → SinkTells → Type 0
Counted m (Ok u) n = (n.faults ≡ m.faults) × (n.refusals ≡ m.refusals)
Counted m (Err faults.Port) n = RisesByOne m.faults n.faults × (n.refusals ≡ m.refusals)
Counted m (Err (faults.Refused code)) n = (n.faults ≡ m.faults) × RisesByOne m.refusals n.refusals
Counted m (Err faults.BadAnswer) n = (n.faults ≡ m.faults) × RisesByOne m.refusals n.refusals

-- the port was given these bytes after those before
abbrev pub Sends : Option (Option (List ℕ)) → List ℕ → Option (Option (List ℕ)) → Type 0
Sends None more new = ⊤
Sends (Some None) more new = new ≡ Some None
Sends (Some (Some before)) more None = ⊥
Sends (Some (Some before)) more (Some None) = ⊤
Sends (Some (Some before)) more (Some (Some after)) = after ≡ before ++ more

-- how many of so many bytes a try with this answer sent: all of them, unless its port failed
abbrev pub SentFor : TryAnswer → ℕ → ℕ → Type 0
SentFor answers.Port sent whole = sent ≤ whole
SentFor answers.Done sent whole = sent ≡ whole
SentFor (answers.Refused code) sent whole = sent ≡ whole
SentFor answers.BadAnswer sent whole = sent ≡ whole

-- one try of these lines, of whose text so many bytes were sent, was made and counted
pub record TriedAs (m : SinkTells) (lines : List Line) (sent : ℕ) (result : Result ⊤ SinkFault) (n : SinkTells)
    : Type 0 where
  pub tries : Joined m.tries (try_of lines sent (answer_of result) ∷ []) n.tries
  pub counts : Counted m result n
  pub text_is : n.text ≡ m.text
  pub whole : SentFor (answer_of result) sent (length (m.text lines))
  pub bytes : Sends m.sent (take sent (m.text lines)) n.sent

-- the same, however many bytes were sent
pub record Tried (m : SinkTells) (lines : List Line) (result : Result ⊤ SinkFault) (n : SinkTells) : Type 0 where
  pub sent : ℕ
  pub is : TriedAs m lines sent result n

-- the lines of tries, joined
abbrev pub lines_of : List Try → List Line
lines_of [] = []
lines_of (t ∷ ts) = t.lines ++ lines_of ts

-- the lines of a try that were written: all of them where its answer is Done, else none
abbrev pub lines_done : TryAnswer → List Line → List Line
lines_done answers.Done lines = lines
lines_done answers.Port lines = []
lines_done (answers.Refused code) lines = []
lines_done answers.BadAnswer lines = []

-- the lines of tries that were written, joined
abbrev pub done_of : List Try → List Line
done_of [] = []
done_of (t ∷ ts) = lines_done t.note.answer t.lines ++ done_of ts

-- how many of tries ended by a call that failed, and how many by a refusal or by an answer that isn't HTTP
abbrev pub is_port : TryAnswer → ℕ
is_port answers.Done = 0
is_port answers.Port = 1
is_port (answers.Refused code) = 0
is_port answers.BadAnswer = 0

abbrev pub is_refusal : TryAnswer → ℕ
is_refusal answers.Done = 0
is_refusal answers.Port = 0
is_refusal (answers.Refused code) = 1
is_refusal answers.BadAnswer = 1

abbrev pub faults_in : List Try → ℕ
faults_in [] = 0
faults_in (t ∷ ts) = is_port t.note.answer + faults_in ts

abbrev pub refusals_in : List Try → ℕ
refusals_in [] = 0
refusals_in (t ∷ ts) = is_refusal t.note.answer + refusals_in ts

-- how many bytes lines have
abbrev pub bytes_of : List Line → ℕ
bytes_of [] = 0
bytes_of (l ∷ ls) = length l.bytes + bytes_of ls

-- ---- what is noted of tries

-- a note says how many lines its try has, and how many bytes of their text were sent
pub record IsNoted (text : List Line → List ℕ) (t : Try) : Type 0 where
  pub lines : t.note.lines ≡ length t.lines
  pub sent : SentFor t.note.answer t.note.sent (length (text t.lines))

-- a try of one line
abbrev pub IsSingle : Try → Type 0
IsSingle t = length t.lines ≡ 1

-- a try whose lines were written
abbrev pub IsDone : Try → Type 0
IsDone t = t.note.answer ≡ answers.Done

-- ---- what tries sent in all

-- the bytes of tries, joined: of the text of each, as many as its note says
abbrev pub sent_bytes : (List Line → List ℕ) → List Try → List ℕ
sent_bytes text [] = []
sent_bytes text (t ∷ ts) = take t.note.sent (text t.lines) ++ sent_bytes text ts

-- the bytes of one try: its text, or the first bytes of it where its port failed
abbrev pub BytesFor : TryAnswer → List ℕ → List ℕ → Type 0
BytesFor answers.Port text bytes = (unsent : List ℕ) × (text ≡ bytes ++ unsent)
BytesFor answers.Done text bytes = bytes ≡ text
BytesFor (answers.Refused code) text bytes = bytes ≡ text
BytesFor answers.BadAnswer text bytes = bytes ≡ text

-- the bytes of tries: those of each, one after another
abbrev pub SentBy : (List Line → List ℕ) → List Try → List ℕ → Type 0
SentBy text [] bytes = bytes ≡ []
SentBy text (t ∷ ts) bytes =
    (own : List ℕ) × (rest : List ℕ) × (bytes ≡ own ++ rest) × BytesFor t.note.answer (text t.lines) own × SentBy text ts rest

-- the texts of tries, joined
abbrev pub texts_of : (List Line → List ℕ) → List Try → List ℕ
texts_of text [] = []
texts_of text (t ∷ ts) = text t.lines ++ texts_of text ts

-- where bytes and tries are both told, what the port was given after these bytes is what the tries sent
abbrev pub SentAfter : List ℕ → (List Line → List ℕ) → Option (Option (List ℕ)) → Option (List Try) → Type 0
SentAfter before text None tries = ⊥
SentAfter before text (Some None) tries = ⊤
SentAfter before text (Some (Some bytes)) None = ⊤
SentAfter before text (Some (Some bytes)) (Some tries) = bytes ≡ before ++ sent_bytes text tries

-- what tries one after another keep: the text of a try, and that what the port was given is what they sent. Each of them is noted as
-- it was
pub record KeepsSent (m n : SinkTells) : Type 0 where
  pub text_is : n.text ≡ m.text
  pub follows : (before : List ℕ) → SentAfter before m.text m.sent m.tries → SentAfter before n.text n.sent n.tries
  pub noted : JoinedEach (IsNoted m.text) m.tries n.tries
