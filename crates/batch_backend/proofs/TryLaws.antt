-- What `truncate_backend` says of lines and tries one after another, as its laws state it.
use Rattle.std.proofs.Common.{◌≡◌, ◌+◌, ℕ, List, [], ◌∷◌, ◌++◌, Option, Err}
use Rattle.front_base.specs.Line.{Line}
use Rattle.truncate_backend.specs.Told.{Joined}
use Rattle.truncate_backend.specs.Tries.{Try, try_of, answer_of, lines_of, done_of, bytes_of, faults_in, refusals_in}
use Rattle.truncate_backend.specs.declared.tries.SinkFault.{SinkFault}
use Rattle.truncate_backend.specs.declared.tries.TryAnswer.{TryAnswer}
use Rattle.truncate_backend.specs.declared.tries.TryAnswer.TheVariants as answers

pub record TryLaws : Type 0 where
  pub lines : (these those : List Try) → lines_of (these ++ those) ≡ lines_of these ++ lines_of those
  pub done : (these those : List Try) → done_of (these ++ those) ≡ done_of these ++ done_of those
  pub faults : (these those : List Try) → faults_in (these ++ those) ≡ faults_in these + faults_in those
  pub refusals : (these those : List Try) → refusals_in (these ++ those) ≡ refusals_in these + refusals_in those
  pub one_lines : (lines : List Line) (sent : ℕ) (answer : TryAnswer) → lines_of (try_of lines sent answer ∷ []) ≡ lines
  pub one_done : (lines : List Line) (sent : ℕ) → done_of (try_of lines sent answers.Done ∷ []) ≡ lines
  pub one_lost : (lines : List Line) (sent : ℕ) (fault : SinkFault) → done_of (try_of lines sent (answer_of (Err fault)) ∷ []) ≡ []

pub record JoinLaws : Type 0 where
  pub lines : (a b c : Option (List Line)) (xs ys : List Line) → Joined a xs b → Joined b ys c → Joined a (xs ++ ys) c
  pub tries : (a b c : Option (List Try)) (xs ys : List Try) → Joined a xs b → Joined b ys c → Joined a (xs ++ ys) c

abbrev pub BytesLaw : Type 0
BytesLaw = (these those : List Line) → bytes_of (these ++ those) ≡ bytes_of these + bytes_of those
