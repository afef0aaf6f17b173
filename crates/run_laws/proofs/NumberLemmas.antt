-- The numbers of the lines that are due.
use Rattle.std.proofs.Common.{◌≡◌, ◌+◌, ℕ, zero, suc, Bool, true, false, if◌then◌else◌, List, [], ◌∷◌, ◌++◌, slice_get, Option, IfSome, refl, subst, arith}
use Rattle.audit_core.specs.Offers.{Due}
use Rattle.audit_core.specs.declared.sinks.Sink.{Sink}
use Rattle.event_offers.specs.Taken.{count_in, is_for}
use Rattle.front_base.specs.Line.{Line}
use Rattle.run_laws.specs.Kept.{line_due, lines_due}
use Rattle.truncate_backend.specs.declared.fitted.Fit.{Fit}
use Rattle.truncate_backend.specs.declared.fitted.Fit.TheVariants as fit

-- a bay's line of that number
abbrev IsLine : ℕ → ℕ → Line → Type 0
IsLine bay number line = (line.bay ≡ bay) × (line.number ≡ number)

one_on : (bay before k : ℕ) (o : Option Line) → IfSome o (IsLine bay (before + 1 + k)) → IfSome o (IsLine bay (before + suc k))
one_on bay before k o h = subst (λ number. IfSome o (IsLine bay number)) (omega arith) h

more_numbered : (bay before : ℕ) (written : Fit) (rest : List Line)
    → ((k : ℕ) → IfSome (slice_get rest k) (IsLine bay (before + count_in written + k)))
    → (k : ℕ) → IfSome (slice_get (line_due bay before written ++ rest) k) (IsLine bay (before + k))
more_numbered bay before (fit.Whole bytes) rest h zero = (refl, omega arith)
more_numbered bay before (fit.Whole bytes) rest h (suc k) = one_on bay before k (slice_get rest k) (h k)
more_numbered bay before (fit.Stripped bytes) rest h zero = (refl, omega arith)
more_numbered bay before (fit.Stripped bytes) rest h (suc k) = one_on bay before k (slice_get rest k) (h k)
more_numbered bay before (fit.TooLarge size) rest h k =
    subst (λ number. IfSome (slice_get rest k) (IsLine bay number)) (omega arith) (h k)

mine_numbered : (mine : Bool) (sink : Sink) (bay before : ℕ) (due : Due) (dues : List Due)
    → ((b k : ℕ) → IfSome (slice_get (lines_due sink bay b dues) k) (IsLine bay (b + k)))
    → (k : ℕ) → IfSome (slice_get (if mine then line_due bay before due.fit ++ lines_due sink bay (before + count_in due.fit) dues
    else lines_due sink bay before dues) k) (IsLine bay (before + k))
mine_numbered true sink bay before due dues h k =
    more_numbered bay before due.fit (lines_due sink bay (before + count_in due.fit) dues) (h (before + count_in due.fit)) k
mine_numbered false sink bay before due dues h k = h before k

all_numbered : (sink : Sink) (bay : ℕ) (dues : List Due) (before k : ℕ)
    → IfSome (slice_get (lines_due sink bay before dues) k) (IsLine bay (before + k))
all_numbered sink bay [] before k = tt
all_numbered sink bay (due ∷ dues) before k =
    mine_numbered (is_for sink due.sink) sink bay before due dues (all_numbered sink bay dues) k

pub from_first : (sink : Sink) (bay : ℕ) (dues : List Due) (k : ℕ) → IfSome (slice_get (lines_due sink bay 0 dues) k) (IsLine bay k)
from_first sink bay dues k =
    subst (λ number. IfSome (slice_get (lines_due sink bay 0 dues) k) (IsLine bay number)) (omega arith) (all_numbered sink bay dues 0 k)
