-- How much of an event is written where a line may have at most so many bytes.
use Rattle.std.specs.Prelude.{ℕ, List, [], ◌∷◌, ◌++◌, length, codes, nat_le, if◌then◌else◌, false}
use Rattle.event_text.specs.Line.{line_text, stripped, event_members, request_members, status_members, body_members, time_members}
use Rattle.event_text.specs.Members.{member, object, text}
use Rattle.stage_event.specs.declared.event.Event.{Event}
use Rattle.truncate_backend.specs.declared.fitted.Fit.{Fit}
use Rattle.truncate_backend.specs.declared.fitted.Fit.TheVariants.{Whole, Stripped, TooLarge}

-- the line without objects, where it has at most so many bytes
abbrev pub fitted_stripped : Event → ℕ → Fit
fitted_stripped event max =
    (if nat_le (length (line_text (stripped event))) max
    then Stripped (line_text (stripped event))
    else TooLarge (length (line_text (stripped event))))

-- the line where it has at most so many bytes, else the line without objects
abbrev pub fitted : Event → ℕ → Fit
fitted event max =
    (if nat_le (length (line_text event)) max then Whole (line_text event) else fitted_stripped event max)

-- ---- the members of a line, in parts

-- those before the objects
abbrev pub before_objects : Event → List (List ℕ)
before_objects e = event_members e ++ (request_members e ++ status_members e.code)

-- the objects themselves, each of which may be absent
abbrev pub objects : Event → List (List ℕ)
objects e =
    body_members (codes "requestObject") e.request_object ++ body_members (codes "responseObject") e.response_object

-- those after the objects, but for the annotation
abbrev pub after_objects : Event → List (List ℕ)
after_objects e = time_members (record e { truncated = false })

-- says that the objects were taken out
abbrev pub annotation : List ℕ
annotation = member (codes "annotations") (object (text (codes "audit.k8s.io/truncated") (codes "true") ∷ []))
