-- How the parts of a sink hang together.
use Rattle.std.specs.Prelude.{◌≡◌, ℕ, ◌<◌, ◌≤◌, ◌-◌, ◌==◌, false, List, [], ◌∷◌, ◌++◌, length, take, filter}
use Rattle.audit_core.specs.declared.sinks.Sink.{Sink}
use Rattle.front_base.specs.Line.{Line}
use Rattle.truncate_backend.specs.Tries.{Try, lines_of}
use Rattle.model_worlds.specs.Setup.{Setup}
use Rattle.model_worlds.specs.Steps.{at_lane, is_over, sink_at}
use Rattle.model_worlds.specs.declared.state.Limits.{Limits}
use Rattle.model_worlds.specs.declared.state.SinkState.{SinkState}
use Rattle.model_worlds.specs.declared.state.State.{State}

-- the lines of a bay, in order
abbrev pub lines_by : ℕ → List Line → List Line
lines_by bay lines = filter (λ l. l.bay == bay) lines

-- one line or more, no more than a batch may have, and not two or more with too many bytes
abbrev pub IsBatch : Limits → List Line → Type 0
IsBatch limits lines =
    (0 < length lines) × (length lines ≤ limits.lines) × (is_over limits.bytes lines ≡ false)

abbrev pub AreBatches : Limits → List Try → Type 0
AreBatches limits [] = Unit {0}
AreBatches limits (t ∷ ts) = IsBatch limits t.lines × AreBatches limits ts

-- what is true of a sink whose buffer holds so many lines, and that so many bays offer lines to
pub record SinkParts (bays : ℕ) (capacity : ℕ) (limits : Limits) (s : SinkState) : Type 0 where
  -- each line that was taken from the buffer is in one try or waits for one, in order
  pub tries : lines_of s.tries ++ s.pending ≡ s.taken
  -- each line that the buffer took from a bay was taken from it or is in it, in order
  pub accepted : (bay : ℕ) → lines_by bay (s.taken ++ s.contents) ≡ at_lane s.accepted bay []
  pub room : length s.contents ≤ capacity
  -- a line was refused only after so many had been taken
  pub full : (bay : ℕ) → 0 < at_lane s.fulls bay 0 → capacity ≤ length (s.taken ++ s.contents)
  pub places : length s.accepted ≡ bays
  pub batches : AreBatches limits s.tries
  -- what waits for a try may be one line more than a batch
  pub short : length s.pending ≤ limits.lines
  pub rest : is_over limits.bytes (take (length s.pending - 1) s.pending) ≡ false

-- both sinks hang together
abbrev pub Parts : Setup → ℕ → State → Type 0
Parts setup bays s = (sink : Sink) → SinkParts bays (setup.capacity sink) setup.limits (sink_at s.shared sink)
