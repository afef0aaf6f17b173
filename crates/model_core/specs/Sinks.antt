-- What is true of the sinks after every list of steps.
use Rattle.std.specs.Prelude.{◌≡◌, ℕ, Bool, true, false, List, [], ◌∷◌, ◌++◌, length}
use Rattle.audit_core.specs.declared.sinks.Sink.{Sink}
use Rattle.audit_core.specs.declared.sinks.SinkMode.{SinkMode}
use Rattle.audit_core.specs.declared.sinks.SinkMode.TheVariants.{Off, Batch, Blocking, Strict}
use Rattle.model_core.specs.Offered.{lines_to}
use Rattle.event_offers.specs.Taken.{is_taken, is_tried}
use Rattle.truncate_backend.specs.Tries.{Try, lines_of, done_of}
use Rattle.model_worlds.specs.Parts.{SinkParts, lines_by}
use Rattle.model_worlds.specs.Setup.{Setup}
use Rattle.model_worlds.specs.Steps.{at_lane, sink_at}
use Rattle.model_worlds.specs.declared.state.State.{State}

-- a sink that is written to at once
abbrev pub is_at_once : SinkMode → Bool
is_at_once Off = false
is_at_once Batch = false
is_at_once Blocking = true
is_at_once Strict = true

-- what is true of a sink with a buffer
pub record BufferHolds (setup : Setup) (bays : ℕ) (sink : Sink) (s : State) : Type 0 where
  -- its parts hang together: taken lines, tries, room and limits
  pub parts : SinkParts bays (setup.capacity sink) setup.limits (sink_at s.shared sink)
  -- what it accepted of a bay are the lines of the bay's offers that were taken
  pub accepted : (bay : ℕ) → at_lane (sink_at s.shared sink).accepted bay [] ≡ lines_to is_taken setup sink s bay
  -- and so are the bay's lines that were taken from it or are in it
  pub offered : (bay : ℕ) → lines_by bay ((sink_at s.shared sink).taken ++ (sink_at s.shared sink).contents)
      ≡ lines_to is_taken setup sink s bay

-- each try is of one line
abbrev pub AreSingle : List Try → Type 0
AreSingle [] = Unit {0}
AreSingle (t ∷ ts) = (length t.lines ≡ 1) × AreSingle ts

-- a bay's tries of a sink
abbrev pub own_tries_of : Sink → State → ℕ → List Try
own_tries_of sink s bay = at_lane (sink_at s.shared sink).own_tries bay []

-- what is true of a sink that is written to at once, and of the tries of one bay
pub record TriesHold (setup : Setup) (sink : Sink) (s : State) (bay : ℕ) : Type 0 where
  -- each is of one line
  pub single : AreSingle (own_tries_of sink s bay)
  -- they are of the lines of the bay's offers that were taken or failed, in order
  pub tried : lines_of (own_tries_of sink s bay) ≡ lines_to is_tried setup sink s bay
  -- and those were written whose offers were taken
  pub written : done_of (own_tries_of sink s bay) ≡ lines_to is_taken setup sink s bay
