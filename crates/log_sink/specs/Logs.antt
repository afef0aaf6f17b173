-- What a log does with a try.
use Rattle.std.specs.Prelude.{◌≡◌, ℕ, List, take, Option, Some, None, option_map, Bool, true, false, Result, Err, ⊤}
use Rattle.std.specs.Io.KnownBytes.{Appends}
use Rattle.front_base.specs.Line.{Line}
use Rattle.truncate_backend.specs.Tries.{Try, SinkTells, TriedAs}
use Rattle.truncate_backend.specs.declared.tries.SinkFault.{SinkFault}
use Rattle.truncate_backend.specs.declared.tries.SinkFault.TheVariants.{Port}
use Rattle.log_sink.specs.Texts.{log_text}
use Rattle.log_sink.specs.declared.log.LogSink.{LogSink}

-- the tries, as long as none went without a note
abbrev pub kept_tries : Bool → Option (List Try) → Option (List Try)
kept_tries true tries = tries
kept_tries false tries = None

-- what it writes to, and the account of its tries
abbrev pub log_out : {W N : Type 0} → LogSink W N → W
log_out log = log.buffer.out

abbrev pub log_notes : {W N : Type 0} → LogSink W N → N
log_notes log = log.notes

-- what it tells, by what its sink of bytes and its notes tell
abbrev pub log_tells : {W N : Type 0} → (W → Option (List ℕ)) → (N → Option (List Try)) → LogSink W N → SinkTells
log_tells written tries log = record {
  tries = kept_tries log.told (tries log.notes);
  faults = log.faults;
  refusals = 0;
  text = log_text;
  sent = option_map Some (written (log_out log));
}

-- one try of these lines: so many bytes of its text were written, and the note says so
pub record Logged (m : SinkTells) (old : Option (List ℕ)) (lines : List Line) (result : Result ⊤ SinkFault)
    (n : SinkTells) (new : Option (List ℕ)) : Type 0 where
  pub sent : ℕ
  pub bytes : Appends old new (take sent (log_text lines))
  pub tried : TriedAs m lines sent result n

-- a try for whose note there is no room: nothing was written, and the tries are told no longer
abbrev pub NotLogged : Option (List ℕ) → Result ⊤ SinkFault → SinkTells → Option (List ℕ) → Type 0
NotLogged old result n new = (result ≡ Err Port) × (new ≡ old) × (n.tries ≡ None)
