-- What sinks, connections and links in memory do, as they were told when they were made.
use Rattle.std.specs.Prelude.{◌≡◌, ℕ, ◌+◌, min, List, length, Bool, ◌||◌, nat_lt, IsTrue, IsFalse, Result, IfOk, OnOk, OnErr, slice_get}
use Rattle.front_ports.specs.Memory.{bytes_written, bytes_room, bytes_fails, bytes_calls, stream_left}
use Rattle.front_ports.specs.Scripts.{next_count, next_is_listed, cut_to}
use Rattle.front_ports.specs.declared.mem_bytes.MemBytes.{MemBytes}
use Rattle.front_ports.specs.declared.mem_duplex.MemDuplex.{MemDuplex}
use Rattle.front_ports.specs.declared.mem_stream.MemStream.{MemStream}
use Rattle.front_ports.specs.declared.script.Script.{Script}

-- whether the next write to a sink fails, which is one of so many bytes: it is listed, or would pass the room
abbrev pub bytes_will_fail : MemBytes → ℕ → Bool
bytes_will_fail sink n =
    next_is_listed (bytes_fails sink) (bytes_calls sink) || nat_lt (bytes_room sink) (length (bytes_written sink) + n)

-- a write of so many bytes fails exactly there, and takes all of them otherwise
pub record WritesAsTold {E : Type 0} (old new : MemBytes) (result : Result ℕ E) (n : ℕ) : Type 0 where
  pub failed : OnErr result (IsTrue (bytes_will_fail old n))
  pub taken : IfOk result (λ taken. (taken ≡ n) × IsFalse (bytes_will_fail old n))
  pub told : (bytes_room new ≡ bytes_room old) × (bytes_fails new ≡ bytes_fails old)
  pub counted : bytes_calls new ≡ next_count (bytes_calls old)

-- the two sides of a connection or a link
abbrev pub duplex_stream : {M : Type 0} → MemDuplex M → MemStream
duplex_stream duplex = duplex.stream

-- where what is written to them goes
abbrev pub stream_sink : MemStream → MemBytes
stream_sink stream = stream.output

-- the numbers of their reads that fail, and how many reads there were
abbrev pub stream_fails : MemStream → List ℕ
stream_fails stream = stream.fails.items

abbrev pub stream_calls : MemStream → ℕ
stream_calls stream = stream.calls

-- the greatest sizes of the reads that don't fail, and how many of these there were
abbrev pub stream_sizes : MemStream → List ℕ
stream_sizes stream = stream.sizes.items

abbrev pub stream_reads : MemStream → ℕ
stream_reads stream = stream.reads

-- whether the next read fails: it is listed
abbrev pub stream_will_fail : MemStream → Bool
stream_will_fail stream = next_is_listed (stream_fails stream) (stream_calls stream)

-- how many bytes the next read that doesn't fail gives into a buffer of so many: the least of its size, of the buffer's
-- length and of what is left
abbrev pub stream_will_give : MemStream → ℕ → ℕ
stream_will_give stream space =
    cut_to (slice_get (stream_sizes stream) (stream_reads stream)) (min space (length (stream_left stream)))

-- a read into a buffer of so many bytes fails exactly where it is listed, and gives that many otherwise; a read that fails
-- uses no size, and no read changes what goes out
pub record ReadsAsTold {E : Type 0} (old new : MemStream) (result : Result ℕ E) (space : ℕ) : Type 0 where
  pub failed : OnErr result (IsTrue (stream_will_fail old))
  pub given : IfOk result (λ n. (n ≡ stream_will_give old space) × IsFalse (stream_will_fail old))
  pub told : (stream_fails new ≡ stream_fails old) × (stream_sizes new ≡ stream_sizes old)
  pub counted : stream_calls new ≡ next_count (stream_calls old)
  pub sized : OnOk result (stream_reads new ≡ next_count (stream_reads old))
  pub unsized : OnErr result (stream_reads new ≡ stream_reads old)
  pub sink : stream_sink new ≡ stream_sink old

-- a write goes to the sink, and changes nothing of the reads to come
pub record SendsAsTold {E : Type 0} (old new : MemStream) (result : Result ℕ E) (n : ℕ) : Type 0 where
  pub sink : WritesAsTold (stream_sink old) (stream_sink new) result n
  pub told : (stream_fails new ≡ stream_fails old) × (stream_sizes new ≡ stream_sizes old)
  pub counts : (stream_calls new ≡ stream_calls old) × (stream_reads new ≡ stream_reads old)

-- a stream that is new does what the script tells, and no call was made yet
pub record BeginsAsTold (stream : MemStream) (script : Script) : Type 0 where
  pub fails : stream_fails stream ≡ script.read_fails.items
  pub sizes : stream_sizes stream ≡ script.sizes.items
  pub unread : (stream_calls stream ≡ 0) × (stream_reads stream ≡ 0)
  pub write_fails : bytes_fails (stream_sink stream) ≡ script.write_fails.items
  pub room : bytes_room (stream_sink stream) ≡ script.room
  pub unwritten : bytes_calls (stream_sink stream) ≡ 0
