-- What the forms in memory tell.
use Rattle.std.specs.Prelude.{◌≡◌, ℕ, Bool, List, [], ◌∷◌, Option, Some, drop}
use Rattle.front_ports.specs.Side.{Side}
use Rattle.front_ports.specs.declared.mem_bytes.MemBytes.{MemBytes}
use Rattle.front_ports.specs.declared.mem_duplex.MemDuplex.{MemDuplex}
use Rattle.front_ports.specs.declared.mem_duplex.MemVisitor.{MemVisitor}
use Rattle.front_ports.specs.declared.mem_files.MemFiles.{MemFiles}
use Rattle.front_ports.specs.declared.mem_stream.MemStream.{MemStream}

-- what was written to a sink
abbrev pub bytes_written : MemBytes → List ℕ
bytes_written sink = sink.bytes.items

-- how many of its writes failed
abbrev pub bytes_faults : MemBytes → ℕ
bytes_faults sink = sink.faults

-- how many bytes it has room for in all, the numbers of the writes that fail, and how many there were
abbrev pub bytes_room : MemBytes → ℕ
bytes_room sink = sink.room

abbrev pub bytes_fails : MemBytes → List ℕ
bytes_fails sink = sink.fails.items

abbrev pub bytes_calls : MemBytes → ℕ
bytes_calls sink = sink.calls

-- all bytes that the input of a connection or link began with, and those that are left
abbrev pub stream_input : MemStream → List ℕ
stream_input stream = stream.input.items

abbrev pub stream_left : MemStream → List ℕ
stream_left stream = drop stream.at stream.input.items

-- how many of its reads failed
abbrev pub stream_read_faults : MemStream → ℕ
stream_read_faults stream = stream.faults

-- what was written to it, and how many of its writes failed
abbrev pub stream_written : MemStream → List ℕ
stream_written stream = bytes_written stream.output

abbrev pub stream_write_faults : MemStream → ℕ
stream_write_faults stream = bytes_faults stream.output

-- what a connection or a link will still give, and how many of its reads failed
abbrev pub duplex_left : {M : Type 0} → MemDuplex M → List ℕ
duplex_left duplex = stream_left duplex.stream

abbrev pub duplex_read_faults : {M : Type 0} → MemDuplex M → ℕ
duplex_read_faults duplex = stream_read_faults duplex.stream

-- what was written to it, and how many of its writes failed
abbrev pub duplex_written : {M : Type 0} → MemDuplex M → List ℕ
duplex_written duplex = stream_written duplex.stream

abbrev pub duplex_write_faults : {M : Type 0} → MemDuplex M → ℕ
duplex_write_faults duplex = stream_write_faults duplex.stream

-- its input and its output with their mark and what it will wish, each of which a call on the other leaves
abbrev pub input_side : {M : Type 0} → List ℕ → Option (List Bool) → MemDuplex M → Side
input_side mark wishes duplex = record {
  told = Some (duplex_left duplex);
  faults = duplex_read_faults duplex;
  mark = mark;
  wishes = wishes;
}

abbrev pub output_side : {M : Type 0} → List ℕ → Option (List Bool) → MemDuplex M → Side
output_side mark wishes duplex = record {
  told = Some (duplex_written duplex);
  faults = duplex_write_faults duplex;
  mark = mark;
  wishes = wishes;
}

-- a connection in memory
abbrev pub MemConn : Type 0
MemConn = MemDuplex MemVisitor

-- the address of a connection's peer, and whether it will wish to end, each time that it is asked
abbrev pub conn_from : MemConn → List ℕ
conn_from conn = conn.mark.from

abbrev pub conn_wishes : MemConn → List Bool
conn_wishes conn = conn.mark.wishes.items

-- the number of a link's call among those of its dial
abbrev pub link_number : MemDuplex ℕ → ℕ
link_number link = link.mark

-- nothing was read from a link or written to it
pub record IsUnused (link : MemDuplex ℕ) : Type 0 where
  pub whole : duplex_left link ≡ stream_input link.stream
  pub unwritten : duplex_written link ≡ []
  pub no_read_fault : duplex_read_faults link ≡ 0
  pub no_write_fault : duplex_write_faults link ≡ 0

-- the names and the bytes of files
abbrev pub files_held : MemFiles → List (List ℕ × List ℕ)
files_held files = files.files.items

-- how many of their reads failed, and the name of the last one
abbrev pub files_faults : MemFiles → ℕ
files_faults files = files.faults

abbrev pub files_failed : MemFiles → Option (List ℕ)
files_failed files = files.failed
