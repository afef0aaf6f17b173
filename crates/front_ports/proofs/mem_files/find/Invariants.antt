use Rattle.std.proofs.Common.{◌≡◌, drop}
use Rattle.front_ports.specs.FileMap.{file_of}
use Rattle.front_ports.proofs.mem_files.find.Given as goal

-- no file before this place has the name
abbrev pub invariant-loop-own : goal.invariant-loop-own
invariant-loop-own l = file_of l.name (drop l.own-index l.files) ≡ file_of l.name l.files
