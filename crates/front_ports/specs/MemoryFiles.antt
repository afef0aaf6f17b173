-- Which reads of files in memory fail.
use Rattle.std.specs.Prelude.{ℕ, List, Bool, ◌||◌, is_none}
use Rattle.front_ports.specs.FileMap.{file_of}
use Rattle.front_ports.specs.Memory.{files_held}
use Rattle.front_ports.specs.Scripts.{next_is_listed}
use Rattle.front_ports.specs.declared.mem_files.MemFiles.{MemFiles}

-- the numbers of the reads that fail, and how many reads there were
abbrev pub files_fails : MemFiles → List ℕ
files_fails files = files.fails.items

abbrev pub files_calls : MemFiles → ℕ
files_calls files = files.calls

-- whether the next read fails, which is of this name: it is listed, or no file has the name
abbrev pub files_will_fail : MemFiles → List ℕ → Bool
files_will_fail files name =
    next_is_listed (files_fails files) (files_calls files) || is_none (file_of name (files_held files))
