use Rattle.std.proofs.Common.{◌+◌, ◌-◌, vec_len}
use Rattle.front_base.specs.declared.file.TheConstants.{MOST_FILE_BYTES}
use Rattle.client_process.proofs.token_files.read_all.Given as goal

abbrev pub decreases-loop-buf : goal.decreases-loop-buf
decreases-loop-buf g l = MOST_FILE_BYTES + 1 - vec_len l.bytes
