-- Which options a run may have.
use Rattle.std.specs.Prelude.{◌<◌, ◌≤◌}
use Rattle.serve_bays.specs.declared.options.RunOptions.{RunOptions}

pub record AreFit (options : RunOptions) : Type 0 where
  pub some : 0 < options.bays
  pub few : options.bays ≤ 1024
  pub buffer : 0 < options.buffer
  pub lines : 0 < options.limits.lines
