use Rattle.std.proofs.Common.{◌≡◌, ◌∙◌, true, false}
use Rattle.front_ports.proofs.mem_files.MemFilesFiles.read.Goals as goal

-- where nothing was found, the read fails
pub returns-in_err-copy_of-in-None-clause-too_long : goal.returns-in_err-copy_of-in-None-clause-too_long
returns-in_err-copy_of-in-None-clause-too_long c =
    let fails = rw (c.contains-is_listed.ensures.value, c.deref.ensures.value, c.saturating_add-self.ensures, c.as_slice.ensures.value) at c.in-None.ensures.none in
    λ serves long. let e : true ≡ false = fails ∙ serves in cc

pub returns-in_ok-copy_of-in-None-clause-too_long : goal.returns-in_ok-copy_of-in-None-clause-too_long
returns-in_ok-copy_of-in-None-clause-too_long c =
    let fails = rw (c.contains-is_listed.ensures.value, c.deref.ensures.value, c.saturating_add-self.ensures, c.as_slice.ensures.value) at c.in-None.ensures.none in
    λ serves long. let e : true ≡ false = fails ∙ serves in cc
