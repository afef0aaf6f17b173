-- What a patch makes of each member.
use Rattle.std.specs.Prelude.{Option, Some, None, if◌then◌else◌, is_some, unwrap_or}
use Rattle.serde_json.specs.Data.{Data, null}
use Rattle.serde_json.specs.Find.{as_null}
use Rattle.json_patch.specs.Merge.{merged}

-- a member and the patch's member of its name, each if there is one, make this member, if one is left
abbrev pub patched : Option Data → Option Data → Option Data
patched old None = old
patched old (Some change) = if is_some (as_null change) then None else Some (merged (unwrap_or old null) change)
