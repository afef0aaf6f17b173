-- The text of an audit ID.
use Rattle.std.specs.Prelude.{ℕ, List, ◌++◌, drop}
use Rattle.std.specs.Int.{w16, w64, to_be_bytes}
use Rattle.uuid.specs.Text.{hyphenated_text, lower}

-- what contracts see of an audit ID
pub record AuditId : Type 0 where
  pub boot : ℕ
  pub bay : ℕ
  pub number : ℕ

-- sixteen bytes: the boot word, the bay and the number in big-endian order of 8, 2 and 6 bytes
abbrev pub id_bytes : AuditId → List ℕ
id_bytes id = to_be_bytes w64 id.boot ++ to_be_bytes w16 id.bay ++ drop 2 (to_be_bytes w64 id.number)

-- they are written as a UUID is (RFC 9562, section 4): lower-case hexadecimal digits in groups of 8-4-4-4-12
unfoldable pub audit_id_text : AuditId → List ℕ
audit_id_text id = hyphenated_text lower (id_bytes id)
