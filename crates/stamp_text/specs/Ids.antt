-- The audit ID that a text spells (RFC 9562, section 4).
use Rattle.std.specs.Prelude.{ℕ, List, ◌∷◌, take, drop, Option, option_map}
use Rattle.std.specs.Int.{w16, w64, from_be_bytes}
use Rattle.front_base.specs.AuditId.{AuditId}
use Rattle.uuid.specs.Text.{parsed}

-- the three parts of sixteen bytes
abbrev pub id_of_bytes : List ℕ → AuditId
id_of_bytes bytes =
    record {
      boot = from_be_bytes w64 (take 8 bytes);
      bay = from_be_bytes w16 (take 2 (drop 8 bytes));
      number = from_be_bytes w64 (0 ∷ 0 ∷ drop 10 bytes);
    }

unfoldable pub audit_id_of : List ℕ → Option AuditId
audit_id_of text = option_map id_of_bytes (parsed text)
