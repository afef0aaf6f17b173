-- An audit ID's text is read back.
use Rattle.std.proofs.Common.{◌≡◌, ℕ, true, ◌<◌, ◌^◌, ◌∷◌, drop, Some, refl, ap, sym, ◌∙◌, arith, All, inl}
use Rattle.std.specs.Prelude.{◌/◌, ◌%◌}
use Rattle.std.specs.Str.{is_utf8}
use Rattle.std.specs.Int.{w16, w64, to_be_bytes, from_be_bytes}
use Rattle.std.proofs.lemmas.List.Elements.{All-from_recursion}
use Rattle.std.proofs.lemmas.Str.{IsUtf8-from_ascii, is_utf8-from_IsUtf8}
use Rattle.std.proofs.lemmas.Nat.{from_be_bytes-to_be_bytes_2, from_be_bytes-to_be_bytes_8}
use Rattle.front_base.specs.AuditId.{AuditId, id_bytes, audit_id_text}
use Rattle.uuid.specs.Text.{hyphenated_text, lower, parsed}
use Rattle.uuid.proofs.TextLemmas.{hyphenated_ascii}
use Rattle.uuid.proofs.RoundTrips.{parses_hyphenated}
use Rattle.stamp_text.specs.Ids.{audit_id_of, id_of_bytes}

abbrev pub IsId : AuditId → Type 0
IsId id = (id.boot < 2 ^ 64) × (id.bay < 2 ^ 16) × (id.number < 2 ^ 48)

top_is_none : (n : ℕ) → n < 2 ^ 48 → 0 ∷ 0 ∷ drop 2 (to_be_bytes w64 n) ≡ to_be_bytes w64 n
top_is_none n h =
    let a : 0 ≡ n / 72057594037927936 % 256 = omega arith in
    let b : 0 ≡ n / 281474976710656 % 256 = omega arith in
    λ i. a i ∷ b i ∷ drop 2 (to_be_bytes w64 n)

small_bytes : (id : AuditId) → All (λ b. b < 256) (id_bytes id)
small_bytes id = All-from_recursion (λ b. b < 256) (id_bytes id) (omega arith, (omega arith, (omega arith, (omega arith, (omega arith, (omega arith, (omega arith, (omega arith, (omega arith, (omega arith, (omega arith, (omega arith, (omega arith, (omega arith, (omega arith, (omega arith, tt))))))))))))))))

id_back : (id : AuditId) → IsId id → id_of_bytes (id_bytes id) ≡ id
id_back id fits =
    let b : from_be_bytes w64 (to_be_bytes w64 id.boot) ≡ id.boot = from_be_bytes-to_be_bytes_8 id.boot fits.0 in
    let y : from_be_bytes w16 (to_be_bytes w16 id.bay) ≡ id.bay = from_be_bytes-to_be_bytes_2 id.bay fits.1 in
    let n : from_be_bytes w64 (0 ∷ 0 ∷ drop 2 (to_be_bytes w64 id.number)) ≡ id.number =
    ap (from_be_bytes w64) (top_is_none id.number fits.2) ∙ from_be_bytes-to_be_bytes_8 id.number (omega (arith, fits.2)) in
    λ i. record { boot = b i; bay = y i; number = n i }

pub id_again : (id : AuditId) → IsId id → audit_id_of (audit_id_text id) ≡ Some id
unfolding audit_id_of audit_id_text
id_again id fits =
    let back : parsed (hyphenated_text lower (id_bytes id)) ≡ Some (id_bytes id) = sym (parses_hyphenated lower (id_bytes id) (inl refl) refl (small_bytes id)) in
    rw back (ap Some (id_back id fits))

pub id_valid : (id : AuditId) → is_utf8 (audit_id_text id) ≡ true
unfolding audit_id_text
id_valid id = is_utf8-from_IsUtf8 _ (IsUtf8-from_ascii _ (hyphenated_ascii lower (id_bytes id) (inl refl)))
