-- What a read leaves in the room that it goes into.
use Rattle.std.proofs.Common.{◌≡◌, ℕ, ◌<◌, ◌≤◌, ◌+◌, ◌++◌, List, length, take, Option, ap, sym, ◌∙◌, arith}
use Rattle.std.proofs.Common.{length-append}
use Rattle.std.proofs.lemmas.List.{take-append-le}
use lib.Seq.{take-append-add, length-take-le}
use Rattle.std.specs.Io.KnownBytes.{Consumes}
use Rattle.wire_intake.specs.Seen.{Refilled}

-- the first bytes of a room of which a part in the middle was written
written_first : (room part rest : List ℕ) (held count : ℕ) → held ≤ length room → count ≤ length part
    → take (held + count) (take held room ++ (part ++ rest)) ≡ take held room ++ take count part
written_first room part rest held count h k =
    ap (λ n. take (n + count) (take held room ++ (part ++ rest))) (sym (length-take-le held room h))
    ∙ take-append-add (take held room) (part ++ rest) count
    ∙ ap (λ l. take held room ++ l) (take-append-le count part rest k)

pub refilled : (left0 left : Option (List ℕ)) (room was part rest new : List ℕ) (held count : ℕ) → was ≡ room
    → held < length room → count ≤ length part → 0 < count → Consumes left0 left (take count part)
    → new ≡ take held was ++ (part ++ rest) → Refilled left0 left (take held room) (take (held + count) new)
refilled left0 left room was part rest new held count e h k some took is =
    let all : take (held + count) new ≡ take held room ++ take count part =
    ap (take (held + count)) is ∙ ap (λ l. take (held + count) (take held l ++ (part ++ rest))) e
    ∙ written_first room part rest held count (omega arith) k in
    record {
      seen = record { taken = take count part; consumed = took; all = all };
      some =
          let long : length (take held room) ≡ held = length-take-le held room (omega arith) in
          let few : length (take count part) ≡ count = length-take-le count part k in
          omega (arith, ap length all, length-append (take held room) (take count part));
    }
