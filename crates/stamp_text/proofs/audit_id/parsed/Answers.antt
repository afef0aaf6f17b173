use Rattle.std.proofs.Common.{◌≡◌, ℕ, List, Option, Some, None, false, true, refl, sym}
use Rattle.uuid.specs.Text.{parsed}
use Rattle.stamp_text.proofs.audit_id.parsed.Goals as goal

none_if : (o : Option (List ℕ)) → (((u : List ℕ) × (o ≡ Some u)) → false ≡ true) → o ≡ None
none_if None h = refl
none_if (Some u) h = absurd (cc (h (u, refl)))

pub returns-in-Err : goal.returns-in-Err
returns-in-Err c = sym (none_if (parsed c.args.text.now) c.in-Err.ensures.ok.1)
