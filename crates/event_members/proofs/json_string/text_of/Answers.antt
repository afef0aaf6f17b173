use Rattle.std.proofs.Common.{◌≡◌, ℕ, List, refl, Bool, true, false, IsUtf8, sym, ap, ◌∙◌, subst, Some}
use Rattle.std.specs.Str.{is_utf8}
use Rattle.std.specs.String.{string_bytes}
use Rattle.std.proofs.lemmas.Str.{IsUtf8-string_bytes, IsUtf8-from_is_utf8, is_utf8-from_IsUtf8}
use Rattle.event_members.specs.TextMembers.{text_at}
use Rattle.event_members.proofs.json_string.text_of.Goals as goal

pub returns-in-Ok : goal.returns-in-Ok
unfolding text_at
returns-in-Ok c =
    let s = c.in_ok-string.string.items in
    let same : string_bytes c.in-Ok.text ≡ s = ap (λ v. v.items) c.in-Ok.ensures.ok in
    let valid : is_utf8 s ≡ true = is_utf8-from_IsUtf8 s (subst IsUtf8 same (IsUtf8-string_bytes c.in-Ok.text)) in
    rw (c.in_ok-string.ensures, valid) (ap (λ (t : List ℕ). Some (t, c.in_ok-string.rest.now)) (sym (c.new.ensures ∙ same)))

invalid : (s : List ℕ) (b : Bool) → is_utf8 s ≡ b → (IsUtf8 s → false ≡ true) → b ≡ false
invalid s true e h = sym (h (IsUtf8-from_is_utf8 s e))
invalid s false e h = refl

pub returns : goal.returns
unfolding text_at
returns c =
    let s = c.in_ok-string.string.items in
    let none : is_utf8 s ≡ false = invalid s (is_utf8 s) refl c.in-Err.ensures.succeeds in
    rw (c.in_ok-string.ensures, none) refl
