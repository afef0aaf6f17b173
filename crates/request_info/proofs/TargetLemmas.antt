-- What a path spells.
use Rattle.std.proofs.Common.{◌≡◌, ℕ, Bool, true, false, ◌&&◌, List, Some, None, refl, sym, IsUtf8}
use Rattle.std.proofs.lemmas.Bool.{cond-true, cond-false}
use Rattle.std.proofs.lemmas.Str.{is_utf8-from_IsUtf8, IsUtf8-from_is_utf8}
use Rattle.std.specs.Str.{is_utf8}
use Rattle.percent_encoding.specs.Percent.{percent_decode}
use Rattle.request_info.specs.Target.{are_escapes_whole, decoded}

both : (a b : Bool) → true ≡ a → b ≡ true → (a && b) ≡ true
both true b e f = f
both false b e f = absurd (cc e)

second : (a b : Bool) → (b ≡ true → ⊥) → (a && b) ≡ false
second true true h = absurd (h refl)
second true false h = refl
second false b h = refl

pub spells : (s bytes : List ℕ) → true ≡ are_escapes_whole 0 s → IsUtf8 (percent_decode s) → bytes ≡ percent_decode s → Some bytes ≡ decoded s
spells s bytes whole utf8 e =
    rw e (sym (cond-true _ _ _ (both (are_escapes_whole 0 s) (is_utf8 (percent_decode s)) whole (is_utf8-from_IsUtf8 _ utf8))))

pub spells_none : (s : List ℕ) → (IsUtf8 (percent_decode s) → ⊥) → None ≡ decoded s
spells_none s isnt =
    sym (cond-false _ _ _ (second (are_escapes_whole 0 s) (is_utf8 (percent_decode s)) (λ e. isnt (IsUtf8-from_is_utf8 _ e))))
