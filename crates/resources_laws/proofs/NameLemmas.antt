-- The names of group versions: they tell group and version, but for the core group's, and are ASCII.
use Rattle.std.proofs.Common.{◌≡◌, ℕ, zero, suc, ◌<◌, ◌==◌, Bool, true, false, List, [], ◌∷◌, ◌++◌, get_or, refl, ap, sym, ◌∙◌, arith}
use Rattle.std.proofs.lemmas.Bool.Decides.{nat_tests}
use Rattle.std.proofs.lemmas.Str.{IsUtf8-from_ascii, is_utf8-from_IsUtf8}
use Rattle.std.specs.List.{list_any}
use Rattle.std.specs.Prelude.{◌&&◌, ◌||◌, codes, slice_index}
use Rattle.std.specs.Str.{IsAscii, is_utf8}
use Rattle.apiservice_rows.specs.Object.{are_name_bytes, are_version_bytes, is_name_byte, is_version_byte}
use Rattle.resource_fetch.specs.Version.{group_version}

-- ---- bytes

both : (a b : Bool) → (a && b) ≡ true → (a ≡ true) × (b ≡ true)
both true b e = (refl, e)
both false b e = absurd (cc e)

abbrev pub is_slash : ℕ → Bool
is_slash c = c == 47

no_slash_byte : (c : ℕ) → is_name_byte c ≡ true → is_slash c ≡ false
no_slash_byte c e = grind (arith, nat_tests, e)

small_byte : (c : ℕ) → is_name_byte c ≡ true → c < 128
small_byte c e = grind (arith, nat_tests, e)

small_version_byte : (c : ℕ) → is_version_byte c ≡ true → c < 128
small_version_byte c e = grind (arith, nat_tests, e)

pub no_slash : (text : List ℕ) → are_name_bytes text ≡ true → list_any is_slash text ≡ false
no_slash [] e = refl
no_slash (c ∷ text) e =
    let h = both (is_name_byte c) (are_name_bytes text) e in
    rw (no_slash_byte c h.0) (no_slash text h.1)

ascii_more : (c : ℕ) (text : List ℕ) → c < 128 → IsAscii text → (i : ℕ) → slice_index (c ∷ text) i < 128
ascii_more c text small h zero = small
ascii_more c text small h (suc i) = h i

ascii_none : IsAscii []
ascii_none = λ i. omega arith

version_ascii : (text : List ℕ) → are_version_bytes text ≡ true → IsAscii text
version_ascii [] e = ascii_none
version_ascii (c ∷ text) e =
    let h = both (is_version_byte c) (are_version_bytes text) e in
    ascii_more c text (small_version_byte c h.0) (version_ascii text h.1)

name_ascii : (text rest : List ℕ) → are_name_bytes text ≡ true → IsAscii rest → IsAscii (text ++ rest)
name_ascii [] rest e h = h
name_ascii (c ∷ text) rest e h =
    let own = both (is_name_byte c) (are_name_bytes text) e in
    ascii_more c (text ++ rest) (small_byte c own.0) (name_ascii text rest own.1 h)

-- ---- names

core_ascii : IsAscii (codes "v1")
core_ascii = ascii_more 118 (49 ∷ []) (omega arith) (ascii_more 49 [] (omega arith) ascii_none)

named_ascii : (group version : List ℕ) → are_name_bytes group ≡ true → are_version_bytes version ≡ true → IsAscii (group_version group version)
named_ascii [] version e h = core_ascii
named_ascii (g ∷ group) version e h =
    name_ascii (g ∷ group) (47 ∷ version) e (ascii_more 47 version (omega arith) (version_ascii version h))

pub named_utf8 : (group version : List ℕ) → are_name_bytes group ≡ true → are_version_bytes version ≡ true
    → is_utf8 (group_version group version) ≡ true
named_utf8 group version e h =
    is_utf8-from_IsUtf8 (group_version group version) (IsUtf8-from_ascii (group_version group version) (named_ascii group version e h))

-- a text is cut in one way at its first slash
one_cut : (a b v w : List ℕ) → list_any is_slash a ≡ false → list_any is_slash b ≡ false → a ++ 47 ∷ v ≡ b ++ 47 ∷ w → (a ≡ b) × (v ≡ w)
one_cut [] [] v w p q e = (refl, cc e)
one_cut [] (y ∷ b) v w p q e =
    let same : 47 ≡ y = ap (λ (l : List ℕ). get_or l 0 0) e in
    absurd (first_slash y (list_any is_slash b) same q)
  where
    first_slash : (y : ℕ) (rest : Bool) → 47 ≡ y → (is_slash y || rest) ≡ false → ⊥
    first_slash y rest same q = let t : is_slash y ≡ true = ap is_slash (sym same) in cc (rw t at q)
one_cut (x ∷ a) [] v w p q e =
    let same : x ≡ 47 = ap (λ (l : List ℕ). get_or l 0 0) e in
    absurd (first_slash x (list_any is_slash a) same p)
  where
    first_slash : (x : ℕ) (rest : Bool) → x ≡ 47 → (is_slash x || rest) ≡ false → ⊥
    first_slash x rest same p = let t : is_slash x ≡ true = ap is_slash same in cc (rw t at p)
one_cut (x ∷ a) (y ∷ b) v w p q e =
    let head : x ≡ y = ap (λ (l : List ℕ). get_or l 0 0) e in
    let tail : a ++ 47 ∷ v ≡ b ++ 47 ∷ w = cc e in
    let rest = one_cut a b v w (after_first (is_slash x) (list_any is_slash a) p) (after_first (is_slash y) (list_any is_slash b) q) tail in
    (cc (head, rest.0), rest.1)
  where
    after_first : (c rest : Bool) → (c || rest) ≡ false → rest ≡ false
    after_first true rest h = absurd (cc h)
    after_first false rest h = h

pub named_apart : (g h : ℕ) (a b v w : List ℕ) → are_name_bytes (g ∷ a) ≡ true → are_name_bytes (h ∷ b) ≡ true
    → group_version (g ∷ a) v ≡ group_version (h ∷ b) w → (g ∷ a ≡ h ∷ b) × (v ≡ w)
named_apart g h a b v w p q e = one_cut (g ∷ a) (h ∷ b) v w (no_slash (g ∷ a) p) (no_slash (h ∷ b) q) e

-- only the core group's has no slash
has_slash : (a v : List ℕ) → list_any is_slash (a ++ 47 ∷ v) ≡ true
has_slash [] v = refl
has_slash (x ∷ a) v = either (is_slash x) (has_slash a v)
  where
    either : (b : Bool) → list_any is_slash (a ++ 47 ∷ v) ≡ true → (b || list_any is_slash (a ++ 47 ∷ v)) ≡ true
    either true h = refl
    either false h = h

pub core_apart : (g : ℕ) (a v : List ℕ) → codes "v1" ≡ group_version (g ∷ a) v → ⊥
core_apart g a v e =
    let has : list_any is_slash (codes "v1") ≡ true = ap (list_any is_slash) e ∙ has_slash (g ∷ a) v in
    let none : list_any is_slash (codes "v1") ≡ false = refl in
    cc (has, none)
