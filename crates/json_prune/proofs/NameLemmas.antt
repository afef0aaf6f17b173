-- The names of a path in its text.
use Rattle.std.proofs.Common.{◌≡◌, ℕ, suc, ◌+◌, ◌-◌, ◌≤◌, ◌<◌, ◌∷◌, [], ◌++◌, List, length, take, drop, get_or, Bool, true, false, cond, Option, Some, None, refl, sym, ap, ◌∙◌, inl, inr, arith, length-append, nat_eq, nat_le}
use Rattle.std.specs.Prelude.{◌==◌, ◌&&◌, bytes_eq, option_map}
use Rattle.std.proofs.lemmas.Bool.{cases_lt}
use Rattle.std.proofs.lemmas.Bool.Decides.{nat_tests}
use Rattle.std.proofs.lemmas.List.{drop-drop, drop_all}
use Rattle.std.proofs.Math.Seq.{drop-cons, take-append_seam}
use Rattle.json_span.specs.Member.{in_quotes}
use Rattle.json_prune.specs.Prune.{Path, star}
use Rattle.json_prune.specs.Names.{before_first, split, names_from}
use Rattle.json_prune.specs.Walk.{name_size, behind_name, into_member, into_items}

-- what is left behind the first name's end
abbrev behind : List ℕ → Path
behind [] = []
behind (b ∷ bs) = split bs

abbrev rest_or : Path → Option Path
rest_or [] = None
rest_or (next ∷ path) = Some (next ∷ path)

pub first_name : (xs : List ℕ) → split xs ≡ take (name_size xs) xs ∷ behind (drop (name_size xs) xs)
first_name [] = refl
first_name (b ∷ bs) = by_slash (b == 47) (first_name bs)
  where
    by_slash : (c : Bool) → split bs ≡ take (name_size bs) bs ∷ behind (drop (name_size bs) bs) → cond c ([] ∷ split bs) (before_first b (split bs)) ≡ take (cond c 0 (suc (name_size bs))) (b ∷ bs) ∷ behind (drop (cond c 0 (suc (name_size bs))) (b ∷ bs))
    by_slash true h = refl
    by_slash false h = ap (before_first b) h

pub size_within : (xs : List ℕ) → name_size xs ≤ length xs
size_within [] = omega arith
size_within (b ∷ bs) = by_slash (b == 47) (size_within bs)
  where
    by_slash : (c : Bool) → name_size bs ≤ length bs → cond c 0 (suc (name_size bs)) ≤ suc (length bs)
    by_slash true h = omega arith
    by_slash false h = omega arith

-- ---- measuring a name

name_at : (path : List ℕ) (at : ℕ) → at < length path → name_size (drop at path) ≡ cond (get_or path at 0 == 47) 0 (suc (name_size (drop (at + 1) path)))
name_at path at h =
    let next : suc at ≡ at + 1 = omega arith in
    ap name_size (drop-cons path at 0 h) ∙ ap (λ i. cond (get_or path at 0 == 47) 0 (suc (name_size (drop i path)))) next

pub slash_here : (path : List ℕ) (at : ℕ) → at < length path → get_or path at 0 ≡ 47 → name_size (drop at path) ≡ 0
slash_here path at h e = name_at path at h ∙ ap (λ b. cond (b == 47) 0 (suc (name_size (drop (at + 1) path)))) e

pub no_slash : (path : List ℕ) (at : ℕ) → at < length path → ¬ (get_or path at 0 ≡ 47) → name_size (drop at path) ≡ suc (name_size (drop (at + 1) path))
no_slash path at h e =
    let slash : (get_or path at 0 == 47) ≡ false = grind (arith, nat_tests) in
    name_at path at h ∙ ap (λ c. cond c 0 (suc (name_size (drop (at + 1) path)))) slash

pub name_over : (path : List ℕ) (at : ℕ) → length path ≤ at → name_size (drop at path) ≡ 0
name_over path at past = ap name_size (drop_all at path past)

-- ---- the names from a byte on

pub names_past : (path : List ℕ) (from : ℕ) → length path < from → names_from path from ≡ []
names_past path from h =
    let test : nat_le from (length path) ≡ false = grind (arith, nat_tests) in ap (λ c. cond c (split (drop from path)) []) test

pub names_within : (path : List ℕ) (from : ℕ) → from ≤ length path → names_from path from ≡ split (drop from path)
names_within path from h =
    let test : nat_le from (length path) ≡ true = grind (arith, nat_tests) in ap (λ c. cond c (split (drop from path)) []) test

-- the first name, and what is left behind its end
names_first : (path : List ℕ) (from end : ℕ) → from ≤ length path → end ≡ from + name_size (drop from path) →
    names_from path from ≡ take (end - from) (drop from path) ∷ behind (drop end path)
names_first path from end h is =
    let size : name_size (drop from path) ≡ end - from = omega (arith, is) in
    names_within path from h
    ∙ (first_name (drop from path)
    ∙ (ap (λ k. take k (drop from path) ∷ behind (drop (name_size (drop from path)) (drop from path))) size
    ∙ ap (λ l. take (end - from) (drop from path) ∷ behind l) (drop-drop (name_size (drop from path)) from path ∙ ap (λ i. drop i path) (sym is))))

names_behind : (path : List ℕ) (end : ℕ) → end < length path → behind (drop end path) ≡ names_from path (end + 1)
names_behind path end h =
    let next : suc end ≡ end + 1 = omega arith in
    ap behind (drop-cons path end 0 h) ∙ (ap (λ i. split (drop i path)) next ∙ sym (names_within path (end + 1) (omega (arith, h))))

none_behind : (path : List ℕ) (end : ℕ) → length path ≤ end → behind (drop end path) ≡ []
none_behind path end h = ap behind (drop_all end path h)

-- ---- a name that is asked for

other_name : (name : List ℕ) (rest : Path) (n : List ℕ) → bytes_eq n name ≡ false → behind_name (name ∷ rest) n ≡ Some []
other_name name [] n e = ap (λ c. cond c None (Some [])) e
other_name name (next ∷ path) n e = ap (λ c. cond c (Some (next ∷ path)) (Some [])) e

this_name : (name : List ℕ) (rest : Path) (n : List ℕ) → bytes_eq n name ≡ true → behind_name (name ∷ rest) n ≡ rest_or rest
this_name name [] n e = ap (λ c. cond c None (Some [])) e
this_name name (next ∷ path) n e = ap (λ c. cond c (Some (next ∷ path)) (Some [])) e

-- past the path, or where another name is asked for, none is left
step_past : (path n : List ℕ) (from : ℕ) → length path < from → option_map (names_from path) (Some (length path + 1)) ≡ behind_name (names_from path from) n
step_past path n from h =
    ap Some (names_past path (length path + 1) (omega arith)) ∙ sym (ap (λ p. behind_name p n) (names_past path from h))

step_other : (path n : List ℕ) (from end : ℕ) → from ≤ length path → end ≡ from + name_size (drop from path) → bytes_eq n (take (end - from) (drop from path)) ≡ false →
    option_map (names_from path) (Some (length path + 1)) ≡ behind_name (names_from path from) n
step_other path n from end h is e =
    ap Some (names_past path (length path + 1) (omega arith))
    ∙ sym (ap (λ p. behind_name p n) (names_first path from end h is) ∙ other_name (take (end - from) (drop from path)) (behind (drop end path)) n e)

pub step_none : (path n : List ℕ) (from end : ℕ) (same : Bool) → (from ≤ length path → end ≡ from + name_size (drop from path)) →
    (from ≤ length path → same ≡ bytes_eq n (take (end - from) (drop from path))) → same ≡ false →
    option_map (names_from path) (Some (length path + 1)) ≡ behind_name (names_from path from) n
step_none path n from end same is asked e =
    elim (cases_lt (length path) from) [
      | inl past ↦ step_past path n from past
      | inr within ↦ step_other path n from end within (is within) (sym (asked within) ∙ e)
    ]

pub step_last : (path n : List ℕ) (from end : ℕ) → from ≤ length path → end ≡ from + name_size (drop from path) → bytes_eq n (take (end - from) (drop from path)) ≡ true → length path ≤ end →
    option_map (names_from path) None ≡ behind_name (names_from path from) n
step_last path n from end h is e past =
    sym (ap (λ p. behind_name p n) (names_first path from end h is ∙ ap (λ r. take (end - from) (drop from path) ∷ r) (none_behind path end past)) ∙ this_name (take (end - from) (drop from path)) [] n e)

pub step_on : (path n : List ℕ) (from end : ℕ) → from ≤ length path → end ≡ from + name_size (drop from path) → bytes_eq n (take (end - from) (drop from path)) ≡ true → end < length path →
    option_map (names_from path) (Some (end + 1)) ≡ behind_name (names_from path from) n
step_on path n from end h is e more =
    let names : names_from path (end + 1) ≡ take (name_size (drop (end + 1) path)) (drop (end + 1) path) ∷ behind (drop (name_size (drop (end + 1) path)) (drop (end + 1) path)) =
    names_within path (end + 1) (omega (arith, more)) ∙ first_name (drop (end + 1) path) in
    let rest : rest_or (names_from path (end + 1)) ≡ Some (names_from path (end + 1)) = ap rest_or names ∙ sym (ap Some names) in
    sym (ap (λ p. behind_name p n) (names_first path from end h is ∙ ap (λ r. take (end - from) (drop from path) ∷ r) (names_behind path end more))
    ∙ (this_name (take (end - from) (drop from path)) (names_from path (end + 1)) n e ∙ rest))

-- ---- names in quotation marks

and_false : (c : Bool) → (c && false) ≡ false
and_false true = refl
and_false false = refl

ends_longer : (ys : List ℕ) → bytes_eq [] (ys ++ 34 ∷ []) ≡ false
ends_longer [] = refl
ends_longer (y ∷ ys) = refl

ends_shorter : (xs : List ℕ) → bytes_eq (xs ++ 34 ∷ []) [] ≡ false
ends_shorter [] = refl
ends_shorter (x ∷ xs) = refl

same_inner : (xs ys : List ℕ) → bytes_eq (xs ++ 34 ∷ []) (ys ++ 34 ∷ []) ≡ bytes_eq xs ys
same_inner [] [] = refl
same_inner [] (y ∷ ys) = ap (λ c. nat_eq 34 y && c) (ends_longer ys) ∙ and_false (nat_eq 34 y)
same_inner (x ∷ xs) [] = ap (λ c. nat_eq x 34 && c) (ends_shorter xs) ∙ and_false (nat_eq x 34)
same_inner (x ∷ xs) (y ∷ ys) = ap (λ c. nat_eq x y && c) (same_inner xs ys)

pub member_name : (p : Path) (n inner : List ℕ) → n ≡ 34 ∷ (inner ++ 34 ∷ []) → into_member p n ≡ behind_name p inner
member_name [] n inner e = refl
member_name (name ∷ []) n inner e = ap (λ c. cond c None (Some [])) (ap (λ l. bytes_eq l (in_quotes name)) e ∙ same_inner inner name)
member_name (name ∷ next ∷ path) n inner e = ap (λ c. cond c (Some (next ∷ path)) (Some [])) (ap (λ l. bytes_eq l (in_quotes name)) e ∙ same_inner inner name)

-- the bytes between the marks
inner_is : (n inner : List ℕ) → n ≡ 34 ∷ (inner ++ 34 ∷ []) → take (length n - 1 - 1) (drop 1 n) ≡ inner
inner_is n inner e =
    let size : length n - 1 - 1 ≡ length inner = omega (arith, ap length e, length-append inner (34 ∷ [])) in
    ap (λ k. take k (drop 1 n)) size ∙ (ap (λ l. take (length inner) (drop 1 l)) e ∙ take-append_seam inner (34 ∷ []))

pub member_step : (path n inner : List ℕ) (from : ℕ) (o : Option ℕ) → n ≡ 34 ∷ (inner ++ 34 ∷ []) → option_map (names_from path) o ≡ behind_name (names_from path from) (take (length n - 1 - 1) (drop 1 n)) →
    option_map (names_from path) o ≡ into_member (names_from path from) n
member_step path n inner from o e h =
    h ∙ (ap (behind_name (names_from path from)) (inner_is n inner e) ∙ sym (member_name (names_from path from) n inner e))

-- ---- items

pub items_none : (p : Path) → behind_name p star ≡ None → into_items p ≡ []
items_none [] e = absurd (cc)
items_none (name ∷ []) e = refl
items_none (name ∷ next ∷ path) e = by_name (bytes_eq star name) e
  where
    by_name : (c : Bool) → cond c (Some (next ∷ path)) (Some []) ≡ None → cond c (next ∷ path) [] ≡ []
    by_name true k = absurd (cc)
    by_name false k = refl

pub items_some : (p q : Path) → behind_name p star ≡ Some q → into_items p ≡ q
items_some [] q e = cc
items_some (name ∷ []) q e = by_name (bytes_eq star name) e
  where
    by_name : (c : Bool) → cond c None (Some []) ≡ Some q → [] ≡ q
    by_name true k = absurd (cc)
    by_name false k = cc
items_some (name ∷ next ∷ path) q e = by_name (bytes_eq star name) e
  where
    by_name : (c : Bool) → cond c (Some (next ∷ path)) (Some []) ≡ Some q → cond c (next ∷ path) [] ≡ q
    by_name true k = cc
    by_name false k = cc
