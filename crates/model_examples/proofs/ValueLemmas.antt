-- Which bytes are one JSON text can be decided, by trying each place at which a text may have two parts.
use Rattle.std.proofs.Common.{◌≡◌, ℕ, zero, suc, ◌≤◌, ◌∷◌, [], ◌++◌, List, length, Bool, true, false, refl, sym, ap, ◌∙◌, subst, inl, inr, arith, max}
use Rattle.std.specs.Prelude.{◌⊎◌}
use Rattle.json_span.specs.Strings.{AreBlanks, IsString}
use Rattle.json_span.specs.Value.{comma_if, Value, token, array, object, Items, no_items, item, Members, no_members, member, depth, depth_items, depth_members, IsToken, Padded, Spells, SpellsItems, SpellsMembers, max_depth, IsText}
use Rattle.model_examples.proofs.CutLemmas.{Decided, both, either, reworded, same_number, same_text, Cut, cut, cut_any}
use Rattle.model_examples.proofs.TokenLemmas.{are_blanks, is_string, is_token, padded}

-- ---- what is decided: that some value is spelled so, which is no deeper than that

abbrev IsValue : ℕ → List ℕ → Type 0
IsValue d t = (v : Value) × Spells v t × (depth v ≤ d)

abbrev AreItems : ℕ → Bool → List ℕ → Type 0
AreItems d later t = (vs : Items) × SpellsItems later vs t × (depth_items vs ≤ d)

abbrev AreMembers : ℕ → Bool → List ℕ → Type 0
AreMembers d later t = (ms : Members) × SpellsMembers later ms t × (depth_members ms ≤ d)

-- ---- items

abbrev IsItemsEnd : List ℕ → Type 0
IsItemsEnd = Cut AreBlanks (λ ys. ys ≡ 93 ∷ [])

-- a value and those after it
abbrev AreMoreItems : ℕ → List ℕ → Type 0
AreMoreItems d = Cut (Padded (IsValue d)) (AreItems d true)

-- blanks stand round a value
value_in : (d : ℕ) (t : List ℕ) → Padded (IsValue d) t → (v : Value) × Padded (Spells v) t × (depth v ≤ d)
value_in d t h = (h.4.0, (h.0, h.1, h.2, h.3, h.4.1, h.5, h.6), h.4.2)

value_out : (d : ℕ) (t : List ℕ) (v : Value) → Padded (Spells v) t → depth v ≤ d → Padded (IsValue d) t
value_out d t v h fits = (h.0, h.1, h.2, h.3, (v, h.4, fits), h.5, h.6)

max_both : (m n d : ℕ) → m ≤ d → n ≤ d → max m n ≤ d
max_both m n d h k = omega (arith, h, k)

one_item : (c : Bool) (v : Value) (vs : Items) (first rest all : List ℕ) → Padded (Spells v) first → SpellsItems true vs rest → all ≡ first ++ rest → SpellsItems c (item v vs) (comma_if c ++ all)
one_item false v vs first rest all h are e = (first, rest, h, are, e)
one_item true v vs first rest all h are e = (first, rest, h, are, ap (λ l. 44 ∷ l) e)

more_items : (d : ℕ) (later : Bool) (t : List ℕ) → AreMoreItems d t → AreItems d later (comma_if later ++ t)
more_items d later t s = by_value (value_in d s.0 s.2) s.3
  where
    by_value : (v : Value) × Padded (Spells v) s.0 × (depth v ≤ d) → AreItems d true s.1 → AreItems d later (comma_if later ++ t)
    by_value (v, h, fits) (vs, are, within) =
        (item v vs, one_item later v vs s.0 s.1 t h are s.4, max_both (depth v) (depth_items vs) d fits within)

-- ---- items after the first

items_later : (d : ℕ) (b : ℕ) (bs : List ℕ) → ((b ∷ bs ≡ 93 ∷ []) ⊎ ((b ≡ 44) × AreMoreItems d bs)) → AreItems d true (b ∷ bs)
items_later d b bs (inl e) = (no_items, e, omega arith)
items_later d b bs (inr h) = subst (λ k. AreItems d true (k ∷ bs)) (sym h.0) (more_items d true bs h.1)

items_later_parts : (d : ℕ) (b : ℕ) (bs : List ℕ) → AreItems d true (b ∷ bs) → (b ∷ bs ≡ 93 ∷ []) ⊎ ((b ≡ 44) × AreMoreItems d bs)
items_later_parts d b bs (no_items, e, fits) = inl e
items_later_parts d b bs (item v vs, h, fits) =
    let head : b ≡ 44 = cc h.4 in
    let tail : bs ≡ h.0 ++ h.1 = cc h.4 in
    inr (head, (h.0, h.1, value_out d h.0 v h.2 (omega (arith, fits)), (vs, h.3, omega (arith, fits)), tail))

no_items_here : (d : ℕ) → AreItems d true [] → ⊥
no_items_here d (no_items, e, fits) = absurd (cc e)
no_items_here d (item v vs, h, fits) = absurd (cc h.4)

items_within : (d : ℕ) → ((t : List ℕ) → Decided (IsValue d t)) → (n : ℕ) (t : List ℕ) → length t ≤ n → Decided (AreItems d true t)
items_within d value n [] short = inr (no_items_here d)
items_within d value zero (b ∷ bs) short = absurd (omega (arith, short))
items_within d value (suc n) (b ∷ bs) short = reworded (items_later d b bs) (items_later_parts d b bs)
    (either (same_text (b ∷ bs) (93 ∷ []))
    (both (same_number b 44) (cut (Padded (IsValue d)) (AreItems d true) bs (padded (IsValue d) value) (λ ys less. items_within d value n ys (omega (arith, short, less))))))

more_items_decided : (d : ℕ) → ((t : List ℕ) → Decided (IsValue d t)) → (t : List ℕ) → Decided (AreMoreItems d t)
more_items_decided d value t = cut_any (Padded (IsValue d)) (AreItems d true) t (padded (IsValue d) value) (λ ys. items_within d value (length ys) ys (omega arith))

-- ---- all items

items_first : (d : ℕ) (t : List ℕ) → IsItemsEnd t ⊎ AreMoreItems d t → AreItems d false t
items_first d t (inl s) = (no_items, (s.0, s.2, s.4 ∙ ap (λ l. s.0 ++ l) s.3), omega arith)
items_first d t (inr s) = more_items d false t s

items_first_parts : (d : ℕ) (t : List ℕ) → AreItems d false t → IsItemsEnd t ⊎ AreMoreItems d t
items_first_parts d t (no_items, h, fits) = inl (h.0, 93 ∷ [], h.1, refl, h.2)
items_first_parts d t (item v vs, h, fits) = inr (h.0, h.1, value_out d h.0 v h.2 (omega (arith, fits)), (vs, h.3, omega (arith, fits)), h.4)

items_decided : (d : ℕ) → ((t : List ℕ) → Decided (IsValue d t)) → (t : List ℕ) → Decided (AreItems d false t)
items_decided d value t = reworded (items_first d t) (items_first_parts d t)
    (either (cut_any AreBlanks (λ ys. ys ≡ 93 ∷ []) t are_blanks (λ ys. same_text ys (93 ∷ []))) (more_items_decided d value t))

-- ---- members

abbrev IsMembersEnd : List ℕ → Type 0
IsMembersEnd = Cut AreBlanks (λ ys. ys ≡ 125 ∷ [])

-- a value and the members after it
abbrev HasMemberValue : ℕ → List ℕ → Type 0
HasMemberValue d = Cut (Padded (IsValue d)) (AreMembers d true)

abbrev AfterColon : ℕ → List ℕ → Type 0
AfterColon d [] = ⊥
AfterColon d (b ∷ bs) = (b ≡ 58) × HasMemberValue d bs

-- a member and those after it
abbrev AreMoreMembers : ℕ → List ℕ → Type 0
AreMoreMembers d = Cut (Padded IsString) (AfterColon d)

-- blanks stand round a name
name_in : (t : List ℕ) → Padded IsString t → (n : List ℕ) × IsString n × Padded (λ x. x ≡ n) t
name_in t h = (h.1, h.4, (h.0, h.1, h.2, h.3, refl, h.5, h.6))

name_out : (t n : List ℕ) → IsString n → Padded (λ x. x ≡ n) t → Padded IsString t
name_out t n is h = (h.0, h.1, h.2, h.3, subst IsString (sym h.4) is, h.5, h.6)

one_member : (c : Bool) (n : List ℕ) (v : Value) (ms : Members) (name first rest all : List ℕ) → IsString n → Padded (λ x. x ≡ n) name → Padded (Spells v) first → SpellsMembers true ms rest
    → all ≡ name ++ (58 ∷ (first ++ rest)) → SpellsMembers c (member n v ms) (comma_if c ++ all)
one_member false n v ms name first rest all is h k are e = (name, first, rest, is, h, k, are, e)
one_member true n v ms name first rest all is h k are e = (name, first, rest, is, h, k, are, ap (λ l. 44 ∷ l) e)

more_members : (d : ℕ) (later : Bool) (t : List ℕ) → AreMoreMembers d t → AreMembers d later (comma_if later ++ t)
more_members d later t (name, [], is, h, e) = absurd h
more_members d later t (name, b ∷ bs, is, h, e) = by_parts (name_in name is) (value_in d h.1.0 h.1.2) h.1.3
  where
    all : t ≡ name ++ (58 ∷ (h.1.0 ++ h.1.1))
    all = e ∙ ap (λ l. name ++ l) (ap (λ k. k ∷ bs) h.0 ∙ ap (λ l. 58 ∷ l) h.1.4)

    by_parts : (n : List ℕ) × IsString n × Padded (λ x. x ≡ n) name → (v : Value) × Padded (Spells v) h.1.0 × (depth v ≤ d) → AreMembers d true h.1.1 → AreMembers d later (comma_if later ++ t)
    by_parts (n, string, round) (v, spells, fits) (ms, are, within) =
        (member n v ms, one_member later n v ms name h.1.0 h.1.1 t string round spells are all, max_both (depth v) (depth_members ms) d fits within)

more_members_parts : (d : ℕ) (n : List ℕ) (v : Value) (ms : Members) (name first rest t : List ℕ) → IsString n → Padded (λ x. x ≡ n) name → Padded (Spells v) first → SpellsMembers true ms rest
    → depth_members (member n v ms) ≤ d → t ≡ name ++ (58 ∷ (first ++ rest)) → AreMoreMembers d t
more_members_parts d n v ms name first rest t is h k are fits e =
    (name, 58 ∷ (first ++ rest), name_out name n is h, (refl, (first, rest, value_out d first v k (omega (arith, fits)), (ms, are, omega (arith, fits)), refl)), e)

-- ---- members after the first

members_later : (d : ℕ) (b : ℕ) (bs : List ℕ) → ((b ∷ bs ≡ 125 ∷ []) ⊎ ((b ≡ 44) × AreMoreMembers d bs)) → AreMembers d true (b ∷ bs)
members_later d b bs (inl e) = (no_members, e, omega arith)
members_later d b bs (inr h) = subst (λ k. AreMembers d true (k ∷ bs)) (sym h.0) (more_members d true bs h.1)

members_later_parts : (d : ℕ) (b : ℕ) (bs : List ℕ) → AreMembers d true (b ∷ bs) → (b ∷ bs ≡ 125 ∷ []) ⊎ ((b ≡ 44) × AreMoreMembers d bs)
members_later_parts d b bs (no_members, e, fits) = inl e
members_later_parts d b bs (member n v ms, h, fits) =
    let head : b ≡ 44 = cc h.7 in
    let tail : bs ≡ h.0 ++ (58 ∷ (h.1 ++ h.2)) = cc h.7 in
    inr (head, more_members_parts d n v ms h.0 h.1 h.2 bs h.3 h.4 h.5 h.6 fits tail)

no_members_here : (d : ℕ) → AreMembers d true [] → ⊥
no_members_here d (no_members, e, fits) = absurd (cc e)
no_members_here d (member n v ms, h, fits) = absurd (cc h.7)

after_colon : (d : ℕ) → ((t : List ℕ) → Decided (IsValue d t)) → (t : List ℕ) → ((ys : List ℕ) → length ys ≤ length t → Decided (AreMembers d true ys)) → Decided (AfterColon d t)
after_colon d value [] members = inr (λ h. h)
after_colon d value (b ∷ bs) members = both (same_number b 58) (cut (Padded (IsValue d)) (AreMembers d true) bs (padded (IsValue d) value) (λ ys less. members ys (omega (arith, less))))

more_members_decided : (d : ℕ) → ((t : List ℕ) → Decided (IsValue d t)) → (t : List ℕ) → ((ys : List ℕ) → length ys ≤ length t → Decided (AreMembers d true ys)) → Decided (AreMoreMembers d t)
more_members_decided d value t members = cut (Padded IsString) (AfterColon d) t (padded IsString is_string) (λ ys less. after_colon d value ys (λ zs fewer. members zs (omega (arith, less, fewer))))

members_within : (d : ℕ) → ((t : List ℕ) → Decided (IsValue d t)) → (n : ℕ) (t : List ℕ) → length t ≤ n → Decided (AreMembers d true t)
members_within d value n [] short = inr (no_members_here d)
members_within d value zero (b ∷ bs) short = absurd (omega (arith, short))
members_within d value (suc n) (b ∷ bs) short = reworded (members_later d b bs) (members_later_parts d b bs)
    (either (same_text (b ∷ bs) (125 ∷ []))
    (both (same_number b 44) (more_members_decided d value bs (λ ys less. members_within d value n ys (omega (arith, short, less))))))

-- ---- all members

members_first : (d : ℕ) (t : List ℕ) → IsMembersEnd t ⊎ AreMoreMembers d t → AreMembers d false t
members_first d t (inl s) = (no_members, (s.0, s.2, s.4 ∙ ap (λ l. s.0 ++ l) s.3), omega arith)
members_first d t (inr s) = more_members d false t s

members_first_parts : (d : ℕ) (t : List ℕ) → AreMembers d false t → IsMembersEnd t ⊎ AreMoreMembers d t
members_first_parts d t (no_members, h, fits) = inl (h.0, 125 ∷ [], h.1, refl, h.2)
members_first_parts d t (member n v ms, h, fits) = inr (more_members_parts d n v ms h.0 h.1 h.2 t h.3 h.4 h.5 h.6 fits h.7)

members_decided : (d : ℕ) → ((t : List ℕ) → Decided (IsValue d t)) → (t : List ℕ) → Decided (AreMembers d false t)
members_decided d value t = reworded (members_first d t) (members_first_parts d t)
    (either (cut_any AreBlanks (λ ys. ys ≡ 125 ∷ []) t are_blanks (λ ys. same_text ys (125 ∷ [])))
    (more_members_decided d value t (λ ys less. members_within d value (length ys) ys (omega arith))))

-- ---- values

abbrev Opens : ℕ → (List ℕ → Type 0) → List ℕ → Type 0
Opens a P [] = ⊥
Opens a P (b ∷ bs) = (b ≡ a) × P bs

opens : (a : ℕ) (P : List ℕ → Type 0) → ((t : List ℕ) → Decided (P t)) → (t : List ℕ) → Decided (Opens a P t)
opens a P p [] = inr (λ h. h)
opens a P p (b ∷ bs) = both (same_number b a) (p bs)

-- a token, an array or an object
abbrev Kinds : ℕ → List ℕ → Type 0
Kinds d t = IsToken t ⊎ (Opens 91 (AreItems d false) t ⊎ Opens 123 (AreMembers d false) t)

value_of : (d : ℕ) (t : List ℕ) → Kinds d t → IsValue (suc d) t
value_of d t (inl h) = (token t, (h, refl), omega arith)
value_of d [] (inr (inl h)) = absurd h
value_of d [] (inr (inr h)) = absurd h
value_of d (b ∷ bs) (inr (inl (e, (vs, are, fits)))) = (array vs, (bs, are, ap (λ k. k ∷ bs) e), omega (arith, fits))
value_of d (b ∷ bs) (inr (inr (e, (ms, are, fits)))) = (object ms, (bs, are, ap (λ k. k ∷ bs) e), omega (arith, fits))

opened : (a : ℕ) (P : List ℕ → Type 0) (t inner : List ℕ) → P inner → t ≡ a ∷ inner → Opens a P t
opened a P [] inner h e = absurd (cc e)
opened a P (b ∷ bs) inner h e =
    let head : b ≡ a = cc e in
    let tail : inner ≡ bs = cc e in
    (head, subst P tail h)

kinds_of : (d : ℕ) (t : List ℕ) → IsValue (suc d) t → Kinds d t
kinds_of d t (token k, h, fits) = inl (subst IsToken (sym h.1) h.0)
kinds_of d t (array vs, h, fits) = inr (inl (opened 91 (AreItems d false) t h.0 (vs, h.1, omega (arith, fits)) h.2))
kinds_of d t (object ms, h, fits) = inr (inr (opened 123 (AreMembers d false) t h.0 (ms, h.1, omega (arith, fits)) h.2))

bare_token : (t : List ℕ) → IsValue 0 t → IsToken t
bare_token t (token k, h, fits) = subst IsToken (sym h.1) h.0
bare_token t (array vs, h, fits) = absurd (omega (arith, fits))
bare_token t (object ms, h, fits) = absurd (omega (arith, fits))

is_value : (d : ℕ) (t : List ℕ) → Decided (IsValue d t)
is_value zero t = reworded (λ h. (token t, (h, refl), omega arith)) (bare_token t) (is_token t)
is_value (suc d) t = reworded (value_of d t) (kinds_of d t)
    (either (is_token t) (either (opens 91 (AreItems d false) (items_decided d (is_value d)) t) (opens 123 (AreMembers d false) (members_decided d (is_value d)) t)))

text_of : (t : List ℕ) → Padded (IsValue max_depth) t → IsText t
text_of t h = let p = value_in max_depth t h in (p.0, (p.1, p.2))

value_at : (t : List ℕ) → IsText t → Padded (IsValue max_depth) t
value_at t h = value_out max_depth t h.0 h.1.0 h.1.1

pub is_text : (t : List ℕ) → Decided (IsText t)
is_text t = reworded (text_of t) (value_at t) (padded (IsValue max_depth) (is_value max_depth) t)
