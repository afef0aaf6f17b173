-- Members that were written are read again, each with the comma after it.
use Rattle.std.proofs.Common.{◌≡◌, ℕ, zero, suc, ◌<◌, ◌≤◌, true, List, [], ◌∷◌, ◌++◌, length, map, Some, None, refl, ap, sym, ◌∙◌, append_assoc, arith}
use Rattle.std.specs.List.{AllByRecursion}
use Rattle.std.specs.Str.{is_utf8}
use Rattle.std.proofs.lemmas.List.{append-nil, length-append}
use Rattle.json_span.specs.Member.{in_quotes}
use Rattle.json_span.specs.Quote.{quoted}
use Rattle.event_text.specs.Members.{member, joined, after_commas, object, list_of, text, text_if_any, list_if_any, object_if_any}
use Rattle.event_members.specs.TextMembers.{after_word, up_to, item_at, skip_comma, text_member_at, text_if_at, texts_at, texts_if_at, object_end, comma_after}
use Rattle.event_members.specs.ReadBack.{Names, Misses}
use Rattle.event_members.proofs.StringLemmas.{text_again}

-- ---- commas

joined-cons : (m : List ℕ) (ms : List (List ℕ)) → joined (m ∷ ms) ≡ m ++ after_commas ms
joined-cons m [] = sym (append-nil m)
joined-cons m (n ∷ ms) = ap (λ l. m ++ 44 ∷ l) (joined-cons n ms)

pub comma_skipped : (ms : List (List ℕ)) (t : List ℕ) → skip_comma t ≡ t → skip_comma (after_commas ms ++ t) ≡ joined ms ++ t
comma_skipped [] t h = h
comma_skipped (m ∷ ms) t h = ap (λ l. l ++ t) (sym (joined-cons m ms))

-- what stands first among members
pub first_is : (name value : List ℕ) (ms : List (List ℕ)) (t : List ℕ) →
    joined (member name value ∷ ms) ++ t ≡ in_quotes name ++ 58 ∷ (value ++ (after_commas ms ++ t))
first_is name value ms t =
    ap (λ l. l ++ t) (joined-cons (member name value) ms)
    ∙ (append_assoc (member name value) (after_commas ms) t
    ∙ append_assoc (in_quotes name) (58 ∷ value) (after_commas ms ++ t))

pub value_again : (label name value : List ℕ) (ms : List (List ℕ)) (t : List ℕ) → Names label name →
    after_word label (joined (member name value ∷ ms) ++ t) ≡ Some (value ++ (after_commas ms ++ t))
value_again label name value ms t names = ap (after_word label) (first_is name value ms t) ∙ names (value ++ (after_commas ms ++ t))

pub value_missed : (label name value : List ℕ) (ms : List (List ℕ)) (t : List ℕ) → Misses label name →
    after_word label (joined (member name value ∷ ms) ++ t) ≡ None
value_missed label name value ms t misses = ap (after_word label) (first_is name value ms t) ∙ misses (value ++ (after_commas ms ++ t))

-- ---- texts

pub item_again : (v : List ℕ) (ms : List (List ℕ)) (t : List ℕ) → skip_comma t ≡ t → is_utf8 v ≡ true →
    item_at (quoted v ++ (after_commas ms ++ t)) ≡ Some (v, joined ms ++ t)
item_again v ms t ends valid =
    rw (text_again v (after_commas ms ++ t) valid) (ap (λ (l : List ℕ). Some (v, l)) (comma_skipped ms t ends))

pub text_member_again : (label name v : List ℕ) (ms : List (List ℕ)) (t : List ℕ) → Names label name → skip_comma t ≡ t → is_utf8 v ≡ true →
    text_member_at label (joined (text name v ∷ ms) ++ t) ≡ Some (v, joined ms ++ t)
unfolding text_member_at
text_member_again label name v ms t names ends valid =
    rw (value_again label name (quoted v) ms t names) (item_again v ms t ends valid)

pub text_if_again : (label name v : List ℕ) (ms : List (List ℕ)) (t : List ℕ) → Names label name → skip_comma t ≡ t → is_utf8 v ≡ true →
    after_word label (joined ms ++ t) ≡ None → text_if_at label (joined (text_if_any name v ++ ms) ++ t) ≡ Some (v, joined ms ++ t)
unfolding text_if_at
text_if_again label name [] ms t names ends valid lacks = rw lacks refl
text_if_again label name (c ∷ cs) ms t names ends valid lacks =
    rw (value_again label name (quoted (c ∷ cs)) ms t names) (item_again (c ∷ cs) ms t ends valid)

-- another member that may be left out is passed by
pub lacks_text : (label name v : List ℕ) (ms : List (List ℕ)) (t : List ℕ) → Misses label name →
    after_word label (joined ms ++ t) ≡ None → after_word label (joined (text_if_any name v ++ ms) ++ t) ≡ None
lacks_text label name [] ms t misses lacks = lacks
lacks_text label name (c ∷ cs) ms t misses lacks = value_missed label name (quoted (c ∷ cs)) ms t misses

pub lacks_list : (label name : List ℕ) (vs ms : List (List ℕ)) (t : List ℕ) → Misses label name →
    after_word label (joined ms ++ t) ≡ None → after_word label (joined (list_if_any name vs ++ ms) ++ t) ≡ None
lacks_list label name [] ms t misses lacks = lacks
lacks_list label name (v ∷ vs) ms t misses lacks = value_missed label name (list_of (v ∷ vs)) ms t misses

pub lacks_object : (label name : List ℕ) (vs ms : List (List ℕ)) (t : List ℕ) → Misses label name →
    after_word label (joined ms ++ t) ≡ None → after_word label (joined (object_if_any name vs ++ ms) ++ t) ≡ None
lacks_object label name [] ms t misses lacks = lacks
lacks_object label name (v ∷ vs) ms t misses lacks = value_missed label name (object (v ∷ vs)) ms t misses

-- ---- lists of texts

abbrev pub AreUtf8 : List (List ℕ) → Type 0
AreUtf8 texts = AllByRecursion (λ v. is_utf8 v ≡ true) texts

-- as many bytes as texts, and more
many_bytes : (vs : List (List ℕ)) (t : List ℕ) → length vs ≤ length (joined (map quoted vs) ++ t)
many_bytes [] t = omega arith
many_bytes (v ∷ vs) t =
    let e = ap length (ap (λ l. l ++ t) (joined-cons (quoted v) (map quoted vs))) in
    let f = ap length (append_assoc (quoted v) (after_commas (map quoted vs)) t) in
    let g = length-append (quoted v) (after_commas (map quoted vs) ++ t) in
    let h = many_after vs t in
    omega arith
  where
    many_after : (vs : List (List ℕ)) (t : List ℕ) → length vs ≤ length (after_commas (map quoted vs) ++ t)
    many_after [] t = omega arith
    many_after (v ∷ vs) t =
        let f = ap length (append_assoc (quoted v) (after_commas (map quoted vs)) t) in
        let g = length-append (quoted v) (after_commas (map quoted vs) ++ t) in
        let h = many_after vs t in
        omega arith

pub items_again : (most : ℕ) (vs : List (List ℕ)) (t : List ℕ) → AreUtf8 vs → length vs < most →
    up_to 93 item_at most (joined (map quoted vs) ++ 93 ∷ t) ≡ Some (vs, t)
unfolding up_to
items_again zero vs t valid h = absurd (omega arith)
items_again (suc most) [] t valid h = refl
items_again (suc most) (v ∷ vs) t valid h =
    let e : joined (map quoted (v ∷ vs)) ++ 93 ∷ t ≡ quoted v ++ (after_commas (map quoted vs) ++ 93 ∷ t) =
    ap (λ l. l ++ 93 ∷ t) (joined-cons (quoted v) (map quoted vs)) ∙ append_assoc (quoted v) (after_commas (map quoted vs)) (93 ∷ t) in
    ap (up_to 93 item_at (suc most)) e
    ∙ rw (item_again v (map quoted vs) (93 ∷ t) refl valid.0, items_again most vs t valid.1 (omega arith)) refl

pub texts_again : (vs : List (List ℕ)) (ms : List (List ℕ)) (t : List ℕ) → skip_comma t ≡ t → AreUtf8 vs →
    texts_at (list_of (map quoted vs) ++ (after_commas ms ++ t)) ≡ Some (vs, joined ms ++ t)
unfolding texts_at
texts_again vs ms t ends valid =
    let rest = after_commas ms ++ t in
    let e : (joined (map quoted vs) ++ 93 ∷ []) ++ rest ≡ joined (map quoted vs) ++ 93 ∷ rest = append_assoc (joined (map quoted vs)) (93 ∷ []) rest in
    let l : length vs < length (joined (map quoted vs) ++ 93 ∷ rest) = omega (arith, many_bytes vs [], length-append (joined (map quoted vs)) [], length-append (joined (map quoted vs)) (93 ∷ rest)) in
    ap (λ x. comma_after (up_to 93 item_at (length x) x)) e
    ∙ rw (items_again (length (joined (map quoted vs) ++ 93 ∷ rest)) vs rest valid l) (ap (λ (l : List ℕ). Some (vs, l)) (comma_skipped ms t ends))

pub texts_if_again : (label name : List ℕ) (vs ms : List (List ℕ)) (t : List ℕ) → Names label name → skip_comma t ≡ t → AreUtf8 vs →
    after_word label (joined ms ++ t) ≡ None → texts_if_at label (joined (list_if_any name (map quoted vs) ++ ms) ++ t) ≡ Some (vs, joined ms ++ t)
unfolding texts_if_at
texts_if_again label name [] ms t names ends valid lacks = rw lacks refl
texts_if_again label name (v ∷ vs) ms t names ends valid lacks =
    rw (value_again label name (list_of (map quoted (v ∷ vs))) ms t names) (texts_again (v ∷ vs) ms t ends valid)

-- ---- objects

pub object_inside : (inner ms : List (List ℕ)) (t : List ℕ) → object inner ++ (after_commas ms ++ t) ≡ 123 ∷ (joined inner ++ 125 ∷ (after_commas ms ++ t))
object_inside inner ms t = ap (λ l. 123 ∷ l) (append_assoc (joined inner) (125 ∷ []) (after_commas ms ++ t))

pub object_end_again : (ms : List (List ℕ)) (t : List ℕ) → skip_comma t ≡ t → object_end (125 ∷ (after_commas ms ++ t)) ≡ Some (joined ms ++ t)
unfolding object_end
object_end_again ms t ends = ap Some (comma_skipped ms t ends)
