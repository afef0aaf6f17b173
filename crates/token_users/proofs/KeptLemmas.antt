-- What loops keep of lists, one element after another.
use Rattle.std.proofs.Common.{◌≡◌, ℕ, ◌+◌, ◌<◌, ◌≤◌, ◌∷◌, [], ◌++◌, List, length, drop, get_or, map, Bool, true, false, Some, None, refl, sym, ap, ◌∙◌, append_assoc}
use Rattle.std.specs.Prelude.{◌&&◌, filter, if◌then◌else◌}
use Rattle.std.specs.Borrow.{Bor}
use Rattle.std.specs.List.{list_all}
use Rattle.std.proofs.lemmas.List.{append-nil, drop_all, drop_more}
use Rattle.http_head.specs.Name.{is_named}
use Rattle.http_head.specs.declared.header.Header.{Header}
use Rattle.token_users.specs.Act.{is_name, name_in, names, values}
use Rattle.token_users.specs.File.{is_some_text, texts_of}

-- ---- the groups of a field

part_more : (parts : List (Bor (List ℕ))) (i : ℕ) (d : Bor (List ℕ)) (some : Bool) → i < length parts → is_some_text (get_or parts i d).now ≡ some →
    filter is_some_text (texts_of (drop i parts)) ≡ (if some then (get_or parts i d).now ∷ filter is_some_text (texts_of (drop (i + 1) parts)) else filter is_some_text (texts_of (drop (i + 1) parts)))
part_more parts i d some h e =
    ap (λ l. filter is_some_text (texts_of l)) (drop_more parts i d h)
    ∙ ap (λ c. if c then (get_or parts i d).now ∷ filter is_some_text (texts_of (drop (i + 1) parts)) else filter is_some_text (texts_of (drop (i + 1) parts))) e

pub part_kept : (parts : List (Bor (List ℕ))) (i : ℕ) (d : Bor (List ℕ)) (done all : List (List ℕ)) → i < length parts → is_some_text (get_or parts i d).now ≡ true →
    done ++ filter is_some_text (texts_of (drop i parts)) ≡ all → (done ++ (get_or parts i d).now ∷ []) ++ filter is_some_text (texts_of (drop (i + 1) parts)) ≡ all
part_kept parts i d done all h e sum =
    append_assoc done ((get_or parts i d).now ∷ []) (filter is_some_text (texts_of (drop (i + 1) parts)))
    ∙ (ap (λ l. done ++ l) (sym (part_more parts i d true h e)) ∙ sum)

pub part_left_out : (parts : List (Bor (List ℕ))) (i : ℕ) (d : Bor (List ℕ)) (done all : List (List ℕ)) → i < length parts → is_some_text (get_or parts i d).now ≡ false →
    done ++ filter is_some_text (texts_of (drop i parts)) ≡ all → done ++ filter is_some_text (texts_of (drop (i + 1) parts)) ≡ all
part_left_out parts i d done all h e sum = ap (λ l. done ++ l) (sym (part_more parts i d false h e)) ∙ sum

-- ---- the values of the headers of a name

value_first : (b : Bool) (h : Header) (hs : List Header) → map (λ (h : Header). h.value) (if b then h ∷ hs else hs) ≡ (if b then h.value ∷ map (λ (h : Header). h.value) hs else map (λ (h : Header). h.value) hs)
value_first true h hs = refl
value_first false h hs = refl

value_more : (name : List ℕ) (headers : List Header) (i : ℕ) (h : Header) (named : Bool) → i < length headers → h ≡ get_or headers i h → is_named name h.name ≡ named →
    values name (drop i headers) ≡ (if named then h.value ∷ values name (drop (i + 1) headers) else values name (drop (i + 1) headers))
value_more name headers i h named within is e =
    ap (values name) (drop_more headers i h within ∙ ap (λ x. x ∷ drop (i + 1) headers) (sym is))
    ∙ (value_first (is_named name h.name) h (filter (λ (h : Header). is_named name h.name) (drop (i + 1) headers))
    ∙ ap (λ c. if c then h.value ∷ values name (drop (i + 1) headers) else values name (drop (i + 1) headers)) e)

name_some : (b : Bool) (value text : List ℕ) → Some text ≡ (if b then Some value else None) → (b ≡ true) × (text ≡ value)
name_some true value text h = (refl, cc h)
name_some false value text h = absurd (cc h)

pub value_kept : (name : List ℕ) (headers : List Header) (i : ℕ) (h : Header) (done kept : List (List ℕ)) (value : List ℕ) → i < length headers → h ≡ get_or headers i h → is_named name h.name ≡ true →
    Some value ≡ name_in h.value → kept ≡ done ++ value ∷ [] →
    list_all is_name (values name (drop i headers)) ≡ list_all is_name (values name headers) → done ++ values name (drop i headers) ≡ values name headers →
    (list_all is_name (values name (drop (i + 1) headers)) ≡ list_all is_name (values name headers)) × (kept ++ values name (drop (i + 1) headers) ≡ values name headers)
value_kept name headers i h done kept value within is named found pushed all sum =
    let more = value_more name headers i h true within is named in
    let good = name_some (is_name h.value) h.value value found in
    let rest : List (List ℕ) = values name (drop (i + 1) headers) in (
      sym (ap (λ c. c && list_all is_name rest) good.0) ∙ (sym (ap (list_all is_name) more) ∙ all),
      ap (λ l. l ++ rest) (pushed ∙ ap (λ v. done ++ v ∷ []) good.1) ∙ (append_assoc done (h.value ∷ []) rest ∙ (ap (λ l. done ++ l) (sym more) ∙ sum)),
    )

pub value_passed : (name : List ℕ) (headers : List Header) (i : ℕ) (h : Header) (done : List (List ℕ)) → i < length headers → h ≡ get_or headers i h → is_named name h.name ≡ false →
    list_all is_name (values name (drop i headers)) ≡ list_all is_name (values name headers) → done ++ values name (drop i headers) ≡ values name headers →
    (list_all is_name (values name (drop (i + 1) headers)) ≡ list_all is_name (values name headers)) × (done ++ values name (drop (i + 1) headers) ≡ values name headers)
value_passed name headers i h done within is other all sum =
    let more = value_more name headers i h false within is other in
    (sym (ap (list_all is_name) more) ∙ all, ap (λ l. done ++ l) (sym more) ∙ sum)

name_none : (b : Bool) (value : List ℕ) → None ≡ (if b then Some value else None) → b ≡ false
name_none true value h = absurd (cc h)
name_none false value h = refl

-- one of the values is no name
pub value_refused : (name : List ℕ) (headers : List Header) (i : ℕ) (h : Header) → i < length headers → h ≡ get_or headers i h → is_named name h.name ≡ true → None ≡ name_in h.value →
    list_all is_name (values name (drop i headers)) ≡ list_all is_name (values name headers) → None ≡ names name headers
value_refused name headers i h within is named bad all =
    let more = value_more name headers i h true within is named in
    let no : false ≡ list_all is_name (values name headers) =
    sym (ap (λ c. c && list_all is_name (values name (drop (i + 1) headers))) (name_none (is_name h.value) h.value bad)) ∙ (sym (ap (list_all is_name) more) ∙ all) in
    ap (λ c. if c then Some (values name headers) else None) no

-- all values are names
pub values_kept : (name : List ℕ) (headers : List Header) (i : ℕ) (done found : List (List ℕ)) → length headers ≤ i → found ≡ done →
    list_all is_name (values name (drop i headers)) ≡ list_all is_name (values name headers) → done ++ values name (drop i headers) ≡ values name headers → Some found ≡ names name headers
values_kept name headers i done found past is all sum =
    let end = drop_all i headers past in
    let yes : true ≡ list_all is_name (values name headers) = sym (ap (λ l. list_all is_name (values name l)) end) ∙ all in
    let same : done ≡ values name headers = sym (append-nil done) ∙ (sym (ap (λ l. done ++ values name l) end) ∙ sum) in
    ap Some (is ∙ same) ∙ ap (λ c. if c then Some (values name headers) else None) yes
