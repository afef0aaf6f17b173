-- What is copied of a value, of items and of members.
use Rattle.std.proofs.Common.{◌≡◌, ℕ, suc, ◌+◌, ◌-◌, ◌≤◌, ◌<◌, ◌∷◌, [], ◌++◌, List, length, take, drop, get_or, true, false, Result, Ok, Err, refl, sym, ap, ◌∙◌, subst, inl, inr, arith, min, append_assoc, length-append, length-drop}
use Rattle.std.specs.Prelude.{◌⊎◌, IfOk}
use Rattle.std.proofs.Math.Seq.{take-add, drop-cons, drop-append_seam, take-append_seam}
use Rattle.std.proofs.lemmas.List.{append-nil, take_rest, drop-drop}
use Rattle.json_span.specs.Number.{IsWhole}
use Rattle.json_span.specs.Value.{Value, token, array, object, Items, no_items, item, Members, flat, flat_items, flat_members, IsToken}
use Rattle.json_prune.specs.Mark.{mark_of}
use Rattle.json_prune.specs.declared.mark.Mark.TheVariants.{Quote, Opens, Closes, Other}
use Rattle.json_prune.specs.declared.copied.Copied.{Copied}
use Rattle.json_prune.specs.Prune.{Path}
use Rattle.json_prune.specs.Skip.{value_size, Ends}
use Rattle.json_prune.specs.Tokens.{HasTokens, ItemsHaveTokens, MembersHaveTokens}
use Rattle.json_prune.specs.Walk.{into_items, prune_both, members_left, items_left, written, Copies}
use Rattle.json_prune.proofs.ScanLemmas.{value_stops, literal_apart, number_apart}
use Rattle.json_prune.proofs.PruneLemmas.{both-object, both-array, both-token}

-- ---- what is written

-- bytes that are passed are written
pub written_on : (text out : List ℕ) (from at n : ℕ) → from ≤ at → written text out from (at + n) ≡ written text out from at ++ take n (drop at text)
written_on text out from at n order =
    let size : at + n - from ≡ (at - from) + n = omega arith in
    let there : from + (at - from) ≡ at = omega arith in
    ap (λ i. out ++ take i (drop from text)) size
    ∙ (ap (λ l. out ++ l) (take-add (at - from) n (drop from text))
    ∙ (ap (λ l. out ++ (take (at - from) (drop from text) ++ take n l)) (drop-drop (at - from) from text ∙ ap (λ i. drop i text) there)
    ∙ sym (append_assoc out (take (at - from) (drop from text)) (take n (drop at text)))))

pub written_over : (text out xs ys : List ℕ) (from at : ℕ) → from ≤ at → drop at text ≡ xs ++ ys → written text out from (at + length xs) ≡ written text out from at ++ xs
written_over text out xs ys from at order e =
    written_on text out from at (length xs) order ∙ ap (λ l. written text out from at ++ l) (ap (take (length xs)) e ∙ take-append_seam xs ys)

pub written_here : (text out : List ℕ) (at : ℕ) → written text out at at ≡ out
written_here text out at = let none : at - at ≡ 0 = omega arith in ap (λ i. out ++ take i (drop at text)) none ∙ append-nil out

-- ---- parts of a text

pub drop_behind : (text xs ys : List ℕ) (at : ℕ) → drop at text ≡ xs ++ ys → drop (at + length xs) text ≡ ys
drop_behind text xs ys at e = sym (drop-drop (length xs) at text) ∙ (ap (drop (length xs)) e ∙ drop-append_seam xs ys)

pub first_at : (text bs : List ℕ) (b at : ℕ) → at < length text → drop at text ≡ b ∷ bs → get_or text at 0 ≡ b
first_at text bs b at within e = let both : get_or text at 0 ∷ drop (suc at) text ≡ b ∷ bs = sym (drop-cons text at 0 within) ∙ e in cc both

pub room_for : (text xs ys : List ℕ) (at : ℕ) → at ≤ length text → drop at text ≡ xs ++ ys → at + length xs ≤ length text
room_for text xs ys at within e = omega (arith, length-drop at text, ap length e, length-append xs ys)

pub string_within : (text : List ℕ) (at s : ℕ) → at ≤ length text → s ≤ length (take (length text - at) (drop at text)) → at + s ≤ length text
string_within text at s h k = omega (arith, h, k, ap length (take_rest text at), length-drop at text)

pub value_within : (text : List ℕ) (at s end : ℕ) → at ≤ length text → s ≤ length (take (length text - at) (drop at text)) → end ≡ at + s → end ≤ length text
value_within text at s end h k e = omega (arith, e, string_within text at s h k)

-- the first of all, where nothing was written
pub from_start : (text : List ℕ) (old : Copied) (out those : List ℕ) → old.out.items ≡ [] → old.from ≡ 0 → out ≡ written text old.out.items old.from 0 ++ those → out ≡ those
from_start text old out those none zero_from e =
    e ∙ ap (λ l. l ++ those) (ap (λ l. written text l old.from 0) none ∙ ap (λ k. written text [] k 0) zero_from)

-- ---- a value that begins at a byte

-- what `value_len` answers there
pub value_ends : (text : List ℕ) (v : Value) (rest : List ℕ) (at s : ℕ) → drop at text ≡ flat v ++ rest → HasTokens v → Ends rest → s ≡ value_size (take (length text - at) (drop at text)) → s ≡ length (flat v)
value_ends text v rest at s e h ends is = is ∙ (ap value_size (take_rest text at ∙ e) ∙ value_stops v rest h ends)

-- it is copied as it is
pub copied_whole : (text : List ℕ) (v : Value) (rest : List ℕ) (at s : ℕ) (old : Copied) (those : List ℕ) → old.from ≤ at → drop at text ≡ flat v ++ rest → HasTokens v → Ends rest → s ≡ value_size (take (length text - at) (drop at text)) →
    those ≡ flat v → Copies text at (at + s) old old (flat v) those
copied_whole text v rest at s old those order e h ends is same =
    let size = value_ends text v rest at s e h ends is in (
      ap (λ k. at + k) size,
      ap (λ k. written text old.out.items old.from (at + k)) size ∙ (written_over text old.out.items (flat v) rest old.from at order e ∙ ap (λ l. written text old.out.items old.from at ++ l) (sym same)),
    )

-- a token begins with no bracket
token_mark : (b : ℕ) (bs : List ℕ) → IsToken (b ∷ bs) → (mark_of b ≡ Other) ⊎ (mark_of b ≡ Quote)
token_mark b bs (inl h) = inl (literal_apart (b ∷ bs) h).0.0
token_mark b bs (inr (inl h)) = inl (number_apart (b ∷ bs) h).0.0
token_mark b bs (inr (inr h)) = let quote : b ≡ 34 = cc (h.2) in inr (ap mark_of quote)

token_opens : (b : ℕ) (bs : List ℕ) → IsToken (b ∷ bs) → ¬ (mark_of b ≡ Opens)
token_opens b bs h e = elim (token_mark b bs h) [ inl m ↦ let both = sym m ∙ e in absurd (cc both) | inr m ↦ let both = sym m ∙ e in absurd (cc both) ]

token_closes : (b : ℕ) (bs : List ℕ) → IsToken (b ∷ bs) → ¬ (mark_of b ≡ Closes)
token_closes b bs h e = elim (token_mark b bs h) [ inl m ↦ let both = sym m ∙ e in absurd (cc both) | inr m ↦ let both = sym m ∙ e in absurd (cc both) ]

whole_some : (ds : List ℕ) → IsWhole ds → length ds ≡ 0 → ⊥
whole_some [] h e = h
whole_some (d ∷ ds) h e = omega (arith, e)

token_some : IsToken [] → ⊥
token_some (inl (inl e)) = absurd (cc)
token_some (inl (inr (inl e))) = absurd (cc)
token_some (inl (inr (inr e))) = absurd (cc)
token_some (inr (inl h)) =
    whole_some h.whole h.is_whole (omega (arith, ap length h.is, length-append h.minus (h.whole ++ (h.fraction ++ h.exponent)), length-append h.whole (h.fraction ++ h.exponent)))
token_some (inr (inr h)) = let e = h.2 in absurd (cc e)

no_token : (t rest bs : List ℕ) (b : ℕ) → IsToken t → Ends rest → t ++ rest ≡ b ∷ bs → mark_of b ≡ Opens → ⊥
no_token [] [] bs b h ends e m = absurd (cc e)
no_token [] (r ∷ rest) bs b h (inl k) e m = let same : b ≡ 44 = cc (e, k) in let marked = sym (ap mark_of same) ∙ m in absurd (cc marked)
no_token [] (r ∷ rest) bs b h (inr (inl k)) e m = let same : b ≡ 93 = cc (e, k) in let marked = sym (ap mark_of same) ∙ m in absurd (cc marked)
no_token [] (r ∷ rest) bs b h (inr (inr k)) e m = let same : b ≡ 125 = cc (e, k) in let marked = sym (ap mark_of same) ∙ m in absurd (cc marked)
no_token (c ∷ cs) rest bs b h ends e m = let same : c ≡ b = cc e in token_opens c cs h (ap mark_of same ∙ m)

other_head : (xs ys : List ℕ) (a b : ℕ) → ◌≡◌ {A = List ℕ} (a ∷ xs) (b ∷ ys) → a ≡ b
other_head xs ys a b e = cc e

-- the object and the array that begin with a bracket
pub object_at : (text : List ℕ) (v : Value) (rest : List ℕ) (at : ℕ) → drop at text ≡ flat v ++ rest → HasTokens v → Ends rest → at < length text → get_or text at 0 ≡ 123 → (ms : Members) × (v ≡ object ms)
object_at text (object ms) rest at e h ends within brace = (ms, refl)
object_at text (token t) rest at e h ends within brace =
    let here = sym e ∙ (drop-cons text at 0 within ∙ ap (λ b. b ∷ drop (suc at) text) brace) in absurd (no_token t rest (drop (suc at) text) 123 h ends here refl)
object_at text (array vs) rest at e h ends within brace =
    let here = sym e ∙ (drop-cons text at 0 within ∙ ap (λ b. b ∷ drop (suc at) text) brace) in
    let same : ◌≡◌ {A = ℕ} 91 123 = other_head (flat_items false vs ++ rest) (drop (suc at) text) 91 123 here in absurd (omega (arith, same))

pub array_at : (text : List ℕ) (v : Value) (rest : List ℕ) (at : ℕ) → drop at text ≡ flat v ++ rest → HasTokens v → Ends rest → at < length text → get_or text at 0 ≡ 91 → (vs : Items) × (v ≡ array vs)
array_at text (array vs) rest at e h ends within bracket = (vs, refl)
array_at text (token t) rest at e h ends within bracket =
    let here = sym e ∙ (drop-cons text at 0 within ∙ ap (λ b. b ∷ drop (suc at) text) bracket) in absurd (no_token t rest (drop (suc at) text) 91 h ends here refl)
array_at text (object ms) rest at e h ends within bracket =
    let here = sym e ∙ (drop-cons text at 0 within ∙ ap (λ b. b ∷ drop (suc at) text) bracket) in
    let same : ◌≡◌ {A = ℕ} 123 91 = other_head (flat_members false ms ++ rest) (drop (suc at) text) 123 91 here in absurd (omega (arith, same))

-- with neither bracket it is a token, which stays
pub token_stays : (text : List ℕ) (v : Value) (rest : List ℕ) (at : ℕ) (p q : Path) → at ≤ length text → drop at text ≡ flat v ++ rest → (at < length text → ¬ (get_or text at 0 ≡ 123)) → (at < length text → ¬ (get_or text at 0 ≡ 91)) → flat (prune_both p q v) ≡ flat v
token_stays text (token t) rest at p q within e brace bracket = ap flat (both-token p q t)
token_stays text (array vs) rest at p q within e brace bracket =
    let more : at < length text = omega (arith, length-drop at text, ap length e) in absurd (bracket more (first_at text (flat_items false vs ++ rest) 91 at more e))
token_stays text (object ms) rest at p q within e brace bracket =
    let more : at < length text = omega (arith, length-drop at text, ap length e) in absurd (brace more (first_at text (flat_members false ms ++ rest) 123 at more e))

-- what is copied behind the bracket, with the bracket
with_bracket : (text these those rest : List ℕ) (b at end : ℕ) (old new : Copied) → old.from ≤ at → drop at text ≡ (b ∷ these) ++ rest → Copies text (at + 1) end old new these those → Copies text at end old new (b ∷ these) (b ∷ those)
with_bracket text these those rest b at end old new order e c = (
  omega (arith, c.0),
  c.1 ∙ (ap (λ l. l ++ those) (written_over text old.out.items (b ∷ []) (these ++ rest) old.from at order e) ∙ append_assoc (written text old.out.items old.from at) (b ∷ []) those),
)

behind_bracket : (text these rest : List ℕ) (b at : ℕ) → drop at text ≡ (b ∷ these) ++ rest → drop (at + 1) text ≡ these ++ rest
behind_bracket text these rest b at e = drop_behind text (b ∷ []) (these ++ rest) at e

ok_map : {E : Type 0} (r : Result ℕ E) (P Q : ℕ → Type 0) → ((n : ℕ) → P n → Q n) → IfOk r P → IfOk r Q
ok_map (Ok n) P Q f h = f n h
ok_map (Err e) P Q f h = h

pub object_copied : {E : Type 0} (text : List ℕ) (v : Value) (rest : List ℕ) (at : ℕ) (p q : Path) (old new : Copied) (r : Result ℕ E) → old.from ≤ at → at < length text → get_or text at 0 ≡ 123 →
    drop at text ≡ flat v ++ rest → HasTokens v → Ends rest →
    ((ms : Members) (more : List ℕ) → drop (at + 1) text ≡ flat_members false ms ++ more → MembersHaveTokens ms → IfOk r (λ end. Copies text (at + 1) end old new (flat_members false ms) (flat_members false (members_left p q ms)))) →
    IfOk r (λ end. Copies text at end old new (flat v) (flat (prune_both p q v)))
object_copied text v rest at p q old new r order within brace e h ends inner =
    let o = object_at text v rest at e h ends within brace in
    let is : v ≡ object o.0 = o.1 in
    let here : drop at text ≡ (123 ∷ flat_members false o.0) ++ rest = e ∙ ap (λ w. flat w ++ rest) is in
    let tokens : MembersHaveTokens o.0 = subst HasTokens is h in
    let those : 123 ∷ flat_members false (members_left p q o.0) ≡ flat (prune_both p q v) = ap flat (sym (both-object p q o.0)) ∙ ap (λ w. flat (prune_both p q w)) (sym is) in
    ok_map r (λ end. Copies text (at + 1) end old new (flat_members false o.0) (flat_members false (members_left p q o.0))) (λ end. Copies text at end old new (flat v) (flat (prune_both p q v)))
    (λ end c. subst (λ l. Copies text at end old new (flat v) l) those (subst (λ w. Copies text at end old new (flat w) (123 ∷ flat_members false (members_left p q o.0))) (sym is)
    (with_bracket text (flat_members false o.0) (flat_members false (members_left p q o.0)) rest 123 at end old new order here c)))
    (inner o.0 rest (behind_bracket text (flat_members false o.0) rest 123 at here) tokens)

pub array_copied : {E : Type 0} (text : List ℕ) (v : Value) (rest : List ℕ) (at : ℕ) (p q : Path) (old new : Copied) (r : Result ℕ E) → old.from ≤ at → at < length text → get_or text at 0 ≡ 91 →
    drop at text ≡ flat v ++ rest → HasTokens v → Ends rest →
    ((vs : Items) (more : List ℕ) → drop (at + 1) text ≡ flat_items false vs ++ more → ItemsHaveTokens vs → IfOk r (λ end. Copies text (at + 1) end old new (flat_items false vs) (flat_items false (items_left p q vs)))) →
    IfOk r (λ end. Copies text at end old new (flat v) (flat (prune_both p q v)))
array_copied text v rest at p q old new r order within bracket e h ends inner =
    let o = array_at text v rest at e h ends within bracket in
    let is : v ≡ array o.0 = o.1 in
    let here : drop at text ≡ (91 ∷ flat_items false o.0) ++ rest = e ∙ ap (λ w. flat w ++ rest) is in
    let tokens : ItemsHaveTokens o.0 = subst HasTokens is h in
    let those : 91 ∷ flat_items false (items_left p q o.0) ≡ flat (prune_both p q v) = ap flat (sym (both-array p q o.0)) ∙ ap (λ w. flat (prune_both p q w)) (sym is) in
    ok_map r (λ end. Copies text (at + 1) end old new (flat_items false o.0) (flat_items false (items_left p q o.0))) (λ end. Copies text at end old new (flat v) (flat (prune_both p q v)))
    (λ end c. subst (λ l. Copies text at end old new (flat v) l) those (subst (λ w. Copies text at end old new (flat w) (91 ∷ flat_items false (items_left p q o.0))) (sym is)
    (with_bracket text (flat_items false o.0) (flat_items false (items_left p q o.0)) rest 91 at end old new order here c)))
    (inner o.0 rest (behind_bracket text (flat_items false o.0) rest 91 at here) tokens)

-- ---- items

-- the item that begins here, and those after it
pub record ItemsLeft (text : List ℕ) (p q : Path) (at : ℕ) (out : List ℕ) (rest whole : List ℕ) (last : ℕ) : Type 0 where
  pub value : Value
  pub others : Items
  pub tokens : HasTokens value × ItemsHaveTokens others
  pub is : drop at text ≡ flat value ++ (flat_items true others ++ rest)
  pub total : out ++ flat_items false (items_left p q (item value others)) ≡ whole
  pub ends : at + length (flat_items false (item value others)) ≡ last

pub items_begin : (text : List ℕ) (p q : Path) (start : ℕ) (out rest : List ℕ) (vs : Items) → start ≤ length text → (start < length text → ¬ (get_or text start 0 ≡ 93)) →
    drop start text ≡ flat_items false vs ++ rest → ItemsHaveTokens vs → ItemsLeft text p q start out rest (out ++ flat_items false (items_left p q vs)) (start + length (flat_items false vs))
items_begin text p q start out rest no_items within some e h =
    let more : start < length text = omega (arith, length-drop start text, ap length e) in absurd (some more (first_at text rest 93 start more e))
items_begin text p q start out rest (item v vs) within some e h =
    record { value = v; others = vs; tokens = h; is = e ∙ append_assoc (flat v) (flat_items true vs) rest; total = refl; ends = refl }

no_value : (v : Value) (more bs : List ℕ) → HasTokens v → flat v ++ more ≡ 93 ∷ bs → ⊥
no_value (token []) more bs h e = token_some h
no_value (token (c ∷ cs)) more bs h e = let same : c ≡ 93 = cc e in token_closes c cs h (ap mark_of same)
no_value (array vs) more bs h e = let same : ◌≡◌ {A = ℕ} 91 93 = other_head (flat_items false vs ++ more) bs 91 93 e in omega (arith, same)
no_value (object ms) more bs h e = let same : ◌≡◌ {A = ℕ} 123 93 = other_head (flat_members false ms ++ more) bs 123 93 e in omega (arith, same)

-- at a closing bracket there is none
pub items_empty : (text : List ℕ) (p q : Path) (start : ℕ) (out : List ℕ) (from : ℕ) (vs : Items) (rest : List ℕ) → from ≤ start → start < length text → get_or text start 0 ≡ 93 → drop start text ≡ flat_items false vs ++ rest → ItemsHaveTokens vs →
    (start + 1 ≡ start + length (flat_items false vs)) × (written text out from (start + 1) ≡ written text out from start ++ flat_items false (items_left p q vs))
items_empty text p q start out from no_items rest order within bracket e h = (omega arith, written_over text out (93 ∷ []) rest from start order e)
items_empty text p q start out from (item v vs) rest order within bracket e h =
    absurd (no_value v (flat_items true vs ++ rest) (drop (suc start) text) h.0 (sym (append_assoc (flat v) (flat_items true vs) rest) ∙ (sym e ∙ (drop-cons text start 0 within ∙ ap (λ b. b ∷ drop (suc start) text) bracket))))

pub items_end : (vs : Items) (rest : List ℕ) → Ends (flat_items true vs ++ rest)
items_end no_items rest = inr (inl refl)
items_end (item v vs) rest = inl refl

-- after an item was copied
pub record ItemsBehind (text : List ℕ) (p q : Path) (end : ℕ) (out : List ℕ) (rest whole : List ℕ) (last : ℕ) : Type 0 where
  pub others : Items
  pub tokens : ItemsHaveTokens others
  pub is : drop end text ≡ flat_items true others ++ rest
  pub total : out ++ flat_items true (items_left p q others) ≡ whole
  pub ends : end + length (flat_items true others) ≡ last

pub items_passed : (text : List ℕ) (p q : Path) (at end : ℕ) (out new rest whole : List ℕ) (last : ℕ) (l : ItemsLeft text p q at out rest whole last) →
    (end ≡ at + length (flat l.value)) × (new ≡ out ++ flat (prune_both (into_items p) (into_items q) l.value)) → ItemsBehind text p q end new rest whole last
items_passed text p q at end out new rest whole last l c =
    let value : List ℕ = flat (prune_both (into_items p) (into_items q) l.value) in
    record {
      others = l.others;
      tokens = l.tokens.1;
      is = ap (λ k. drop k text) c.0 ∙ drop_behind text (flat l.value) (flat_items true l.others ++ rest) at l.is;
      total = ap (λ x. x ++ flat_items true (items_left p q l.others)) c.1 ∙ (append_assoc out value (flat_items true (items_left p q l.others)) ∙ l.total);
      ends = omega (arith, c.0, l.ends, length-append (flat l.value) (flat_items true l.others));
    }

-- where no comma follows, that was the last
pub items_done : (text : List ℕ) (p q : Path) (end : ℕ) (out : List ℕ) (from : ℕ) (rest whole : List ℕ) (last : ℕ) → end ≤ length text → from ≤ end → (end < length text → ¬ (get_or text end 0 ≡ 44)) →
    ItemsBehind text p q end (written text out from end) rest whole last → (next : ℕ) → next ≡ min (length text) (end + 1) → (next ≡ last) × (written text out from next ≡ whole)
items_done text p q end out from rest whole last within order none b next is_next = by_items b.others b.is b.total b.ends
  where
    by_items : (vs : Items) → drop end text ≡ flat_items true vs ++ rest → written text out from end ++ flat_items true (items_left p q vs) ≡ whole → end + length (flat_items true vs) ≡ last → (next ≡ last) × (written text out from next ≡ whole)
    by_items no_items is total ends =
        let size : next ≡ end + 1 = omega (arith, is_next, room_for text (93 ∷ []) rest end within is) in
        (omega (arith, size, ends), ap (written text out from) size ∙ (written_over text out (93 ∷ []) rest from end order is ∙ total))
    by_items (item v vs) is total ends =
        let more : end < length text = omega (arith, length-drop end text, ap length is) in
        absurd (none more (first_at text ((flat v ++ flat_items true vs) ++ rest) 44 end more is))

-- where one does, the next begins behind it
pub items_next : (text : List ℕ) (p q : Path) (end : ℕ) (out : List ℕ) (from : ℕ) (rest whole : List ℕ) (last : ℕ) → end < length text → from ≤ end → get_or text end 0 ≡ 44 →
    ItemsBehind text p q end (written text out from end) rest whole last → ItemsLeft text p q (end + 1) (written text out from (end + 1)) rest whole last
items_next text p q end out from rest whole last within order comma b = by_items b.others b.tokens b.is b.total b.ends
  where
    by_items : (vs : Items) → ItemsHaveTokens vs → drop end text ≡ flat_items true vs ++ rest → written text out from end ++ flat_items true (items_left p q vs) ≡ whole → end + length (flat_items true vs) ≡ last → ItemsLeft text p q (end + 1) (written text out from (end + 1)) rest whole last
    by_items no_items h is total ends =
        let bracket : get_or text end 0 ≡ 93 = first_at text rest 93 end within is in absurd (omega (arith, bracket, comma))
    by_items (item v vs) h is total ends =
        let tail : List ℕ = flat_items true vs in
        record {
          value = v;
          others = vs;
          tokens = h;
          is = drop_behind text (44 ∷ []) ((flat v ++ tail) ++ rest) end is ∙ append_assoc (flat v) tail rest;
          total = ap (λ l. l ++ flat_items false (items_left p q (item v vs))) (written_over text out (44 ∷ []) ((flat v ++ tail) ++ rest) from end order is) ∙ (append_assoc (written text out from end) (44 ∷ []) (flat_items false (items_left p q (item v vs))) ∙ total);
          ends = omega (arith, ends);
        }
