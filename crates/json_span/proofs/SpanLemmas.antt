-- Where the machine stops in compact text, and which members are left.
use Rattle.std.proofs.Common.{◌≡◌, ℕ, suc, ◌+◌, ◌-◌, ◌≤◌, ◌<◌, ◌∷◌, [], ◌++◌, List, length, take, drop, get_or, Bool, true, false, cond, Option, Some, None, refl, sym, ap, ◌∙◌, inl, inr, arith, true≢false, length-append, length-drop, nat_eq}
use Rattle.std.specs.Prelude.{MatchOption, ◌&&◌, ◌⊎◌, bytes_eq}
use Rattle.std.proofs.Math.Seq.{drop-append_seam, drop-cons, take-append_seam}
use Rattle.std.proofs.lemmas.List.{append-nil, drop-drop, drop_all, take_all}
use Rattle.json_span.specs.Strings.{IsString}
use Rattle.json_span.specs.Value.{Value, token, array, object, Members, no_members, member, flat, flat_items, flat_members, depth, depth_members, Spells, SpellsMembers, StandsFor}
use Rattle.json_span.specs.Member.{in_quotes, span_from, member_span}
use Rattle.json_span.specs.Span.{reach, one_more, string_reach, place_reach, IsEntry, AreEntries, EndsMember}
use Rattle.json_span.specs.Nesting.{is_empty}
use Rattle.json_span.specs.Machine.{string_step, string_ends, token_ends, at, follows, in_token, mode_ends, place_step, place_ends, start}
use Rattle.json_span.specs.declared.string.Inside.TheVariants as inside
use Rattle.json_span.specs.declared.nesting.Kind.{Kind}
use Rattle.json_span.specs.declared.place.Mode.{Mode}
use Rattle.json_span.specs.declared.place.Mode.TheVariants as mode
use Rattle.json_span.specs.declared.place.Place.{Place}
use Rattle.json_span.proofs.RunLemmas.{Accepts}
use Rattle.json_span.proofs.StringLemmas as string
use Rattle.json_span.proofs.TokenLemmas.{string_stops, token_begins, token_stops}
use Rattle.json_span.proofs.UniqueLemmas.{not_object}
use Rattle.json_span.proofs.CompleteLemmas.{text_gives}
use Rattle.json_span.proofs.FlatLemmas.{bare, flat_spells}

-- ---- how far the machine goes

-- it goes to the end of what it accepts, where what follows stops each end
pub reach_over : {S : Type 0} (step : S → ℕ → Option S) (ends : S → Bool) (s : S) (n rest : List ℕ) → Accepts step ends s n → ((q : S) → ends q ≡ true → reach step q rest ≡ 0) → reach step s (n ++ rest) ≡ length n
reach_over step ends s [] rest h stop = stop s h
reach_over {S} step ends s (b ∷ bs) rest h stop = by_step (step s b) (λ q k. reach_over step ends q bs rest k stop) h
  where
    by_step : (o : Option S) → ((q : S) → Accepts step ends q bs → reach step q (bs ++ rest) ≡ length bs) → MatchOption o ⊥ (λ q. Accepts step ends q bs) → one_more (λ q. reach step q (bs ++ rest)) o ≡ suc (length bs)
    by_step None next k = absurd k
    by_step (Some q) next k = ap suc (next q k)

pub string_over : (n rest : List ℕ) (b : ℕ) → IsString n → string_reach inside.Start (n ++ b ∷ rest) ≡ length n
string_over n rest b h = reach_over string_step string_ends inside.Start n (b ∷ rest) (string.string_goes n h) (λ q e. ap (one_more (λ p. reach string_step p rest)) (string_stops q b e))

-- a comma or a closing bracket of an object
stopped_mode : (m : Mode) → mode_ends m ≡ true → (place_step (at [] m) 44 ≡ None) × (place_step (at [] m) 125 ≡ None)
stopped_mode mode.Before e = absurd (true≢false (sym e))
stopped_mode mode.FirstItem e = absurd (true≢false (sym e))
stopped_mode mode.FirstName e = absurd (true≢false (sym e))
stopped_mode mode.Name e = absurd (true≢false (sym e))
stopped_mode (mode.InName i) e = absurd (true≢false (sym e))
stopped_mode mode.Colon e = absurd (true≢false (sym e))
stopped_mode mode.After e = (refl, refl)
stopped_mode (mode.InToken t) e = (
  ap (in_token [] (token_ends t) 44) (token_stops t 44 e (inr (inl refl))) ∙ ap (λ c. cond c (follows [] 44) None) e,
  ap (in_token [] (token_ends t) 125) (token_stops t 125 e (inr (inr (inr (inl refl))))) ∙ ap (λ c. cond c (follows [] 125) None) e,
)

stopped_place : (ks : List Kind) (m : Mode) → cond (is_empty ks) (mode_ends m) false ≡ true → (place_step (at ks m) 44 ≡ None) × (place_step (at ks m) 125 ≡ None)
stopped_place [] m e = stopped_mode m e
stopped_place (k ∷ ks) m e = absurd (true≢false (sym e))

ends_stop : (rest : List ℕ) → EndsMember rest → (p : Place) → place_ends p ≡ true → place_reach p rest ≡ 0
ends_stop [] h p e = absurd h
ends_stop (b ∷ bs) (inl c) p e = ap (λ x. one_more (λ q. place_reach q bs) (place_step p x)) c ∙ ap (one_more (λ q. place_reach q bs)) (stopped_place p.nesting p.mode e).0
ends_stop (b ∷ bs) (inr c) p e = ap (λ x. one_more (λ q. place_reach q bs) (place_step p x)) c ∙ ap (one_more (λ q. place_reach q bs)) (stopped_place p.nesting p.mode e).1

pub value_over : (v : Value) (rest : List ℕ) → Spells v (flat v) → depth v ≤ 128 → EndsMember rest → place_reach start (flat v ++ rest) ≡ length (flat v)
value_over v rest h fits ends = reach_over place_step place_ends start (flat v) rest (text_gives (flat v) v (bare (Spells v) (flat v) h, fits)).0 (ends_stop rest ends)

pub value_stands : (v : Value) (rest : List ℕ) → StandsFor (flat v) v → EndsMember rest → place_reach start (flat v ++ rest) ≡ length (flat v)
value_stands v rest h ends = reach_over place_step place_ends start (flat v) rest (text_gives (flat v) v h).0 (ends_stop rest ends)

-- ---- parts of a text

pub drop_behind : (text xs ys : List ℕ) (i : ℕ) → drop i text ≡ xs ++ ys → drop (i + length xs) text ≡ ys
drop_behind text xs ys i e = sym (drop-drop (length xs) i text) ∙ ap (drop (length xs)) e ∙ drop-append_seam xs ys

pub whole_rest : (text : List ℕ) (i : ℕ) → take (length text - i) (drop i text) ≡ drop i text
whole_rest text i = take_all (length text - i) (drop i text) (omega (arith, length-drop i text))

pub room : (text xs more : List ℕ) (b i : ℕ) → i ≤ length text → drop i text ≡ xs ++ b ∷ more → i + length xs < length text
room text xs more b i within e = omega (arith, length-drop i text, ap length e ∙ length-append xs (b ∷ more))

first_of : (text bs : List ℕ) (b i : ℕ) → i < length text → drop i text ≡ b ∷ bs → get_or text i 0 ≡ b
first_of text bs b i within e = let both : get_or text i 0 ∷ drop (suc i) text ≡ b ∷ bs = sym (drop-cons text i 0 within) ∙ e in cc both

-- ---- one entry

pub string_ended : (text n more : List ℕ) (b i s : ℕ) → drop i text ≡ n ++ b ∷ more → IsString n → s ≡ string_reach inside.Start (take (length text - i) (drop i text)) → s ≡ length n
string_ended text n more b i s e h is = is ∙ ap (string_reach inside.Start) (whole_rest text i ∙ e) ∙ string_over n more b h

pub value_ended : (text : List ℕ) (v : Value) (rest : List ℕ) (i s : ℕ) → drop i text ≡ flat v ++ rest → Spells v (flat v) → depth v ≤ 128 → EndsMember rest → s ≡ place_reach start (take (length text - i) (drop i text)) → s ≡ length (flat v)
value_ended text v rest i s e h fits ends is = is ∙ ap (place_reach start) (whole_rest text i ∙ e) ∙ value_over v rest h fits ends

pub behind_colon : (text n more : List ℕ) (i : ℕ) → drop i text ≡ n ++ 58 ∷ more → drop (i + length n + 1) text ≡ more
behind_colon text n more i e = drop_behind text (58 ∷ []) more (i + length n) (drop_behind text n (58 ∷ more) i e)

-- ---- the members that are left

abbrev pub Left : List ℕ → List ℕ → ℕ → Value → Type 0
Left name text i v = (ms : Members) × AreEntries ms × (drop i text ≡ flat_members false ms) × (member_span name v ≡ span_from i name ms)

mutual
  entries_of : (ms : Members) (t : List ℕ) → SpellsMembers false ms t → depth_members ms ≤ 128 → AreEntries ms
  entries_of no_members t h fits = tt
  entries_of (member n v ms) t h fits = ((h.3, flat_spells v h.5.1 h.5.4, omega (arith, fits)), others_of ms h.2 h.6 (omega (arith, fits)))

  others_of : (ms : Members) (t : List ℕ) → SpellsMembers true ms t → depth_members ms ≤ 128 → AreEntries ms
  others_of no_members t h fits = tt
  others_of (member n v ms) t h fits = ((h.3, flat_spells v h.5.1 h.5.4, omega (arith, fits)), others_of ms h.2 h.6 (omega (arith, fits)))

no_array : (xs ys : List ℕ) → ◌≡◌ {A = List ℕ} (91 ∷ xs) (123 ∷ ys) → ⊥
no_array xs ys e = let head : ◌≡◌ {A = ℕ} 91 123 = cc e in omega (arith, head)

-- a text that begins with an opening brace has all its members left
pub all_left : (name text bs : List ℕ) (v : Value) → StandsFor text v → text ≡ flat v → text ≡ 123 ∷ bs → Left name text 1 v
all_left name text bs (token t) h e o = absurd (not_object t [] bs (token_begins t h.0.4.0) (append-nil t ∙ sym e ∙ o))
all_left name text bs (array vs) h e o = absurd (no_array (flat_items false vs) bs (sym e ∙ o))
all_left name text bs (object ms) h e o = (ms, entries_of ms h.0.4.0 h.0.4.1 (omega (arith, h.1)), ap (drop 1) e, refl)

-- a text that doesn't has no member
pub no_span : (name text : List ℕ) (v : Value) → text ≡ flat v → ((bs : List ℕ) → ¬ (text ≡ 123 ∷ bs)) → member_span name v ≡ None
no_span name text (token t) e o = refl
no_span name text (array vs) e o = refl
no_span name text (object ms) e o = absurd (o (flat_members false ms) e)

pub brace_of : (text : List ℕ) → 0 < length text → get_or text 0 0 ≡ 123 → (bs : List ℕ) × (text ≡ 123 ∷ bs)
brace_of [] h e = absurd (omega (arith, h))
brace_of (b ∷ bs) h e = (bs, ap (λ x. x ∷ bs) e)

-- the member that begins here, and those after it
pub record Next (name text : List ℕ) (i : ℕ) (v : Value) : Type 0 where
  pub string : List ℕ
  pub value : Value
  pub others : Members
  pub entry : IsEntry string value
  pub entries : AreEntries others
  pub is : drop i text ≡ string ++ (58 ∷ (flat value ++ flat_members true others))
  pub span : member_span name v ≡ span_from i name (member string value others)

pub others_end : (ms : Members) → EndsMember (flat_members true ms)
others_end no_members = inr refl
others_end (member n v ms) = inl refl

string_head : (n : List ℕ) → IsString n → (bs : List ℕ) × (n ≡ 34 ∷ bs)
string_head n h = (string.joined h.0 ++ 34 ∷ [], h.2)

pub no_name : (name text : List ℕ) (i : ℕ) (v : Value) → i < length text → ¬ (get_or text i 0 ≡ 34) → Left name text i v → member_span name v ≡ None
no_name name text i v within other (no_members, entries, is, span) = span
no_name name text i v within other (member n w ms, entries, is, span) =
    let q = string_head n entries.0.0 in
    absurd (other (first_of text (q.0 ++ (58 ∷ (flat w ++ flat_members true ms))) 34 i within (is ∙ ap (λ l. l ++ (58 ∷ (flat w ++ flat_members true ms))) q.1)))

pub next_of : (name text : List ℕ) (i : ℕ) (v : Value) → i < length text → get_or text i 0 ≡ 34 → Left name text i v → Next name text i v
next_of name text i v within quote (no_members, entries, is, span) =
    let brace : get_or text i 0 ≡ 125 = first_of text [] 125 i within is in absurd (omega (arith, quote, brace))
next_of name text i v within quote (member n w ms, entries, is, span) = record { string = n; value = w; others = ms; entry = entries.0; entries = entries.1; is = is; span = span }

pub none_left : (name text : List ℕ) (i : ℕ) (v : Value) → length text ≤ i → Left name text i v → member_span name v ≡ None
none_left name text i v past (no_members, entries, is, span) = span
none_left name text i v past (member n w ms, entries, is, span) =
    let q = string_head n entries.0.0 in
    let empty : [] ≡ 34 ∷ (q.0 ++ (58 ∷ (flat w ++ flat_members true ms))) = sym (drop_all i text past) ∙ is ∙ ap (λ l. l ++ (58 ∷ (flat w ++ flat_members true ms))) q.1 in
    absurd (cc empty)

-- ---- names

and_false : (c : Bool) → c && false ≡ false
and_false true = refl
and_false false = refl

ends_longer : (ys : List ℕ) → bytes_eq [] (ys ++ 34 ∷ []) ≡ false
ends_longer [] = refl
ends_longer (y ∷ ys) = refl

ends_shorter : (xs : List ℕ) → bytes_eq (xs ++ 34 ∷ []) [] ≡ false
ends_shorter [] = refl
ends_shorter (x ∷ xs) = refl

same_inner : (xs ys : List ℕ) → bytes_eq (xs ++ 34 ∷ []) (ys ++ 34 ∷ []) ≡ bytes_eq xs ys
same_inner [] [] = refl
same_inner [] (y ∷ ys) = ap (λ c. nat_eq 34 y && c) (ends_longer ys) ∙ and_false (nat_eq 34 y)
same_inner (x ∷ xs) [] = ap (λ c. nat_eq x 34 && c) (ends_shorter xs) ∙ and_false (nat_eq x 34)
same_inner (x ∷ xs) (y ∷ ys) = ap (λ c. nat_eq x y && c) (same_inner xs ys)

pub same_name : (n inner name : List ℕ) → n ≡ 34 ∷ (inner ++ 34 ∷ []) → bytes_eq n (in_quotes name) ≡ bytes_eq inner name
same_name n inner name e = ap (λ l. bytes_eq l (in_quotes name)) e ∙ same_inner inner name

-- the bytes of the name's string
pub string_is : (text n more : List ℕ) (b i colon : ℕ) → drop i text ≡ n ++ b ∷ more → colon ≡ i + length n → take (colon - i) (drop i text) ≡ n
string_is text n more b i colon e is =
    let size : colon - i ≡ length n = omega (arith, is) in
    ap (λ k. take k (drop i text)) size ∙ ap (take (length n)) e ∙ take-append_seam n (b ∷ more)

-- what the answer of `entry_at` and `is_name` says of a member
pub named_so : (name text : List ℕ) (i colon to : ℕ) (v : Value) (n : Next name text i v) (same : Bool)
    → ((inner : List ℕ) → take (colon - i) (drop i text) ≡ 34 ∷ (inner ++ 34 ∷ []) → same ≡ bytes_eq inner name)
    → colon ≡ i + length n.string → to ≡ i + length n.string + 1 + length (flat n.value)
    → member_span name v ≡ cond same (Some (colon + 1, to)) (span_from (to + 1) name n.others)
named_so name text i colon to v n same asked is_colon is_to =
    let q = n.entry.0 in
    let inner : List ℕ = string.joined q.0 in
    let is_same : same ≡ bytes_eq inner name = asked inner (string_is text n.string (flat n.value ++ flat_members true n.others) 58 i colon n.is is_colon ∙ q.2) in
    let test : bytes_eq n.string (in_quotes name) ≡ same = same_name n.string inner name q.2 ∙ sym is_same in
    n.span ∙ ap (λ c. cond c (Some (i + length n.string + 1, i + length n.string + 1 + length (flat n.value))) (span_from (i + length n.string + 1 + length (flat n.value) + 1) name n.others)) test
    ∙ ap (λ k. cond same (Some (k + 1, i + length n.string + 1 + length (flat n.value))) (span_from (i + length n.string + 1 + length (flat n.value) + 1) name n.others)) (sym is_colon)
    ∙ ap (λ k. cond same (Some (colon + 1, k)) (span_from (k + 1) name n.others)) (sym is_to)

-- the bytes after the member
pub behind_next : (name text : List ℕ) (i to : ℕ) (v : Value) (n : Next name text i v) → to ≡ i + length n.string + 1 + length (flat n.value) → drop to text ≡ flat_members true n.others
behind_next name text i to v n is =
    ap (λ k. drop k text) is ∙ drop_behind text (flat n.value) (flat_members true n.others) (i + length n.string + 1) (behind_colon text n.string (flat n.value ++ flat_members true n.others) i n.is)

pub last_span : (name text : List ℕ) (to : ℕ) (ms : Members) → to ≤ length text → ((to ≡ length text) ⊎ ¬ (get_or text to 0 ≡ 44)) → drop to text ≡ flat_members true ms → span_from (to + 1) name ms ≡ None
last_span name text to no_members within other e = refl
last_span name text to (member n v ms) within (inl end) e =
    let inside : to + 0 < length text = room text [] (n ++ (58 ∷ (flat v ++ flat_members true ms))) 44 to within e in absurd (omega (arith, end, inside))
last_span name text to (member n v ms) within (inr other) e =
    let inside : to + 0 < length text = room text [] (n ++ (58 ∷ (flat v ++ flat_members true ms))) 44 to within e in
    absurd (other (first_of text (n ++ (58 ∷ (flat v ++ flat_members true ms))) 44 to (omega (arith, inside)) e))

pub next_left : (text : List ℕ) (to : ℕ) (ms : Members) → to < length text → get_or text to 0 ≡ 44 → drop to text ≡ flat_members true ms → drop (to + 1) text ≡ flat_members false ms
next_left text to no_members within comma e =
    let brace : get_or text to 0 ≡ 125 = first_of text [] 125 to within e in absurd (omega (arith, comma, brace))
next_left text to (member n v ms) within comma e = drop_behind text (44 ∷ []) (n ++ (58 ∷ (flat v ++ flat_members true ms))) to e

-- ---- the two ends of an entry

first_or : Option (ℕ × ℕ) → ℕ
first_or None = 0
first_or (Some p) = p.0

second_or : Option (ℕ × ℕ) → ℕ
second_or None = 0
second_or (Some p) = p.1

pub ends_are : (o : Option (ℕ × ℕ)) (a b c d : ℕ) → o ≡ Some (a, b) → o ≡ Some (c, d) → (a ≡ c) × (b ≡ d)
unfolding first_or second_or
ends_are o a b c d e h = (ap first_or (sym e ∙ h), ap second_or (sym e ∙ h))

pub not_none : (o : Option (ℕ × ℕ)) (c d : ℕ) → o ≡ None → o ≡ Some (c, d) → ⊥
not_none o c d e h = let both : None ≡ Some (c, d) = sym e ∙ h in absurd (cc both)
