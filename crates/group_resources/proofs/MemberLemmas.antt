-- What stands in the compact text of an object.
use Rattle.std.proofs.Common.{◌≡◌, ℕ, ◌+◌, ◌-◌, ◌≤◌, Bool, true, false, List, [], ◌∷◌, ◌++◌, length, take, drop, get_or, Option, Some, None, refl, ap, sym, ◌∙◌, subst, append_assoc, arith, inl, inr, length-append}
use Rattle.std.specs.Prelude.{codes, flat_map, ◌==◌, if◌then◌else◌, bytes_eq, ⊤}
use Rattle.std.proofs.lemmas.Bool.Decides.{nat_tests}
use Rattle.std.proofs.lemmas.List.{take_at, drop_at, append-nil}
use Rattle.json_span.specs.Member.{in_quotes, member_span, span_from}
use Rattle.json_span.specs.Number.{IsNumber, IsWhole, IsMinus, is_nonzero_digit}
use Rattle.json_span.specs.Quote.{escaped, quoted}
use Rattle.json_span.specs.Value.{Value, token, array, object, Items, Members, no_members, member, IsToken, IsText as IsJson, Spells, SpellsMembers, StandsFor, comma_if, depth, depth_members, flat, flat_items, flat_members}
use Rattle.group_resources.specs.Lines.{IsArray}
use Rattle.group_resources.specs.Lists.{IsArrayOf, IsListed, IsSaid, IsText, SaysOf, begins, member_of, text_of, value_of}
use Rattle.group_resources.specs.declared.list.TheConstants.{MOST_LIST_BYTES}

-- where the value of a member stands
abbrev pub Spans : List ℕ → Option (ℕ × ℕ) → Option Value → Type 0
Spans text None None = ⊤
Spans text None (Some v) = ⊥
Spans text (Some span) None = ⊥
Spans text (Some span) (Some v) = take (span.1 - span.0) (drop span.0 text) ≡ flat v

-- the value after a name and a colon
value_at : (pre n v rest : List ℕ) (at : ℕ) → length pre ≡ at
    → take (at + length n + 1 + length v - (at + length n + 1)) (drop (at + length n + 1) (pre ++ (n ++ (58 ∷ (v ++ rest))))) ≡ v
value_at pre n v rest at e =
    let front : pre ++ (n ++ (58 ∷ (v ++ rest))) ≡ (pre ++ (n ++ 58 ∷ [])) ++ (v ++ rest) = simp append_assoc in
    let size : length (pre ++ (n ++ 58 ∷ [])) ≡ at + length n + 1 = simp length-append (omega arith) in
    let count : at + length n + 1 + length v - (at + length n + 1) ≡ length v = omega arith in
    ap (λ (k : ℕ). take k (drop (at + length n + 1) (pre ++ (n ++ (58 ∷ (v ++ rest)))))) count
    ∙ ap (λ (l : List ℕ). take (length v) (drop (at + length n + 1) l)) front
    ∙ ap (λ (l : List ℕ). take (length v) l) (drop_at (pre ++ (n ++ 58 ∷ [])) (v ++ rest) (at + length n + 1) size)
    ∙ take_at v rest (length v) refl

-- the first of some members
here_spans : (n : List ℕ) (v : Value) (others : Members) (later : Bool) (pre : List ℕ) (at : ℕ) → length pre + length (comma_if later) ≡ at
    → take (at + length n + 1 + length (flat v) - (at + length n + 1))
    (drop (at + length n + 1) (pre ++ (comma_if later ++ (n ++ (58 ∷ (flat v ++ flat_members true others)))))) ≡ flat v
here_spans n v others later pre at e =
    let size : length (pre ++ comma_if later) ≡ at = length-append pre (comma_if later) ∙ e in
    let split : (pre ++ comma_if later) ++ (n ++ (58 ∷ (flat v ++ flat_members true others)))
    ≡ pre ++ (comma_if later ++ (n ++ (58 ∷ (flat v ++ flat_members true others)))) =
    append_assoc pre (comma_if later) (n ++ (58 ∷ (flat v ++ flat_members true others))) in
    subst (λ (text : List ℕ). take (at + length n + 1 + length (flat v) - (at + length n + 1)) (drop (at + length n + 1) text) ≡ flat v) split
    (value_at (pre ++ comma_if later) n (flat v) (flat_members true others) at size)

-- what stands before the others
abbrev before_others : List ℕ → Bool → List ℕ → Value → List ℕ
before_others pre later n v = (pre ++ comma_if later) ++ (n ++ (58 ∷ flat v))

others_at : (n : List ℕ) (v : Value) (later : Bool) (pre : List ℕ) (at : ℕ) → length pre + length (comma_if later) ≡ at
    → length (before_others pre later n v) + 1 ≡ at + length n + 1 + length (flat v) + 1
others_at n v later pre at e = simp length-append (omega (arith, e))

others_split : (n : List ℕ) (v : Value) (others : Members) (later : Bool) (pre : List ℕ)
    → before_others pre later n v ++ flat_members true others ≡ pre ++ (comma_if later ++ (n ++ (58 ∷ (flat v ++ flat_members true others))))
others_split n v others later pre = simp append_assoc

spans : (name : List ℕ) (later : Bool) (ms : Members) (pre : List ℕ) (at : ℕ) → length pre + length (comma_if later) ≡ at
    → Spans (pre ++ flat_members later ms) (span_from at name ms) (member_of name ms)
spans name later no_members pre at e = tt
spans name later (member n v others) pre at e =
    by_test (bytes_eq n (in_quotes name))
    (spans name true others (before_others pre later n v) (at + length n + 1 + length (flat v) + 1) (others_at n v later pre at e))
  where
    by_test : (b : Bool)
        → Spans (before_others pre later n v ++ flat_members true others) (span_from (at + length n + 1 + length (flat v) + 1) name others)
        (member_of name others)
        → Spans (pre ++ (comma_if later ++ (n ++ (58 ∷ (flat v ++ flat_members true others)))))
        (if b then Some (at + length n + 1, at + length n + 1 + length (flat v)) else span_from (at + length n + 1 + length (flat v) + 1) name others)
        (if b then Some v else member_of name others)
    by_test true others_are = here_spans n v others later pre at e
    by_test false others_are =
        subst (λ (text : List ℕ). Spans text (span_from (at + length n + 1 + length (flat v) + 1) name others) (member_of name others))
        (others_split n v others later pre) others_are

-- where a member of a whole value stands
pub value_spans : (name : List ℕ) (v : Value) → Spans (flat v) (member_span name v) (value_of name v)
value_spans name (token t) = tt
value_spans name (array items) = tt
value_spans name (object ms) = spans name false ms (123 ∷ []) 1 refl

-- ---- the value of a member

-- some text spells it, and it isn't too deep
pub record Standing (most : ℕ) (v : Value) : Type 0 where
  pub text : List ℕ
  pub spells : Spells v text
  pub within : depth v ≤ most

first_stands : (later : Bool) (n : List ℕ) (v : Value) (others : Members) (inner : List ℕ) (most : ℕ) → SpellsMembers later (member n v others) inner
    → depth_members (member n v others) ≤ most → Standing most v
first_stands true n v others inner most h d = record { text = h.5.1; spells = h.5.4; within = omega arith }
first_stands false n v others inner most h d = record { text = h.5.1; spells = h.5.4; within = omega arith }

others_stand : (later : Bool) (n : List ℕ) (v : Value) (others : Members) (inner : List ℕ) → SpellsMembers later (member n v others) inner
    → (rest : List ℕ) × SpellsMembers true others rest
others_stand true n v others inner h = (h.2, h.6)
others_stand false n v others inner h = (h.2, h.6)

others_within : (n : List ℕ) (v : Value) (others : Members) (most : ℕ) → depth_members (member n v others) ≤ most → depth_members others ≤ most
others_within n v others most d = omega arith

stands : (name : List ℕ) (later : Bool) (ms : Members) (inner : List ℕ) (v : Value) (most : ℕ) → SpellsMembers later ms inner → depth_members ms ≤ most
    → member_of name ms ≡ Some v → Standing most v
stands name later no_members inner v most h d e = absurd (cc e)
stands name later (member n w others) inner v most h d e =
    by_test (bytes_eq n (in_quotes name)) e
    (λ k. stands name true others (others_stand later n w others inner h).0 v most (others_stand later n w others inner h).1
    (others_within n w others most d) k)
  where
    by_test : (b : Bool) → (if b then Some w else member_of name others) ≡ Some v → (member_of name others ≡ Some v → Standing most v) → Standing most v
    by_test true same later_is = let s : w ≡ v = cc same in subst (Standing most) s (first_stands later n w others inner most h d)
    by_test false same later_is = later_is same

-- the text of a value that some text spells
alone : (v : Value) (text : List ℕ) → Spells v text → depth v ≤ 128 → StandsFor text v
alone v text h d = (([], text, [], tt, h, tt, sym (append-nil text)), d)

-- a member of a whole value is a value by itself
pub member_stands : (body name : List ℕ) (whole v : Value) → StandsFor body whole → value_of name whole ≡ Some v → (text : List ℕ) × StandsFor text v
member_stands body name (token t) v h e = absurd (cc e)
member_stands body name (array items) v h e = absurd (cc e)
member_stands body name (object ms) v h e =
    let s = stands name false ms h.0.4.0 v 128 h.0.4.1 (omega (arith, h.1)) e in
    (s.text, alone v s.text s.spells s.within)

-- ---- by the first byte

-- lists that begin otherwise aren't equal
begins_otherwise : (a b : ℕ) (x y : List ℕ) → a ∷ x ≡ b ∷ y → (a ≡ b → ⊥) → ⊥
begins_otherwise a b x y e differ = differ (ap (λ (l : List ℕ). get_or l 0 0) e)

no_whole : (whole more rest : List ℕ) → IsWhole whole → whole ++ more ≡ 91 ∷ rest → ⊥
no_whole [] more rest w k = w
no_whole (d ∷ ds) more rest (inl w) k = begins_otherwise d 91 (ds ++ more) rest k (λ n. absurd (omega (arith, n, w.0)))
no_whole (d ∷ ds) more rest (inr w) k =
    begins_otherwise d 91 (ds ++ more) rest k (λ n. let t : false ≡ true = subst (λ (b : ℕ). is_nonzero_digit b ≡ true) n w.0 in absurd (cc t))

no_minus : (minus whole more rest : List ℕ) → IsMinus minus → IsWhole whole → minus ++ (whole ++ more) ≡ 91 ∷ rest → ⊥
no_minus minus whole more rest (inl m) w k = no_whole whole more rest w (ap (λ (l : List ℕ). l ++ (whole ++ more)) (sym m) ∙ k)
no_minus minus whole more rest (inr m) w k =
    begins_otherwise 45 91 (whole ++ more) rest (sym (ap (λ (l : List ℕ). l ++ (whole ++ more)) m) ∙ k) (λ n. absurd (omega (arith, n)))

no_number : (t rest : List ℕ) → IsNumber t → t ≡ 91 ∷ rest → ⊥
no_number t rest h e = no_minus h.minus h.whole (h.fraction ++ h.exponent) rest h.is_minus h.is_whole (sym h.is ∙ e)

-- a text that is spelled in full and begins otherwise
no_literal : (t rest literal : List ℕ) → t ≡ literal → t ≡ 91 ∷ rest → (get_or literal 0 0 ≡ 91 → ⊥) → ⊥
no_literal t rest literal e k differ = differ (ap (λ (l : List ℕ). get_or l 0 0) (sym e ∙ k))

no_bracket : (t rest : List ℕ) → IsToken t → t ≡ 91 ∷ rest → ⊥
no_bracket t rest (inl (inl e)) k = no_literal t rest (codes "true") e k (λ n. absurd (omega (arith, n)))
no_bracket t rest (inl (inr (inl e))) k = no_literal t rest (codes "false") e k (λ n. absurd (omega (arith, n)))
no_bracket t rest (inl (inr (inr e))) k = no_literal t rest (codes "null") e k (λ n. absurd (omega (arith, n)))
no_bracket t rest (inr (inl n)) k = no_number t rest n k
no_bracket t rest (inr (inr s)) k = begins_otherwise 34 91 (flat_map (λ p. p) s.0 ++ 34 ∷ []) rest (sym s.2 ∙ k) (λ n. absurd (omega (arith, n)))

-- a value whose text begins with a bracket is an array
pub is_array : (v : Value) (text rest : List ℕ) → StandsFor text v → flat v ≡ 91 ∷ rest → (items : Items) × (v ≡ array items)
is_array (token t) text rest h e = absurd (no_bracket t rest h.0.4.0 e)
is_array (array items) text rest h e = (items, refl)
is_array (object ms) text rest h e = absurd (begins_otherwise 123 91 (flat_members false ms) rest e (λ n. absurd (omega (arith, n))))

-- one whose text begins with a quotation mark is a token
pub is_token : (v : Value) (mark : ℕ) (text : List ℕ) → mark ≡ 34 → flat v ≡ mark ∷ text → v ≡ token (mark ∷ text)
is_token (token t) mark text m e = ap token e
is_token (array items) mark text m e = absurd (begins_otherwise 91 mark (flat_items false items) text e (λ n. absurd (omega (arith, n, m))))
is_token (object ms) mark text m e = absurd (begins_otherwise 123 mark (flat_members false ms) text e (λ n. absurd (omega (arith, n, m))))

-- ---- what is found by a member's place

same_byte : (a b : ℕ) → (a == b) ≡ true → a ≡ b
same_byte a b h = grind (arith, nat_tests, h)

head_is : (mark : ℕ) (bytes : List ℕ) → begins mark bytes ≡ true → (rest : List ℕ) × (bytes ≡ mark ∷ rest)
head_is mark [] e = absurd (cc e)
head_is mark (b ∷ rest) e = (rest, ap (λ (x : ℕ). x ∷ rest) (same_byte b mark e))

text_by : (whole text slice : List ℕ) (span : ℕ × ℕ) (found : Option Value) (b : Bool) → Spans whole (Some span) found
    → slice ≡ take (span.1 - span.0) (drop span.0 whole) → (b ≡ true → slice ≡ quoted text) → (slice ≡ quoted text → b ≡ true) → IsText found text b
text_by whole text slice span None b s e same only = absurd s
text_by whole text slice span (Some v) true s e same only = ap Some (is_token v 34 (flat_map escaped text ++ 34 ∷ []) refl (sym s ∙ (sym e ∙ same refl)))
text_by whole text slice span (Some v) false s e same only = λ h.
    let k : v ≡ text_of text = cc h in
    let t : false ≡ true = only (e ∙ (s ∙ ap flat k)) in
    absurd (cc t)

-- a member that was found is that text exactly where its bytes are
pub text_found : (whole name text slice : List ℕ) (v : Value) (span : ℕ × ℕ) (b : Bool) → whole ≡ flat v → Some span ≡ member_span name v
    → slice ≡ take (span.1 - span.0) (drop span.0 whole) → (b ≡ true → slice ≡ quoted text) → (slice ≡ quoted text → b ≡ true)
    → IsText (value_of name v) text b
text_found whole name text slice v span b w f e same only =
    text_by whole text slice span (value_of name v) b
    (subst (λ (o : Option (ℕ × ℕ)). Spans whole o (value_of name v)) (sym f)
    (subst (λ (l : List ℕ). Spans l (member_span name v) (value_of name v)) (sym w) (value_spans name v)))
    e same only

none_by : (whole text : List ℕ) (found : Option Value) → Spans whole None found → found ≡ None
none_by whole text None s = refl
none_by whole text (Some v) s = absurd s

-- no member was found
pub none_found : (name : List ℕ) (v : Value) → None ≡ member_span name v → value_of name v ≡ None
none_found name v f =
    none_by (flat v) [] (value_of name v) (subst (λ (o : Option (ℕ × ℕ)). Spans (flat v) o (value_of name v)) (sym f) (value_spans name v))

pub no_text : (name text : List ℕ) (v : Value) → None ≡ member_span name v → IsText (value_of name v) text false
no_text name text v f = λ h. let k = none_found name v f in absurd (cc (h, k))

pub no_array : (name : List ℕ) (v : Value) → None ≡ member_span name v → IsArrayOf (value_of name v) None
no_array name v f = λ items h. let k = none_found name v f in absurd (cc (h, k))

array_by : (whole slice : List ℕ) (span : ℕ × ℕ) (found : Option Value) (b : Bool) → Spans whole (Some span) found
    → slice ≡ take (span.1 - span.0) (drop span.0 whole) → begins 91 slice ≡ b
    → ((v : Value) → found ≡ Some v → (text : List ℕ) × StandsFor text v) → IsArrayOf found (if b then Some slice else None)
array_by whole slice span None b s e is stand = absurd s
array_by whole slice span (Some v) true s e is stand =
    let head = head_is 91 slice is in
    let own : slice ≡ flat v = e ∙ s in
    let k = stand v refl in
    let a = is_array v k.0 head.0 k.1 (sym own ∙ head.1) in
    (a.0, ap Some a.1, own ∙ ap flat a.1)
array_by whole slice span (Some v) false s e is stand = λ items h.
    let k : v ≡ array items = cc h in
    let own : slice ≡ flat (array items) = e ∙ (s ∙ ap flat k) in
    let t : begins 91 (flat (array items)) ≡ false = ap (begins 91) (sym own) ∙ is in
    absurd (cc t)

-- a member that was found is an array exactly where its bytes begin so
pub array_found : (whole name slice : List ℕ) (v : Value) (span : ℕ × ℕ) (b : Bool) → StandsFor whole v → whole ≡ flat v → Some span ≡ member_span name v
    → slice ≡ take (span.1 - span.0) (drop span.0 whole) → begins 91 slice ≡ b → IsArrayOf (value_of name v) (if b then Some slice else None)
array_found whole name slice v span b h w f e is =
    array_by whole slice span (value_of name v) b
    (subst (λ (o : Option (ℕ × ℕ)). Spans whole o (value_of name v)) (sym f)
    (subst (λ (l : List ℕ). Spans l (member_span name v) (value_of name v)) (sym w) (value_spans name v)))
    e is (λ x k. member_stands whole name v x h k)

-- ---- an array by itself

-- bytes that are an array begin so
pub array_begins : (bytes : List ℕ) → IsArray bytes → begins 91 bytes ≡ true
array_begins bytes h = ap (begins 91) h.2

-- compact bytes that begin so are an array
pub array_alone : (bytes : List ℕ) (v : Value) → StandsFor bytes v → bytes ≡ flat v → begins 91 bytes ≡ true → IsArray bytes
array_alone bytes v h e is =
    let head = head_is 91 bytes is in
    let a = is_array v bytes head.0 h (sym e ∙ head.1) in
    (a.0, subst (λ (x : Value). StandsFor bytes x) a.1 h, e ∙ ap flat a.1)

-- ---- a whole body

-- what is said by the value of the body is what is listed
pub listed : (version body : List ℕ) (status : ℕ) (v : Value) (got : Option (List ℕ)) → status ≡ 200 → length body ≤ MOST_LIST_BYTES → StandsFor body v
    → ((text : List ℕ) (a b : Value) → StandsFor text a → StandsFor text b → a ≡ b) → IsSaid version v got → IsListed version status body got
listed version body status v (Some resources) ok small h one said = record { found = ok; small = small; value = v; stands = h; says = said }
listed version body status v None ok small h one said = λ resources l.
    said resources (subst (λ (x : Value). SaysOf version x resources) (one body l.value v l.stands h) l.says)

-- what is no JSON text lists nothing
pub not_listed : (version body : List ℕ) (status : ℕ) → (IsJson body → ⊥) → IsListed version status body None
not_listed version body status none = λ resources l. none (l.value, l.stands)
