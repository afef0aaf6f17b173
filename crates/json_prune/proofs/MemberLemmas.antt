-- What is copied of the members of an object, one after another.
use Rattle.std.proofs.Common.{◌≡◌, ℕ, ◌+◌, ◌-◌, ◌≤◌, ◌<◌, ◌∷◌, [], ◌++◌, List, length, take, drop, get_or, Bool, true, false, Some, None, refl, sym, ap, ◌∙◌, inl, inr, arith, min, append_assoc, length-append, length-drop}
use Rattle.std.proofs.Math.Seq.{take-append_seam}
use Rattle.std.proofs.lemmas.List.{take_rest}
use Rattle.json_span.specs.Strings.{IsString}
use Rattle.json_span.specs.Value.{Value, Members, no_members, member, flat, flat_members, comma_if}
use Rattle.json_prune.specs.Prune.{Path}
use Rattle.json_prune.specs.Skip.{string_size, value_size, Ends}
use Rattle.json_prune.specs.Tokens.{HasTokens, MembersHaveTokens}
use Rattle.json_prune.specs.Walk.{into_member, if_both, prune_both, member_if, members_left, written, Copies}
use Rattle.json_prune.specs.declared.copied.Copied.{Copied}
use Rattle.json_prune.proofs.ScanLemmas.{joined, string_over}
use Rattle.json_prune.proofs.WalkLemmas.{written_over, written_here, drop_behind, first_at, room_for, value_ends}

-- the member that begins at a byte, and those after it; what is written goes up to where the last one ended
pub record MembersLeft (text : List ℕ) (p q : Path) (at : ℕ) (kept : Bool) (out : List ℕ) (rest whole : List ℕ) (last : ℕ) : Type 0 where
  pub name : List ℕ
  pub value : Value
  pub others : Members
  pub string : IsString name
  pub has : HasTokens value
  pub have : MembersHaveTokens others
  pub is : drop at text ≡ name ++ (58 ∷ (flat value ++ (flat_members true others ++ rest)))
  pub total : out ++ flat_members kept (members_left p q (member name value others)) ≡ whole
  pub ends : at + length (flat_members false (member name value others)) ≡ last

flat_first : (n : List ℕ) (v : Value) (ms : Members) (rest : List ℕ) → flat_members false (member n v ms) ++ rest ≡ n ++ (58 ∷ (flat v ++ (flat_members true ms ++ rest)))
flat_first n v ms rest = append_assoc n (58 ∷ (flat v ++ flat_members true ms)) rest ∙ ap (λ l. n ++ (58 ∷ l)) (append_assoc (flat v) (flat_members true ms) rest)

pub members_begin : (text : List ℕ) (p q : Path) (start : ℕ) (out rest : List ℕ) (ms : Members) → start ≤ length text → (start < length text → ¬ (get_or text start 0 ≡ 125)) →
    drop start text ≡ flat_members false ms ++ rest → MembersHaveTokens ms → MembersLeft text p q start false out rest (out ++ flat_members false (members_left p q ms)) (start + length (flat_members false ms))
members_begin text p q start out rest no_members within some e h =
    let more : start < length text = omega (arith, length-drop start text, ap length e) in absurd (some more (first_at text rest 125 start more e))
members_begin text p q start out rest (member n v ms) within some e h =
    record { name = n; value = v; others = ms; string = h.0; has = h.1; have = h.2; is = e ∙ flat_first n v ms rest; total = refl; ends = refl }

-- at a closing brace there is none
pub members_empty : (text : List ℕ) (p q : Path) (start : ℕ) (out : List ℕ) (from : ℕ) (ms : Members) (rest : List ℕ) → from ≤ start → start < length text → get_or text start 0 ≡ 125 → drop start text ≡ flat_members false ms ++ rest → MembersHaveTokens ms →
    (start + 1 ≡ start + length (flat_members false ms)) × (written text out from (start + 1) ≡ written text out from start ++ flat_members false (members_left p q ms))
members_empty text p q start out from no_members rest order within brace e h = (omega arith, written_over text out (125 ∷ []) rest from start order e)
members_empty text p q start out from (member n v ms) rest order within brace e h =
    let quote : get_or text start 0 ≡ 34 =
    first_at text ((joined h.0.0 ++ 34 ∷ []) ++ (58 ∷ (flat v ++ (flat_members true ms ++ rest)))) 34 start within (e ∙ (flat_first n v ms rest ∙ ap (λ l. l ++ (58 ∷ (flat v ++ (flat_members true ms ++ rest)))) h.0.2)) in
    absurd (omega (arith, quote, brace))

pub members_end : (ms : Members) (rest : List ℕ) → Ends (flat_members true ms ++ rest)
members_end no_members rest = inr (inr refl)
members_end (member n v ms) rest = inl refl

-- ---- a name

pub inner_of : (n : List ℕ) → IsString n → (inner : List ℕ) × (n ≡ 34 ∷ (inner ++ 34 ∷ []))
inner_of n s = (joined s.0, s.2)

-- what `string_len` answers behind its first quotation mark
pub name_ends : (text n more : List ℕ) (at s : ℕ) → drop at text ≡ n ++ more → IsString n → s ≡ string_size false (take (length text - (at + 1)) (drop (at + 1) text)) → at + 1 + s ≡ at + length n
name_ends text n more at s e str is =
    let body : List ℕ = joined str.0 ++ 34 ∷ [] in
    let behind : drop (at + 1) text ≡ body ++ more = drop_behind text (34 ∷ []) (body ++ more) at (e ∙ ap (λ l. l ++ more) str.2) in
    let size = is ∙ (ap (string_size false) (take_rest text (at + 1) ∙ behind) ∙ string_over str.0 more str.1) in
    omega (arith, size, ap length str.2)

pub name_is : (text n more : List ℕ) (at colon : ℕ) → drop at text ≡ n ++ more → colon ≡ at + length n → take (colon - at) (drop at text) ≡ n
name_is text n more at colon e is =
    let size : colon - at ≡ length n = omega (arith, is) in ap (λ k. take k (drop at text)) size ∙ (ap (take (length n)) e ∙ take-append_seam n more)

-- a colon follows it
pub colon_within : (text n more : List ℕ) (at colon : ℕ) → at ≤ length text → drop at text ≡ n ++ 58 ∷ more → colon ≡ at + length n → colon < length text
colon_within text n more at colon within e is = omega (arith, is, length-drop at text, ap length e, length-append n (58 ∷ more))

pub behind_colon : (text n more : List ℕ) (at colon : ℕ) → drop at text ≡ n ++ 58 ∷ more → colon ≡ at + length n → drop (colon + 1) text ≡ more
behind_colon text n more at colon e is =
    ap (λ k. drop (k + 1) text) is ∙ drop_behind text (58 ∷ []) more (at + length n) (drop_behind text n (58 ∷ more) at e)

-- ---- after a member

pub record MembersBehind (text : List ℕ) (p q : Path) (end : ℕ) (kept : Bool) (out : List ℕ) (rest whole : List ℕ) (last : ℕ) : Type 0 where
  pub others : Members
  pub have : MembersHaveTokens others
  pub is : drop end text ≡ flat_members true others ++ rest
  pub total : out ++ flat_members kept (members_left p q others) ≡ whole
  pub ends : end + length (flat_members true others) ≡ last

-- one that both paths drop
pub member_dropped : (text : List ℕ) (p q : Path) (at colon to end : ℕ) (kept more : Bool) (out rest whole : List ℕ) (last s : ℕ) (after now : Copied) (l : MembersLeft text p q at kept out rest whole last) →
    colon ≡ at + length l.name → s ≡ value_size (take (length text - (colon + 1)) (drop (colon + 1) text)) → to ≡ colon + 1 + s → None ≡ if_both (into_member p l.name) (into_member q l.name) →
    (after.from ≡ to) × (after.out.items ≡ out) → now ≡ after → end ≡ to → more ≡ kept → MembersBehind text p q end more (written text now.out.items now.from end) rest whole last
member_dropped text p q at colon to end kept more out rest whole last s after now l is_colon size is_to none cut is_now is_end is_more =
    let value = behind_colon text l.name (flat l.value ++ (flat_members true l.others ++ rest)) at colon l.is is_colon in
    let fits = value_ends text l.value (flat_members true l.others ++ rest) (colon + 1) s value l.has (members_end l.others rest) size in
    let same : written text now.out.items now.from end ≡ out =
    ap (λ (c : Copied). written text c.out.items c.from end) is_now ∙ (ap (λ k. written text after.out.items after.from k) is_end ∙ (ap (λ k. written text after.out.items k to) cut.0 ∙ (written_here text after.out.items to ∙ cut.1))) in
    record {
      others = l.others;
      have = l.have;
      is = ap (λ k. drop k text) (is_end ∙ is_to) ∙ (ap (λ k. drop (colon + 1 + k) text) fits ∙ drop_behind text (flat l.value) (flat_members true l.others ++ rest) (colon + 1) value);
      total = ap (λ x. x ++ flat_members more (members_left p q l.others)) same ∙ (ap (λ k. out ++ flat_members k (members_left p q l.others)) is_more ∙ (ap (λ o. out ++ flat_members kept (member_if o l.name l.value (members_left p q l.others))) none ∙ l.total));
      ends = omega (arith, is_end, is_to, fits, is_colon, l.ends, length-append l.name (58 ∷ (flat l.value ++ flat_members true l.others)), length-append (flat l.value) (flat_members true l.others));
    }

-- one that is kept: what is left of the paths for its value was copied
pub member_kept : (text : List ℕ) (p q r s : Path) (at colon to end : ℕ) (kept more : Bool) (out rest whole : List ℕ) (last : ℕ) (put after now : Copied) (l : MembersLeft text p q at kept out rest whole last) →
    colon ≡ at + length l.name → put.from ≤ at → written text put.out.items put.from at ≡ out ++ comma_if kept → Some (r, s) ≡ if_both (into_member p l.name) (into_member q l.name) →
    Copies text (colon + 1) to put after (flat l.value) (flat (prune_both r s l.value)) → now ≡ after → end ≡ to → more ≡ true →
    MembersBehind text p q end more (written text now.out.items now.from end) rest whole last
member_kept text p q r s at colon to end kept more out rest whole last put after now l is_colon order comma some copies is_now is_end is_more =
    let tail : List ℕ = flat_members true (members_left p q l.others) in
    let behind : List ℕ = flat l.value ++ (flat_members true l.others ++ rest) in
    let those : List ℕ = flat (prune_both r s l.value) in
    let value = behind_colon text l.name behind at colon l.is is_colon in
    let named : drop at text ≡ (l.name ++ 58 ∷ []) ++ behind = l.is ∙ sym (append_assoc l.name (58 ∷ []) behind) in
    let size : colon + 1 ≡ at + length (l.name ++ 58 ∷ []) = omega (arith, is_colon, length-append l.name (58 ∷ [])) in
    let before : written text put.out.items put.from (colon + 1) ≡ (out ++ comma_if kept) ++ (l.name ++ 58 ∷ []) =
    ap (written text put.out.items put.from) size ∙ (written_over text put.out.items (l.name ++ 58 ∷ []) behind put.from at order named ∙ ap (λ x. x ++ (l.name ++ 58 ∷ [])) comma) in
    let copied : written text now.out.items now.from end ≡ ((out ++ comma_if kept) ++ (l.name ++ 58 ∷ [])) ++ those =
    ap (λ (c : Copied). written text c.out.items c.from end) is_now ∙ (ap (λ k. written text after.out.items after.from k) is_end ∙ (copies.1 ∙ ap (λ x. x ++ those) before)) in
    let same : (((out ++ comma_if kept) ++ (l.name ++ 58 ∷ [])) ++ those) ++ tail ≡ out ++ flat_members kept (member l.name (prune_both r s l.value) (members_left p q l.others)) = simp append_assoc in
    record {
      others = l.others;
      have = l.have;
      is = ap (λ k. drop k text) (is_end ∙ copies.0) ∙ drop_behind text (flat l.value) (flat_members true l.others ++ rest) (colon + 1) value;
      total = ap (λ x. x ++ flat_members more (members_left p q l.others)) copied ∙ (ap (λ k. (((out ++ comma_if kept) ++ (l.name ++ 58 ∷ [])) ++ those) ++ flat_members k (members_left p q l.others)) is_more ∙ (same ∙ (ap (λ o. out ++ flat_members kept (member_if o l.name l.value (members_left p q l.others))) some ∙ l.total)));
      ends = omega (arith, is_end, copies.0, is_colon, l.ends, length-append l.name (58 ∷ (flat l.value ++ flat_members true l.others)), length-append (flat l.value) (flat_members true l.others));
    }

-- where no comma follows, that was the last
pub members_done : (text : List ℕ) (p q : Path) (end : ℕ) (kept : Bool) (out : List ℕ) (from : ℕ) (rest whole : List ℕ) (last : ℕ) → end ≤ length text → from ≤ end → (end < length text → ¬ (get_or text end 0 ≡ 44)) →
    MembersBehind text p q end kept (written text out from end) rest whole last → (next : ℕ) → next ≡ min (length text) (end + 1) → (next ≡ last) × (written text out from next ≡ whole)
members_done text p q end kept out from rest whole last within order none b next is_next = by_members b.others b.is b.total b.ends
  where
    by_members : (ms : Members) → drop end text ≡ flat_members true ms ++ rest → written text out from end ++ flat_members kept (members_left p q ms) ≡ whole → end + length (flat_members true ms) ≡ last → (next ≡ last) × (written text out from next ≡ whole)
    by_members no_members is total ends =
        let size : next ≡ end + 1 = omega (arith, is_next, room_for text (125 ∷ []) rest end within is) in
        (omega (arith, size, ends), ap (written text out from) size ∙ (written_over text out (125 ∷ []) rest from end order is ∙ total))
    by_members (member n v ms) is total ends =
        let more : end < length text = omega (arith, length-drop end text, ap length is) in
        absurd (none more (first_at text ((n ++ (58 ∷ (flat v ++ flat_members true ms))) ++ rest) 44 end more is))

-- where one does, the next begins behind it
pub members_next : (text : List ℕ) (p q : Path) (end : ℕ) (kept : Bool) (out rest whole : List ℕ) (last : ℕ) → end < length text → get_or text end 0 ≡ 44 →
    MembersBehind text p q end kept out rest whole last → MembersLeft text p q (end + 1) kept out rest whole last
members_next text p q end kept out rest whole last within comma b = by_members b.others b.have b.is b.total b.ends
  where
    by_members : (ms : Members) → MembersHaveTokens ms → drop end text ≡ flat_members true ms ++ rest → out ++ flat_members kept (members_left p q ms) ≡ whole → end + length (flat_members true ms) ≡ last → MembersLeft text p q (end + 1) kept out rest whole last
    by_members no_members h is total ends =
        let brace : get_or text end 0 ≡ 125 = first_at text rest 125 end within is in absurd (omega (arith, brace, comma))
    by_members (member n v ms) h is total ends =
        record {
          name = n;
          value = v;
          others = ms;
          string = h.0;
          has = h.1;
          have = h.2;
          is = drop_behind text (44 ∷ []) (flat_members false (member n v ms) ++ rest) end is ∙ flat_first n v ms rest;
          total = total;
          ends = omega (arith, ends);
        }
