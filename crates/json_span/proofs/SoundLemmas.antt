-- What the machine of texts passes, the grammar has.
use Rattle.std.proofs.Common.{◌≡◌, ℕ, suc, ◌+◌, ◌≤◌, ◌∷◌, [], ◌++◌, List, length, Bool, true, false, cond, Option, Some, None, refl, sym, ap, ◌∙◌, subst, arith, eqb-true, true≢false, append_assoc, nat_lt}
use Rattle.std.specs.Prelude.{MatchOption, ◌==◌, option_map}
use Rattle.std.proofs.lemmas.Bool.Decides.{nat_tests}
use Rattle.json_span.specs.Strings.{AreBlanks, IsString, is_blank}
use Rattle.json_span.specs.Value.{Value, token, array, object, Items, no_items, item, Members, no_members, member, depth, depth_items, depth_members, Padded, Spells, SpellsItems, SpellsMembers, IsText}
use Rattle.json_span.specs.Nesting.{is_empty}
use Rattle.json_span.specs.Machine.{string_step, string_ends, token_first, token_step, token_ends, at, opens, closes, separates, follows, begins, names, colon, in_token, in_name, place_step, place_ends, start}
use Rattle.json_span.specs.declared.string.Inside.{Inside}
use Rattle.json_span.specs.declared.string.Inside.TheVariants as inside
use Rattle.json_span.specs.declared.token.Token.{Token}
use Rattle.json_span.specs.declared.nesting.Kind.{Kind}
use Rattle.json_span.specs.declared.nesting.Kind.TheVariants as kind
use Rattle.json_span.specs.declared.place.Mode.{Mode}
use Rattle.json_span.specs.declared.place.Mode.TheVariants as mode
use Rattle.json_span.specs.declared.place.Place.{Place}
use Rattle.json_span.proofs.RunLemmas.{Accepts, goes}
use Rattle.json_span.proofs.StringLemmas as string
use Rattle.json_span.proofs.TokenLemmas.{Takes, token_taken}

abbrev pub Goes : Place → List ℕ → Type 0
Goes = Accepts place_step place_ends

abbrev Then : Option Place → List ℕ → Type 0
Then o bs = MatchOption o ⊥ (λ p. Goes p bs)

-- ---- what may come, in the grammar's words

-- what may follow a value inside what is open
abbrev Outer : List Kind → List ℕ → Type 0
Outer [] t = AreBlanks t
Outer (kind.Array ∷ ks) t = (vs : Items) × (blanks tail rest : List ℕ) × AreBlanks blanks × SpellsItems true vs tail × (depth_items vs + suc (length ks) ≤ 128) × (t ≡ blanks ++ (tail ++ rest)) × Outer ks rest
Outer (kind.Object ∷ ks) t = (ms : Members) × (blanks tail rest : List ℕ) × AreBlanks blanks × SpellsMembers true ms tail × (depth_members ms + suc (length ks) ≤ 128) × (t ≡ blanks ++ (tail ++ rest)) × Outer ks rest

-- blanks, a value, and what may follow it
record Begun (ks : List Kind) (t : List ℕ) : Type 0 where
  value : Value
  blanks : List ℕ
  text : List ℕ
  rest : List ℕ
  are_blanks : AreBlanks blanks
  spells : Spells value text
  fits : depth value + length ks ≤ 128
  is : t ≡ blanks ++ (text ++ rest)
  outer : Outer ks rest

-- all that an array has after its bracket, and what may follow it
record Filled (ks : List Kind) (t : List ℕ) : Type 0 where
  items : Items
  inner : List ℕ
  rest : List ℕ
  spells : SpellsItems false items inner
  fits : depth_items items + suc (length ks) ≤ 128
  is : t ≡ inner ++ rest
  outer : Outer ks rest

-- all that an object has after its bracket, and what may follow it
record FilledObject (ks : List Kind) (t : List ℕ) : Type 0 where
  members : Members
  inner : List ℕ
  rest : List ℕ
  spells : SpellsMembers false members inner
  fits : depth_members members + suc (length ks) ≤ 128
  is : t ≡ inner ++ rest
  outer : Outer ks rest

-- a name with blanks round it, a colon, and a value
record Named (ks : List Kind) (t : List ℕ) : Type 0 where
  string : List ℕ
  name : List ℕ
  rest : List ℕ
  is_string : IsString string
  padded : Padded (λ x. x ≡ string) name
  is : t ≡ name ++ 58 ∷ rest
  value : Begun ks rest

-- blanks, a colon, and a value
record Coloned (ks : List Kind) (t : List ℕ) : Type 0 where
  blanks : List ℕ
  rest : List ℕ
  are_blanks : AreBlanks blanks
  is : t ≡ blanks ++ 58 ∷ rest
  value : Begun ks rest

-- the end of a name, and what follows it
record NameEnded (ks : List Kind) (i : Inside) (t : List ℕ) : Type 0 where
  front : List ℕ
  rest : List ℕ
  takes : string.Takes i front
  is : t ≡ front ++ rest
  then : Coloned ks rest

-- the end of a token, and what may follow it
record Ended (ks : List Kind) (k : Token) (t : List ℕ) : Type 0 where
  front : List ℕ
  rest : List ℕ
  takes : Takes k front
  is : t ≡ front ++ rest
  outer : Outer ks rest

-- ---- a byte before

padded_blank : (P : List ℕ → Type 0) (b : ℕ) (t : List ℕ) → is_blank b ≡ true → Padded P t → Padded P (b ∷ t)
padded_blank P b t e p = (b ∷ p.0, p.1, p.2, (e, p.3), p.4, p.5, ap (λ l. b ∷ l) p.6)

items_blank : (b : ℕ) (vs : Items) (t : List ℕ) → is_blank b ≡ true → SpellsItems false vs t → SpellsItems false vs (b ∷ t)
items_blank b no_items t e h = (b ∷ h.0, (e, h.1), ap (λ l. b ∷ l) h.2)
items_blank b (item v vs) t e h = (b ∷ h.0, h.1, padded_blank (Spells v) b h.0 e h.2, h.3, ap (λ l. b ∷ l) h.4)

members_blank : (b : ℕ) (ms : Members) (t : List ℕ) → is_blank b ≡ true → SpellsMembers false ms t → SpellsMembers false ms (b ∷ t)
members_blank b no_members t e h = (b ∷ h.0, (e, h.1), ap (λ l. b ∷ l) h.2)
members_blank b (member n v ms) t e h = (b ∷ h.0, h.1, h.2, h.3, padded_blank (λ x. x ≡ n) b h.0 e h.4, h.5, h.6, ap (λ l. b ∷ l) h.7)

outer_blank : (ks : List Kind) (b : ℕ) (bs : List ℕ) → is_blank b ≡ true → Outer ks bs → Outer ks (b ∷ bs)
outer_blank [] b bs e h = (e, h)
outer_blank (kind.Array ∷ ks) b bs e h = (h.0, b ∷ h.1, h.2, h.3, (e, h.4), h.5, h.6, ap (λ l. b ∷ l) h.7, h.8)
outer_blank (kind.Object ∷ ks) b bs e h = (h.0, b ∷ h.1, h.2, h.3, (e, h.4), h.5, h.6, ap (λ l. b ∷ l) h.7, h.8)

begun_blank : (ks : List Kind) (b : ℕ) (bs : List ℕ) → is_blank b ≡ true → Begun ks bs → Begun ks (b ∷ bs)
begun_blank ks b bs e v = record {
  value = v.value;
  blanks = b ∷ v.blanks;
  text = v.text;
  rest = v.rest;
  are_blanks = (e, v.are_blanks);
  spells = v.spells;
  fits = v.fits;
  is = ap (λ l. b ∷ l) v.is;
  outer = v.outer;
}

filled_blank : (ks : List Kind) (b : ℕ) (bs : List ℕ) → is_blank b ≡ true → Filled ks bs → Filled ks (b ∷ bs)
filled_blank ks b bs e f = record {
  items = f.items;
  inner = b ∷ f.inner;
  rest = f.rest;
  spells = items_blank b f.items f.inner e f.spells;
  fits = f.fits;
  is = ap (λ l. b ∷ l) f.is;
  outer = f.outer;
}

object_blank : (ks : List Kind) (b : ℕ) (bs : List ℕ) → is_blank b ≡ true → FilledObject ks bs → FilledObject ks (b ∷ bs)
object_blank ks b bs e f = record {
  members = f.members;
  inner = b ∷ f.inner;
  rest = f.rest;
  spells = members_blank b f.members f.inner e f.spells;
  fits = f.fits;
  is = ap (λ l. b ∷ l) f.is;
  outer = f.outer;
}

named_blank : (ks : List Kind) (b : ℕ) (bs : List ℕ) → is_blank b ≡ true → Named ks bs → Named ks (b ∷ bs)
named_blank ks b bs e n = record {
  string = n.string;
  name = b ∷ n.name;
  rest = n.rest;
  is_string = n.is_string;
  padded = padded_blank (λ x. x ≡ n.string) b n.name e n.padded;
  is = ap (λ l. b ∷ l) n.is;
  value = n.value;
}

coloned_blank : (ks : List Kind) (b : ℕ) (bs : List ℕ) → is_blank b ≡ true → Coloned ks bs → Coloned ks (b ∷ bs)
coloned_blank ks b bs e c = record { blanks = b ∷ c.blanks; rest = c.rest; are_blanks = (e, c.are_blanks); is = ap (λ l. b ∷ l) c.is; value = c.value }

coloned_here : (ks : List Kind) (bs : List ℕ) → Begun ks bs → Coloned ks (58 ∷ bs)
coloned_here ks bs v = record { blanks = []; rest = bs; are_blanks = tt; is = refl; value = v }

outer_comma : (ks : List Kind) (bs : List ℕ) → Begun (kind.Array ∷ ks) bs → Outer (kind.Array ∷ ks) (44 ∷ bs)
outer_comma ks bs v =
    let o = v.outer in (
      item v.value o.0,
      [],
      44 ∷ ((v.blanks ++ (v.text ++ o.1)) ++ o.2),
      o.3,
      tt,
      (v.blanks ++ (v.text ++ o.1), o.2, (v.blanks, v.text, o.1, v.are_blanks, v.spells, o.4, refl), o.5, refl),
      omega (arith, v.fits, o.6),
      ap (λ l. 44 ∷ l) (v.is ∙ ap (λ r. v.blanks ++ (v.text ++ r)) o.7 ∙ simp append_assoc),
      o.8,
    )

filled_item : (ks : List Kind) (bs : List ℕ) → Begun (kind.Array ∷ ks) bs → Filled ks bs
filled_item ks bs v =
    let o = v.outer in record {
      items = item v.value o.0;
      inner = (v.blanks ++ (v.text ++ o.1)) ++ o.2;
      rest = o.3;
      spells = (v.blanks ++ (v.text ++ o.1), o.2, (v.blanks, v.text, o.1, v.are_blanks, v.spells, o.4, refl), o.5, refl);
      fits = omega (arith, v.fits, o.6);
      is = v.is ∙ ap (λ r. v.blanks ++ (v.text ++ r)) o.7 ∙ simp append_assoc;
      outer = o.8;
    }

filled_close : (ks : List Kind) (bs : List ℕ) → suc (length ks) ≤ 128 → Outer ks bs → Filled ks (93 ∷ bs)
filled_close ks bs fits o = record { items = no_items; inner = 93 ∷ []; rest = bs; spells = ([], tt, refl); fits = omega (arith, fits); is = refl; outer = o }

outer_close : (ks : List Kind) (bs : List ℕ) → suc (length ks) ≤ 128 → Outer ks bs → Outer (kind.Array ∷ ks) (93 ∷ bs)
outer_close ks bs fits o = (no_items, [], 93 ∷ [], bs, tt, refl, omega (arith, fits), refl, o)

begun_array : (ks : List Kind) (bs : List ℕ) → Filled ks bs → Begun ks (91 ∷ bs)
begun_array ks bs f = record {
  value = array f.items;
  blanks = [];
  text = 91 ∷ f.inner;
  rest = f.rest;
  are_blanks = tt;
  spells = (f.inner, f.spells, refl);
  fits = omega (arith, f.fits);
  is = ap (λ l. 91 ∷ l) f.is;
  outer = f.outer;
}

-- a member's bytes
abbrev member_text : (ks : List Kind) (bs : List ℕ) → Named (kind.Object ∷ ks) bs → List ℕ
member_text ks bs n = let v = n.value in let o = v.outer in n.name ++ (58 ∷ ((v.blanks ++ (v.text ++ o.1)) ++ o.2))

member_is : (ks : List Kind) (bs : List ℕ) (n : Named (kind.Object ∷ ks) bs) → bs ≡ member_text ks bs n ++ n.value.outer.3
member_is ks bs n =
    let v = n.value in
    let o = v.outer in
    n.is ∙ ap (λ r. n.name ++ 58 ∷ r) (v.is ∙ ap (λ r. v.blanks ++ (v.text ++ r)) o.7) ∙ simp append_assoc

outer_comma_object : (ks : List Kind) (bs : List ℕ) → Named (kind.Object ∷ ks) bs → Outer (kind.Object ∷ ks) (44 ∷ bs)
outer_comma_object ks bs n =
    let v = n.value in
    let o = v.outer in (
      member n.string v.value o.0,
      [],
      44 ∷ member_text ks bs n,
      o.3,
      tt,
      (n.name, v.blanks ++ (v.text ++ o.1), o.2, n.is_string, n.padded, (v.blanks, v.text, o.1, v.are_blanks, v.spells, o.4, refl), o.5, refl),
      omega (arith, v.fits, o.6),
      ap (λ l. 44 ∷ l) (member_is ks bs n),
      o.8,
    )

filled_member : (ks : List Kind) (bs : List ℕ) → Named (kind.Object ∷ ks) bs → FilledObject ks bs
filled_member ks bs n =
    let v = n.value in
    let o = v.outer in record {
      members = member n.string v.value o.0;
      inner = member_text ks bs n;
      rest = o.3;
      spells = (n.name, v.blanks ++ (v.text ++ o.1), o.2, n.is_string, n.padded, (v.blanks, v.text, o.1, v.are_blanks, v.spells, o.4, refl), o.5, refl);
      fits = omega (arith, v.fits, o.6);
      is = member_is ks bs n;
      outer = o.8;
    }

object_close : (ks : List Kind) (bs : List ℕ) → suc (length ks) ≤ 128 → Outer ks bs → FilledObject ks (125 ∷ bs)
object_close ks bs fits o = record { members = no_members; inner = 125 ∷ []; rest = bs; spells = ([], tt, refl); fits = omega (arith, fits); is = refl; outer = o }

outer_close_object : (ks : List Kind) (bs : List ℕ) → suc (length ks) ≤ 128 → Outer ks bs → Outer (kind.Object ∷ ks) (125 ∷ bs)
outer_close_object ks bs fits o = (no_members, [], 125 ∷ [], bs, tt, refl, omega (arith, fits), refl, o)

begun_object : (ks : List Kind) (bs : List ℕ) → FilledObject ks bs → Begun ks (123 ∷ bs)
begun_object ks bs f = record {
  value = object f.members;
  blanks = [];
  text = 123 ∷ f.inner;
  rest = f.rest;
  are_blanks = tt;
  spells = (f.inner, f.spells, refl);
  fits = omega (arith, f.fits);
  is = ap (λ l. 123 ∷ l) f.is;
  outer = f.outer;
}

begun_token : (ks : List Kind) (b : ℕ) (bs : List ℕ) (k : Token) → length ks ≤ 128 → token_first b ≡ Some k → Ended ks k bs → Begun ks (b ∷ bs)
begun_token ks b bs k fits e r = record {
  value = token (b ∷ r.front);
  blanks = [];
  text = b ∷ r.front;
  rest = r.rest;
  are_blanks = tt;
  spells = (token_taken b r.front k e r.takes, refl);
  fits = omega (arith, fits);
  is = ap (λ x. b ∷ x) r.is;
  outer = r.outer;
}

ended_more : (ks : List Kind) (k j : Token) (b : ℕ) (bs : List ℕ) → token_step k b ≡ Some j → Ended ks j bs → Ended ks k (b ∷ bs)
ended_more ks k j b bs e r = record {
  front = b ∷ r.front;
  rest = r.rest;
  takes = goes token_step token_ends k j b r.front e r.takes;
  is = ap (λ x. b ∷ x) r.is;
  outer = r.outer;
}

ended_here : (ks : List Kind) (k : Token) (t : List ℕ) → token_ends k ≡ true → Outer ks t → Ended ks k t
ended_here ks k t e o = record { front = []; rest = t; takes = e; is = refl; outer = o }

name_more : (ks : List Kind) (i j : Inside) (b : ℕ) (bs : List ℕ) → string_step i b ≡ Some j → NameEnded ks j bs → NameEnded ks i (b ∷ bs)
name_more ks i j b bs e r = record {
  front = b ∷ r.front;
  rest = r.rest;
  takes = goes string_step string_ends i j b r.front e r.takes;
  is = ap (λ x. b ∷ x) r.is;
  then = r.then;
}

name_here : (ks : List Kind) (i : Inside) (t : List ℕ) → string_ends i ≡ true → Coloned ks t → NameEnded ks i t
name_here ks i t e c = record { front = []; rest = t; takes = e; is = refl; then = c }

named_of : (ks : List Kind) (bs : List ℕ) → NameEnded ks inside.Plain bs → Named ks (34 ∷ bs)
named_of ks bs r =
    let c = r.then in record {
      string = 34 ∷ r.front;
      name = 34 ∷ (r.front ++ c.blanks);
      rest = c.rest;
      is_string = string.string_taken (34 ∷ r.front) r.takes;
      padded = ([], 34 ∷ r.front, c.blanks, tt, refl, c.are_blanks, refl);
      is = ap (λ l. 34 ∷ l) (r.is ∙ ap (λ l. r.front ++ l) c.is ∙ sym (append_assoc r.front c.blanks (58 ∷ c.rest)));
      value = c.value;
    }

-- ---- what a byte leads to

-- a byte after a value
follow_taken : (ks : List Kind) (b : ℕ) (bs : List ℕ)
    → ((js : List Kind) → length js ≤ 128 → Goes (at js mode.After) bs → Outer js bs)
    → ((js : List Kind) → length js ≤ 128 → Goes (at js mode.Before) bs → Begun js bs)
    → ((js : List Kind) → length js ≤ 128 → Goes (at js mode.Name) bs → Named js bs)
    → length ks ≤ 128 → Then (follows ks b) bs → Outer ks (b ∷ bs)
follow_taken ks b bs after before name fits h = by_blank (is_blank b) refl h
  where
    close_object : (js : List Kind) → length js ≤ 128 → Then (closes kind.Object js) bs → Outer js (125 ∷ bs)
    close_object [] f k = absurd k
    close_object (kind.Array ∷ js) f k = absurd k
    close_object (kind.Object ∷ js) f k = outer_close_object js bs (omega (arith, f)) (after js (omega (arith, f)) k)

    close_array : (js : List Kind) → length js ≤ 128 → Then (closes kind.Array js) bs → Outer js (93 ∷ bs)
    close_array [] f k = absurd k
    close_array (kind.Array ∷ js) f k = outer_close js bs (omega (arith, f)) (after js (omega (arith, f)) k)
    close_array (kind.Object ∷ js) f k = absurd k

    separate : (js : List Kind) → length js ≤ 128 → Then (separates js) bs → Outer js (44 ∷ bs)
    separate [] f k = absurd k
    separate (kind.Array ∷ js) f k = outer_comma js bs (before (kind.Array ∷ js) f k)
    separate (kind.Object ∷ js) f k = outer_comma_object js bs (name (kind.Object ∷ js) f k)

    by_object : (c : Bool) → (b == 125) ≡ c → Then (cond c (closes kind.Object ks) None) bs → Outer ks (b ∷ bs)
    by_object true e k = subst (λ x. Outer ks (x ∷ bs)) (sym (eqb-true b 125 e)) (close_object ks fits k)
    by_object false e k = absurd k

    by_array : (c : Bool) → (b == 93) ≡ c → Then (cond c (closes kind.Array ks) (cond (b == 125) (closes kind.Object ks) None)) bs → Outer ks (b ∷ bs)
    by_array true e k = subst (λ x. Outer ks (x ∷ bs)) (sym (eqb-true b 93 e)) (close_array ks fits k)
    by_array false e k = by_object (b == 125) refl k

    by_comma : (c : Bool) → (b == 44) ≡ c → Then (cond c (separates ks) (cond (b == 93) (closes kind.Array ks) (cond (b == 125) (closes kind.Object ks) None))) bs → Outer ks (b ∷ bs)
    by_comma true e k = subst (λ x. Outer ks (x ∷ bs)) (sym (eqb-true b 44 e)) (separate ks fits k)
    by_comma false e k = by_array (b == 93) refl k

    by_blank : (c : Bool) → is_blank b ≡ c → Then (cond c (Some (at ks mode.After)) (cond (b == 44) (separates ks) (cond (b == 93) (closes kind.Array ks) (cond (b == 125) (closes kind.Object ks) None)))) bs → Outer ks (b ∷ bs)
    by_blank true e k = outer_blank ks b bs e (after ks fits k)
    by_blank false e k = by_comma (b == 44) refl k

-- a byte where a value begins
begin_taken : {R : Type 0} (ks : List Kind) (m : Mode) (b : ℕ) (bs : List ℕ)
    → (is_blank b ≡ true → Goes (at ks m) bs → R) → (Begun ks (b ∷ bs) → R)
    → (suc (length ks) ≤ 128 → Goes (at (kind.Array ∷ ks) mode.FirstItem) bs → Filled ks bs)
    → (suc (length ks) ≤ 128 → Goes (at (kind.Object ∷ ks) mode.FirstName) bs → FilledObject ks bs)
    → ((k : Token) → Goes (at ks (mode.InToken k)) bs → Ended ks k bs)
    → length ks ≤ 128 → Then (begins ks m b) bs → R
begin_taken {R} ks m b bs blank begun items members ended fits h = by_blank (is_blank b) refl h
  where
    others : Option Place
    others = cond (b == 123) (opens ks kind.Object mode.FirstName) (option_map (λ t. at ks (mode.InToken t)) (token_first b))

    by_token : (o : Option Token) → token_first b ≡ o → Then (option_map (λ t. at ks (mode.InToken t)) o) bs → R
    by_token None e k = absurd k
    by_token (Some j) e k = begun (begun_token ks b bs j fits e (ended j k))

    object_room : (c : Bool) → nat_lt (length ks) 128 ≡ c → (b == 123) ≡ true → Then (cond c (Some (at (kind.Object ∷ ks) mode.FirstName)) None) bs → R
    object_room true e d k =
        let room : suc (length ks) ≤ 128 = grind (arith, nat_tests, e) in
        begun (subst (λ x. Begun ks (x ∷ bs)) (sym (eqb-true b 123 d)) (begun_object ks bs (members room k)))
    object_room false e d k = absurd k

    by_object : (c : Bool) → (b == 123) ≡ c → Then (cond c (opens ks kind.Object mode.FirstName) (option_map (λ t. at ks (mode.InToken t)) (token_first b))) bs → R
    by_object true e k = object_room (nat_lt (length ks) 128) refl e k
    by_object false e k = by_token (token_first b) refl k

    array_room : (c : Bool) → nat_lt (length ks) 128 ≡ c → (b == 91) ≡ true → Then (cond c (Some (at (kind.Array ∷ ks) mode.FirstItem)) None) bs → R
    array_room true e d k =
        let room : suc (length ks) ≤ 128 = grind (arith, nat_tests, e) in
        begun (subst (λ x. Begun ks (x ∷ bs)) (sym (eqb-true b 91 d)) (begun_array ks bs (items room k)))
    array_room false e d k = absurd k

    by_array : (c : Bool) → (b == 91) ≡ c → Then (cond c (opens ks kind.Array mode.FirstItem) (cond (b == 123) (opens ks kind.Object mode.FirstName) (option_map (λ t. at ks (mode.InToken t)) (token_first b)))) bs → R
    by_array true e k = array_room (nat_lt (length ks) 128) refl e k
    by_array false e k = by_object (b == 123) refl k

    by_blank : (c : Bool) → is_blank b ≡ c → Then (cond c (Some (at ks m)) (cond (b == 91) (opens ks kind.Array mode.FirstItem) (cond (b == 123) (opens ks kind.Object mode.FirstName) (option_map (λ t. at ks (mode.InToken t)) (token_first b))))) bs → R
    by_blank true e k = blank e k
    by_blank false e k = by_array (b == 91) refl k

-- a byte where a name begins
names_taken : {R : Type 0} (ks : List Kind) (m : Mode) (b : ℕ) (bs : List ℕ)
    → (is_blank b ≡ true → Goes (at ks m) bs → R) → (Named ks (b ∷ bs) → R)
    → (Goes (at ks (mode.InName inside.Plain)) bs → NameEnded ks inside.Plain bs) → Then (names ks m b) bs → R
names_taken {R} ks m b bs blank named ended h = by_blank (is_blank b) refl h
  where
    by_quote : (c : Bool) → (b == 34) ≡ c → Then (cond c (Some (at ks (mode.InName inside.Plain))) None) bs → R
    by_quote true e k = named (subst (λ x. Named ks (x ∷ bs)) (sym (eqb-true b 34 e)) (named_of ks bs (ended k)))
    by_quote false e k = absurd k

    by_blank : (c : Bool) → is_blank b ≡ c → Then (cond c (Some (at ks m)) (cond (b == 34) (Some (at ks (mode.InName inside.Plain))) None)) bs → R
    by_blank true e k = blank e k
    by_blank false e k = by_quote (b == 34) refl k

-- a byte after a name
colon_byte : (ks : List Kind) (b : ℕ) (bs : List ℕ) → (Goes (at ks mode.Colon) bs → Coloned ks bs) → (Goes (at ks mode.Before) bs → Begun ks bs)
    → Then (colon ks b) bs → Coloned ks (b ∷ bs)
colon_byte ks b bs more before h = by_blank (is_blank b) refl h
  where
    by_colon : (c : Bool) → (b == 58) ≡ c → Then (cond c (Some (at ks mode.Before)) None) bs → Coloned ks (b ∷ bs)
    by_colon true e k = subst (λ x. Coloned ks (x ∷ bs)) (sym (eqb-true b 58 e)) (coloned_here ks bs (before k))
    by_colon false e k = absurd k

    by_blank : (c : Bool) → is_blank b ≡ c → Then (cond c (Some (at ks mode.Colon)) (cond (b == 58) (Some (at ks mode.Before)) None)) bs → Coloned ks (b ∷ bs)
    by_blank true e k = coloned_blank ks b bs e (more k)
    by_blank false e k = by_colon (b == 58) refl k

token_byte : (ks : List Kind) (b : ℕ) (bs : List ℕ) (k : Token) → ((j : Token) → Goes (at ks (mode.InToken j)) bs → Ended ks j bs)
    → (Then (follows ks b) bs → Outer ks (b ∷ bs)) → Then (in_token ks (token_ends k) b (token_step k b)) bs → Ended ks k (b ∷ bs)
token_byte ks b bs k more follow h = by_step (token_step k b) refl h
  where
    by_end : (c : Bool) → token_ends k ≡ c → Then (cond c (follows ks b) None) bs → Ended ks k (b ∷ bs)
    by_end true e g = ended_here ks k (b ∷ bs) e (follow g)
    by_end false e g = absurd g

    by_step : (o : Option Token) → token_step k b ≡ o → Then (in_token ks (token_ends k) b o) bs → Ended ks k (b ∷ bs)
    by_step (Some j) e g = ended_more ks k j b bs e (more j g)
    by_step None e g = by_end (token_ends k) refl g

name_byte : (ks : List Kind) (b : ℕ) (bs : List ℕ) (i : Inside) → ((j : Inside) → Goes (at ks (mode.InName j)) bs → NameEnded ks j bs)
    → (Then (colon ks b) bs → Coloned ks (b ∷ bs)) → Then (in_name ks (string_ends i) b (string_step i b)) bs → NameEnded ks i (b ∷ bs)
name_byte ks b bs i more follow h = by_step (string_step i b) refl h
  where
    by_end : (c : Bool) → string_ends i ≡ c → Then (cond c (colon ks b) None) bs → NameEnded ks i (b ∷ bs)
    by_end true e g = name_here ks i (b ∷ bs) e (follow g)
    by_end false e g = absurd g

    by_step : (o : Option Inside) → string_step i b ≡ o → Then (in_name ks (string_ends i) b o) bs → NameEnded ks i (b ∷ bs)
    by_step (Some j) e g = name_more ks i j b bs e (more j g)
    by_step None e g = by_end (string_ends i) refl g

close_or_item : (ks : List Kind) (b : ℕ) (bs : List ℕ) → suc (length ks) ≤ 128 → (Goes (at ks mode.After) bs → Outer ks bs)
    → (Then (begins (kind.Array ∷ ks) mode.FirstItem b) bs → Filled ks (b ∷ bs))
    → Then (cond (b == 93) (closes kind.Array (kind.Array ∷ ks)) (begins (kind.Array ∷ ks) mode.FirstItem b)) bs → Filled ks (b ∷ bs)
close_or_item ks b bs fits after other h = by_close (b == 93) refl h
  where
    by_close : (c : Bool) → (b == 93) ≡ c → Then (cond c (closes kind.Array (kind.Array ∷ ks)) (begins (kind.Array ∷ ks) mode.FirstItem b)) bs → Filled ks (b ∷ bs)
    by_close true e k = subst (λ x. Filled ks (x ∷ bs)) (sym (eqb-true b 93 e)) (filled_close ks bs fits (after k))
    by_close false e k = other k

close_or_name : (ks : List Kind) (b : ℕ) (bs : List ℕ) → suc (length ks) ≤ 128 → (Goes (at ks mode.After) bs → Outer ks bs)
    → (Then (names (kind.Object ∷ ks) mode.FirstName b) bs → FilledObject ks (b ∷ bs))
    → Then (cond (b == 125) (closes kind.Object (kind.Object ∷ ks)) (names (kind.Object ∷ ks) mode.FirstName b)) bs → FilledObject ks (b ∷ bs)
close_or_name ks b bs fits after other h = by_close (b == 125) refl h
  where
    by_close : (c : Bool) → (b == 125) ≡ c → Then (cond c (closes kind.Object (kind.Object ∷ ks)) (names (kind.Object ∷ ks) mode.FirstName b)) bs → FilledObject ks (b ∷ bs)
    by_close true e k = subst (λ x. FilledObject ks (x ∷ bs)) (sym (eqb-true b 125 e)) (object_close ks bs fits (after k))
    by_close false e k = other k

-- ---- ends

outer_end : (ks : List Kind) (x : Bool) → cond (is_empty ks) x false ≡ true → Outer ks []
outer_end [] x e = tt
outer_end (k ∷ ks) x e = absurd (true≢false (sym e))

split_if : (c x : Bool) → cond c x false ≡ true → (c ≡ true) × (x ≡ true)
split_if true x e = (refl, e)
split_if false x e = absurd (true≢false (sym e))

pub never_ends : (c : Bool) → cond c false false ≡ true → ⊥
never_ends true e = true≢false (sym e)
never_ends false e = true≢false (sym e)

mutual
  after_taken : (ks : List Kind) (t : List ℕ) → length ks ≤ 128 → Goes (at ks mode.After) t → Outer ks t
  after_taken ks [] fits h = outer_end ks true h
  after_taken ks (b ∷ bs) fits h = follow_taken ks b bs (λ js f. after_taken js bs f) (λ js f. before_taken js bs f) (λ js f. name_taken js bs f) fits h

  before_taken : (ks : List Kind) (t : List ℕ) → length ks ≤ 128 → Goes (at ks mode.Before) t → Begun ks t
  before_taken ks [] fits h = absurd (never_ends (is_empty ks) h)
  before_taken ks (b ∷ bs) fits h =
      begin_taken ks mode.Before b bs (λ e k. begun_blank ks b bs e (before_taken ks bs fits k)) (λ v. v) (λ f k. items_taken ks bs f k) (λ f k. members_taken ks bs f k) (λ j k. token_ended ks j bs fits k) fits h

  items_taken : (ks : List Kind) (t : List ℕ) → suc (length ks) ≤ 128 → Goes (at (kind.Array ∷ ks) mode.FirstItem) t → Filled ks t
  items_taken ks [] fits h = absurd (true≢false (sym h))
  items_taken ks (b ∷ bs) fits h =
      close_or_item ks b bs fits (λ k. after_taken ks bs (omega (arith, fits)) k)
      (λ k. begin_taken (kind.Array ∷ ks) mode.FirstItem b bs (λ e j. filled_blank ks b bs e (items_taken ks bs fits j)) (λ v. filled_item ks (b ∷ bs) v) (λ f j. items_taken (kind.Array ∷ ks) bs f j) (λ f j. members_taken (kind.Array ∷ ks) bs f j) (λ i j. token_ended (kind.Array ∷ ks) i bs fits j) fits k) h

  members_taken : (ks : List Kind) (t : List ℕ) → suc (length ks) ≤ 128 → Goes (at (kind.Object ∷ ks) mode.FirstName) t → FilledObject ks t
  members_taken ks [] fits h = absurd (true≢false (sym h))
  members_taken ks (b ∷ bs) fits h =
      close_or_name ks b bs fits (λ k. after_taken ks bs (omega (arith, fits)) k)
      (λ k. names_taken (kind.Object ∷ ks) mode.FirstName b bs (λ e j. object_blank ks b bs e (members_taken ks bs fits j)) (λ n. filled_member ks (b ∷ bs) n) (λ j. name_ended (kind.Object ∷ ks) inside.Plain bs fits j) k) h

  name_taken : (ks : List Kind) (t : List ℕ) → length ks ≤ 128 → Goes (at ks mode.Name) t → Named ks t
  name_taken ks [] fits h = absurd (never_ends (is_empty ks) h)
  name_taken ks (b ∷ bs) fits h = names_taken ks mode.Name b bs (λ e k. named_blank ks b bs e (name_taken ks bs fits k)) (λ n. n) (λ k. name_ended ks inside.Plain bs fits k) h

  name_ended : (ks : List Kind) (i : Inside) (t : List ℕ) → length ks ≤ 128 → Goes (at ks (mode.InName i)) t → NameEnded ks i t
  name_ended ks i [] fits h = absurd (never_ends (is_empty ks) h)
  name_ended ks i (b ∷ bs) fits h =
      name_byte ks b bs i (λ j k. name_ended ks j bs fits k) (λ k. colon_byte ks b bs (λ g. colon_taken ks bs fits g) (λ g. before_taken ks bs fits g) k) h

  colon_taken : (ks : List Kind) (t : List ℕ) → length ks ≤ 128 → Goes (at ks mode.Colon) t → Coloned ks t
  colon_taken ks [] fits h = absurd (never_ends (is_empty ks) h)
  colon_taken ks (b ∷ bs) fits h = colon_byte ks b bs (λ g. colon_taken ks bs fits g) (λ g. before_taken ks bs fits g) h

  token_ended : (ks : List Kind) (k : Token) (t : List ℕ) → length ks ≤ 128 → Goes (at ks (mode.InToken k)) t → Ended ks k t
  token_ended ks k [] fits h = let e = split_if (is_empty ks) (token_ends k) h in ended_here ks k [] e.1 (outer_end ks (token_ends k) h)
  token_ended ks k (b ∷ bs) fits h =
      token_byte ks b bs k (λ j g. token_ended ks j bs fits g)
      (λ g. follow_taken ks b bs (λ js f. after_taken js bs f) (λ js f. before_taken js bs f) (λ js f. name_taken js bs f) fits g) h

-- what the machine passes is a text
pub text_taken : (t : List ℕ) → Goes start t → IsText t
text_taken t h =
    let v = before_taken [] t (omega arith) h in
    (v.value, ((v.blanks, v.text, v.rest, v.are_blanks, v.spells, v.outer, v.is), omega (arith, v.fits)))
