-- What the grammar has, the machine of texts passes, and what it keeps is the tokens joined.
use Rattle.std.proofs.Common.{◌≡◌, ℕ, suc, ◌+◌, ◌≤◌, ◌<◌, ◌∷◌, [], ◌++◌, List, length, Bool, true, false, cond, Option, Some, None, refl, sym, ap, ◌∙◌, subst, inl, inr, arith, eqb-true, true≢false, append_assoc, nat_lt}
use Rattle.std.specs.Prelude.{MatchOption, ◌==◌, ◌||◌, not, option_map}
use Rattle.std.proofs.lemmas.List.{append-nil}
use Rattle.std.proofs.lemmas.Bool.Decides.{nat_tests}
use Rattle.json_span.specs.Strings.{AreBlanks, IsString, is_blank}
use Rattle.json_span.specs.Value.{Value, token, array, object, Items, no_items, item, Members, no_members, member, flat, flat_items, flat_members, depth, depth_items, depth_members, Padded, Spells, SpellsItems, SpellsMembers, StandsFor, IsText}
use Rattle.json_span.specs.Nesting.{is_empty}
use Rattle.json_span.specs.Machine.{string_step, string_ends, token_first, token_step, token_ends, at, opens, closes, separates, follows, begins, names, colon, in_token, in_name, mode_step, place_step, place_ends, is_inside, keeps, start}
use Rattle.json_span.specs.declared.string.Inside.{Inside}
use Rattle.json_span.specs.declared.string.Inside.TheVariants as inside
use Rattle.json_span.specs.declared.token.Token.{Token}
use Rattle.json_span.specs.declared.nesting.Kind.{Kind}
use Rattle.json_span.specs.declared.nesting.Kind.TheVariants as kind
use Rattle.json_span.specs.declared.place.Mode.{Mode}
use Rattle.json_span.specs.declared.place.Mode.TheVariants as mode
use Rattle.json_span.specs.declared.place.Place.{Place}
use Rattle.json_span.proofs.RunLemmas.{Accepts, goes, keep, by_option, output, gives_kept, gives_skipped, same_step}
use Rattle.json_span.proofs.RunLemmas as run
use Rattle.json_span.proofs.SoundLemmas.{Goes, never_ends}
use Rattle.json_span.proofs.StringLemmas as string
use Rattle.json_span.proofs.TokenLemmas.{Takes, Begins, IsDelimiter, IsFirst, token_begins, token_stops, string_stops, first_byte, token_completion, token_completes}

-- the bytes lead from the place to a text's end, and these of them are kept
abbrev pub Gives : Place → List ℕ → List ℕ → Type 0
Gives = run.Gives place_step place_ends keeps

kept : (p q : Place) (b : ℕ) (bs out : List ℕ) → place_step p b ≡ Some q → keeps q b ≡ true → Gives q bs out → Gives p (b ∷ bs) (b ∷ out)
kept = gives_kept place_step place_ends keeps

skipped : (p q : Place) (b : ℕ) (bs out : List ℕ) → place_step p b ≡ Some q → keeps q b ≡ false → Gives q bs out → Gives p (b ∷ bs) out
skipped = gives_skipped place_step place_ends keeps

-- ---- blanks

blank_skips : (x : Bool) (b : ℕ) → x ≡ false → is_blank b ≡ true → x || not (is_blank b) ≡ false
blank_skips x b e d = rw (e, d) refl

blanks_go : (ks : List Kind) (m : Mode) → is_inside m ≡ false → ((b : ℕ) → is_blank b ≡ true → mode_step ks m b ≡ Some (at ks m)) → (bs rest out : List ℕ) → AreBlanks bs → Gives (at ks m) rest out → Gives (at ks m) (bs ++ rest) out
blanks_go ks m outside blank [] rest out h k = k
blanks_go ks m outside blank (b ∷ bs) rest out h k = skipped (at ks m) (at ks m) b (bs ++ rest) out (blank b h.0) (blank_skips (is_inside m) b outside h.0) (blanks_go ks m outside blank bs rest out h.1 k)

after_blank : (ks : List Kind) (b : ℕ) → is_blank b ≡ true → mode_step ks mode.After b ≡ Some (at ks mode.After)
after_blank ks b e = ap (λ c. cond c (Some (at ks mode.After)) (cond (b == 44) (separates ks) (cond (b == 93) (closes kind.Array ks) (cond (b == 125) (closes kind.Object ks) None)))) e

colon_blank : (ks : List Kind) (b : ℕ) → is_blank b ≡ true → mode_step ks mode.Colon b ≡ Some (at ks mode.Colon)
colon_blank ks b e = ap (λ c. cond c (Some (at ks mode.Colon)) (cond (b == 58) (Some (at ks mode.Before)) None)) e

-- ---- where values and names begin

-- the machine takes values in this mode
record Starts (ks : List Kind) (m : Mode) : Type 0 where
  outside : is_inside m ≡ false
  blank : (b : ℕ) → is_blank b ≡ true → mode_step ks m b ≡ Some (at ks m)
  array : length ks < 128 → mode_step ks m 91 ≡ Some (at (kind.Array ∷ ks) mode.FirstItem)
  object : length ks < 128 → mode_step ks m 123 ≡ Some (at (kind.Object ∷ ks) mode.FirstName)
  token : (b : ℕ) (t : Token) → token_first b ≡ Some t → mode_step ks m b ≡ Some (at ks (mode.InToken t))

lt_test : (n : ℕ) → n < 128 → nat_lt n 128 ≡ true
lt_test n h = grind (arith, nat_tests)

begins_token : (ks : List Kind) (m : Mode) (b : ℕ) (t : Token) → IsFirst b → token_first b ≡ Some t → begins ks m b ≡ Some (at ks (mode.InToken t))
begins_token ks m b t f e =
    ap (λ c. cond c (Some (at ks m)) (cond (b == 91) (opens ks kind.Array mode.FirstItem) (cond (b == 123) (opens ks kind.Object mode.FirstName) (option_map (λ j. at ks (mode.InToken j)) (token_first b))))) f.not_blank
    ∙ ap (λ c. cond c (opens ks kind.Array mode.FirstItem) (cond (b == 123) (opens ks kind.Object mode.FirstName) (option_map (λ j. at ks (mode.InToken j)) (token_first b)))) f.not_array
    ∙ ap (λ c. cond c (opens ks kind.Object mode.FirstName) (option_map (λ j. at ks (mode.InToken j)) (token_first b))) f.not_object
    ∙ ap (option_map (λ j. at ks (mode.InToken j))) e

begins_blank : (ks : List Kind) (m : Mode) (b : ℕ) → is_blank b ≡ true → begins ks m b ≡ Some (at ks m)
begins_blank ks m b e = ap (λ c. cond c (Some (at ks m)) (cond (b == 91) (opens ks kind.Array mode.FirstItem) (cond (b == 123) (opens ks kind.Object mode.FirstName) (option_map (λ j. at ks (mode.InToken j)) (token_first b))))) e

blank_no_end : (b : ℕ) → is_blank b ≡ true → (b == 93) ≡ false
blank_no_end b e = grind (arith, nat_tests)

blank_no_object_end : (b : ℕ) → is_blank b ≡ true → (b == 125) ≡ false
blank_no_object_end b e = grind (arith, nat_tests)

before_starts : (ks : List Kind) → Starts ks mode.Before
before_starts ks = record {
  outside = refl;
  blank = begins_blank ks mode.Before;
  array = λ room. ap (λ c. cond c (Some (at (kind.Array ∷ ks) mode.FirstItem)) None) (lt_test (length ks) room);
  object = λ room. ap (λ c. cond c (Some (at (kind.Object ∷ ks) mode.FirstName)) None) (lt_test (length ks) room);
  token = λ b t e. begins_token ks mode.Before b t (first_byte b t e) e;
}

first_starts : (ks : List Kind) → Starts ks mode.FirstItem
first_starts ks = record {
  outside = refl;
  blank = λ b e. ap (λ c. cond c (closes kind.Array ks) (begins ks mode.FirstItem b)) (blank_no_end b e) ∙ begins_blank ks mode.FirstItem b e;
  array = λ room. ap (λ c. cond c (Some (at (kind.Array ∷ ks) mode.FirstItem)) None) (lt_test (length ks) room);
  object = λ room. ap (λ c. cond c (Some (at (kind.Object ∷ ks) mode.FirstName)) None) (lt_test (length ks) room);
  token = λ b t e. let f = first_byte b t e in ap (λ c. cond c (closes kind.Array ks) (begins ks mode.FirstItem b)) f.not_end ∙ begins_token ks mode.FirstItem b t f e;
}

-- the machine takes names in this mode
record NamesStart (ks : List Kind) (m : Mode) : Type 0 where
  outside : is_inside m ≡ false
  blank : (b : ℕ) → is_blank b ≡ true → mode_step ks m b ≡ Some (at ks m)
  quote : mode_step ks m 34 ≡ Some (at ks (mode.InName inside.Plain))

names_blank : (ks : List Kind) (m : Mode) (b : ℕ) → is_blank b ≡ true → names ks m b ≡ Some (at ks m)
names_blank ks m b e = ap (λ c. cond c (Some (at ks m)) (cond (b == 34) (Some (at ks (mode.InName inside.Plain))) None)) e

name_starts : (ks : List Kind) → NamesStart ks mode.Name
name_starts ks = record { outside = refl; blank = names_blank ks mode.Name; quote = refl }

first_name_starts : (ks : List Kind) → NamesStart ks mode.FirstName
first_name_starts ks = record {
  outside = refl;
  blank = λ b e. ap (λ c. cond c (closes kind.Object ks) (names ks mode.FirstName b)) (blank_no_object_end b e) ∙ names_blank ks mode.FirstName b e;
  quote = refl;
}

-- ---- tokens

delimits : (ks : List Kind) (b : ℕ) (bs : List ℕ) → MatchOption (follows ks b) ⊥ (λ p. Goes p bs) → IsDelimiter b
delimits ks b bs h = by_blank (is_blank b) refl h
  where
    by_object : (c : Bool) → (b == 125) ≡ c → MatchOption (cond c (closes kind.Object ks) None) ⊥ (λ p. Goes p bs) → IsDelimiter b
    by_object true e k = inr (inr (inr (inl e)))
    by_object false e k = absurd k

    by_array : (c : Bool) → (b == 93) ≡ c → MatchOption (cond c (closes kind.Array ks) (cond (b == 125) (closes kind.Object ks) None)) ⊥ (λ p. Goes p bs) → IsDelimiter b
    by_array true e k = inr (inr (inl e))
    by_array false e k = by_object (b == 125) refl k

    by_comma : (c : Bool) → (b == 44) ≡ c → MatchOption (cond c (separates ks) (cond (b == 93) (closes kind.Array ks) (cond (b == 125) (closes kind.Object ks) None))) ⊥ (λ p. Goes p bs) → IsDelimiter b
    by_comma true e k = inr (inl e)
    by_comma false e k = by_array (b == 93) refl k

    by_blank : (c : Bool) → is_blank b ≡ c → MatchOption (cond c (Some (at ks mode.After)) (cond (b == 44) (separates ks) (cond (b == 93) (closes kind.Array ks) (cond (b == 125) (closes kind.Object ks) None)))) ⊥ (λ p. Goes p bs) → IsDelimiter b
    by_blank true e k = inl e
    by_blank false e k = by_comma (b == 44) refl k

-- a token that may end goes on as what follows it
token_follows : (ks : List Kind) (t : Token) (rest out : List ℕ) → token_ends t ≡ true → Gives (at ks mode.After) rest out → Gives (at ks (mode.InToken t)) rest out
token_follows ks t [] out e k = (ap (λ c. cond (is_empty ks) c false) e ∙ k.0, k.1)
token_follows ks t (b ∷ bs) out e k =
    let stop : in_token ks (token_ends t) b (token_step t b) ≡ follows ks b =
    ap (in_token ks (token_ends t) b) (token_stops t b e (delimits ks b bs k.0)) ∙ ap (λ c. cond c (follows ks b) None) e in
    same_step place_step place_ends keeps (at ks (mode.InToken t)) (at ks mode.After) b bs out stop k

token_goes : (ks : List Kind) (t : Token) (bytes rest out : List ℕ) → Takes t bytes → Gives (at ks mode.After) rest out → Gives (at ks (mode.InToken t)) (bytes ++ rest) (bytes ++ out)
token_goes ks t [] rest out h k = token_follows ks t rest out h k
token_goes ks t (b ∷ bs) rest out h k = by_step (token_step t b) refl (λ j g. token_goes ks j bs rest out g k) h
  where
    by_step : (o : Option Token) → token_step t b ≡ o → ((j : Token) → Takes j bs → Gives (at ks (mode.InToken j)) (bs ++ rest) (bs ++ out)) → MatchOption o ⊥ (λ j. Takes j bs) → Gives (at ks (mode.InToken t)) (b ∷ (bs ++ rest)) (b ∷ (bs ++ out))
    by_step None e next g = absurd g
    by_step (Some j) e next g = kept (at ks (mode.InToken t)) (at ks (mode.InToken j)) b (bs ++ rest) (bs ++ out) (ap (in_token ks (token_ends t) b) e) refl (next j g)

token_starts : (ks : List Kind) (m : Mode) → Starts ks m → (t rest out : List ℕ) → Begins t → Gives (at ks mode.After) rest out → Gives (at ks m) (t ++ rest) (t ++ out)
token_starts ks m s [] rest out h k = absurd h
token_starts ks m s (b ∷ bs) rest out h k = by_step (token_first b) refl h
  where
    by_step : (o : Option Token) → token_first b ≡ o → MatchOption o ⊥ (λ j. Takes j bs) → Gives (at ks m) (b ∷ (bs ++ rest)) (b ∷ (bs ++ out))
    by_step None e g = absurd g
    by_step (Some j) e g = kept (at ks m) (at ks (mode.InToken j)) b (bs ++ rest) (bs ++ out) (s.token b j e) refl (token_goes ks j bs rest out g k)

-- ---- names

name_follows : (ks : List Kind) (i : Inside) (rest out : List ℕ) → string_ends i ≡ true → Gives (at ks mode.Colon) rest out → Gives (at ks (mode.InName i)) rest out
name_follows ks i [] out e k = absurd (never_ends (is_empty ks) k.0)
name_follows ks i (b ∷ bs) out e k =
    let stop : in_name ks (string_ends i) b (string_step i b) ≡ colon ks b = ap (in_name ks (string_ends i) b) (string_stops i b e) ∙ ap (λ c. cond c (colon ks b) None) e in
    same_step place_step place_ends keeps (at ks (mode.InName i)) (at ks mode.Colon) b bs out stop k

name_goes : (ks : List Kind) (i : Inside) (bytes rest out : List ℕ) → string.Takes i bytes → Gives (at ks mode.Colon) rest out → Gives (at ks (mode.InName i)) (bytes ++ rest) (bytes ++ out)
name_goes ks i [] rest out h k = name_follows ks i rest out h k
name_goes ks i (b ∷ bs) rest out h k = by_step (string_step i b) refl (λ j g. name_goes ks j bs rest out g k) h
  where
    by_step : (o : Option Inside) → string_step i b ≡ o → ((j : Inside) → string.Takes j bs → Gives (at ks (mode.InName j)) (bs ++ rest) (bs ++ out)) → MatchOption o ⊥ (λ j. string.Takes j bs) → Gives (at ks (mode.InName i)) (b ∷ (bs ++ rest)) (b ∷ (bs ++ out))
    by_step None e next g = absurd g
    by_step (Some j) e next g = kept (at ks (mode.InName i)) (at ks (mode.InName j)) b (bs ++ rest) (bs ++ out) (ap (in_name ks (string_ends i) b) e) refl (next j g)

string_goes_on : (ks : List Kind) (m : Mode) → NamesStart ks m → (n rest out : List ℕ) → string.Takes inside.Start n → Gives (at ks mode.Colon) rest out → Gives (at ks m) (n ++ rest) (n ++ out)
string_goes_on ks m s [] rest out h k = absurd (true≢false (sym h))
string_goes_on ks m s (b ∷ bs) rest out h k = by_quote (b == 34) refl h
  where
    by_quote : (c : Bool) → (b == 34) ≡ c → MatchOption (cond c (Some inside.Plain) None) ⊥ (λ i. string.Takes i bs) → Gives (at ks m) (b ∷ (bs ++ rest)) (b ∷ (bs ++ out))
    by_quote true e g = subst (λ x. Gives (at ks m) (x ∷ (bs ++ rest)) (x ∷ (bs ++ out))) (sym (eqb-true b 34 e)) (kept (at ks m) (at ks (mode.InName inside.Plain)) 34 (bs ++ rest) (bs ++ out) s.quote refl (name_goes ks inside.Plain bs rest out g k))
    by_quote false e g = absurd g

-- a name, a colon, and a value that the machine passes
member_goes : (ks : List Kind) (m : Mode) → NamesStart ks m → (n name rest out : List ℕ) → IsString n → Padded (λ x. x ≡ n) name → Gives (at ks mode.Before) rest out
    → Gives (at ks m) (name ++ (58 ∷ rest)) (n ++ (58 ∷ out))
member_goes ks m s n name rest out is_string p k =
    let colon : Gives (at ks mode.Colon) (58 ∷ rest) (58 ∷ out) = kept (at ks mode.Colon) (at ks mode.Before) 58 rest out refl refl k in
    let behind : Gives (at ks mode.Colon) (p.2 ++ (58 ∷ rest)) (58 ∷ out) = blanks_go ks mode.Colon refl (colon_blank ks) p.2 (58 ∷ rest) (58 ∷ out) p.5 colon in
    let body : Gives (at ks m) (n ++ (p.2 ++ (58 ∷ rest))) (n ++ (58 ∷ out)) = string_goes_on ks m s n (p.2 ++ (58 ∷ rest)) (58 ∷ out) (string.string_goes n is_string) behind in
    let all : Gives (at ks m) (p.0 ++ (n ++ (p.2 ++ (58 ∷ rest)))) (n ++ (58 ∷ out)) = blanks_go ks m s.outside s.blank p.0 (n ++ (p.2 ++ (58 ∷ rest))) (n ++ (58 ∷ out)) p.3 body in
    let same : p.0 ++ (n ++ (p.2 ++ (58 ∷ rest))) ≡ name ++ (58 ∷ rest) = rw (p.6, p.4) (simp append_assoc) in
    subst (λ l. Gives (at ks m) l (n ++ (58 ∷ out))) same all

-- ---- values

padded_goes : (ks : List Kind) (m : Mode) → Starts ks m → (v : Value) (first rest out : List ℕ)
    → ((text more outs : List ℕ) → Spells v text → Gives (at ks mode.After) more outs → Gives (at ks m) (text ++ more) (flat v ++ outs))
    → Padded (Spells v) first → Gives (at ks mode.After) rest out → Gives (at ks m) (first ++ rest) (flat v ++ out)
padded_goes ks m s v first rest out value p k =
    let behind : Gives (at ks mode.After) (p.2 ++ rest) out = blanks_go ks mode.After refl (after_blank ks) p.2 rest out p.5 k in
    let body : Gives (at ks m) (p.1 ++ (p.2 ++ rest)) (flat v ++ out) = value p.1 (p.2 ++ rest) out p.4 behind in
    let all : Gives (at ks m) (p.0 ++ (p.1 ++ (p.2 ++ rest))) (flat v ++ out) = blanks_go ks m s.outside s.blank p.0 (p.1 ++ (p.2 ++ rest)) (flat v ++ out) p.3 body in
    let same : p.0 ++ (p.1 ++ (p.2 ++ rest)) ≡ first ++ rest = rw p.6 (simp append_assoc) in
    subst (λ l. Gives (at ks m) l (flat v ++ out)) same all

mutual
  value_goes : (v : Value) (text : List ℕ) (ks : List Kind) (m : Mode) (rest out : List ℕ) → Starts ks m → Spells v text → depth v + length ks ≤ 128 → Gives (at ks mode.After) rest out → Gives (at ks m) (text ++ rest) (flat v ++ out)
  value_goes (token t) text ks m rest out s h fits k = rw h.1 (token_starts ks m s t rest out (token_begins t h.0) k)
  value_goes (array vs) text ks m rest out s h fits k =
      rw h.2 (kept (at ks m) (at (kind.Array ∷ ks) mode.FirstItem) 91 (h.0 ++ rest) (flat_items false vs ++ out) (s.array (omega (arith, fits))) refl (items_go vs h.0 ks rest out h.1 (omega (arith, fits)) k))
  value_goes (object ms) text ks m rest out s h fits k =
      rw h.2 (kept (at ks m) (at (kind.Object ∷ ks) mode.FirstName) 123 (h.0 ++ rest) (flat_members false ms ++ out) (s.object (omega (arith, fits))) refl (members_go ms h.0 ks rest out h.1 (omega (arith, fits)) k))

  items_go : (vs : Items) (inner : List ℕ) (ks : List Kind) (rest out : List ℕ) → SpellsItems false vs inner → depth_items vs + suc (length ks) ≤ 128 → Gives (at ks mode.After) rest out → Gives (at (kind.Array ∷ ks) mode.FirstItem) (inner ++ rest) (flat_items false vs ++ out)
  items_go no_items inner ks rest out h fits k =
      rw (h.2, append_assoc h.0 (93 ∷ []) rest) (blanks_go (kind.Array ∷ ks) mode.FirstItem refl (first_starts (kind.Array ∷ ks)).blank h.0 (93 ∷ rest) (93 ∷ out) h.1 (kept (at (kind.Array ∷ ks) mode.FirstItem) (at ks mode.After) 93 rest out refl refl k))
  items_go (item v vs) inner ks rest out h fits k =
      let after = more_items vs h.1 ks rest out h.3 (omega (arith, fits)) k in
      let all = padded_goes (kind.Array ∷ ks) mode.FirstItem (first_starts (kind.Array ∷ ks)) v h.0 (h.1 ++ rest) (flat_items true vs ++ out)
      (λ text more outs s g. value_goes v text (kind.Array ∷ ks) mode.FirstItem more outs (first_starts (kind.Array ∷ ks)) s (omega (arith, fits)) g) h.2 after in
      rw (h.4, append_assoc h.0 h.1 rest, append_assoc (flat v) (flat_items true vs) out) all

  more_items : (vs : Items) (tail : List ℕ) (ks : List Kind) (rest out : List ℕ) → SpellsItems true vs tail → depth_items vs + suc (length ks) ≤ 128 → Gives (at ks mode.After) rest out → Gives (at (kind.Array ∷ ks) mode.After) (tail ++ rest) (flat_items true vs ++ out)
  more_items no_items tail ks rest out h fits k = rw h (kept (at (kind.Array ∷ ks) mode.After) (at ks mode.After) 93 rest out refl refl k)
  more_items (item v vs) tail ks rest out h fits k =
      let after = more_items vs h.1 ks rest out h.3 (omega (arith, fits)) k in
      let all = padded_goes (kind.Array ∷ ks) mode.Before (before_starts (kind.Array ∷ ks)) v h.0 (h.1 ++ rest) (flat_items true vs ++ out)
      (λ text more outs s g. value_goes v text (kind.Array ∷ ks) mode.Before more outs (before_starts (kind.Array ∷ ks)) s (omega (arith, fits)) g) h.2 after in
      rw (h.4, append_assoc h.0 h.1 rest, append_assoc (flat v) (flat_items true vs) out)
      (kept (at (kind.Array ∷ ks) mode.After) (at (kind.Array ∷ ks) mode.Before) 44 (h.0 ++ (h.1 ++ rest)) (flat v ++ (flat_items true vs ++ out)) refl refl all)

  members_go : (ms : Members) (inner : List ℕ) (ks : List Kind) (rest out : List ℕ) → SpellsMembers false ms inner → depth_members ms + suc (length ks) ≤ 128 → Gives (at ks mode.After) rest out → Gives (at (kind.Object ∷ ks) mode.FirstName) (inner ++ rest) (flat_members false ms ++ out)
  members_go no_members inner ks rest out h fits k =
      rw (h.2, append_assoc h.0 (125 ∷ []) rest) (blanks_go (kind.Object ∷ ks) mode.FirstName refl (first_name_starts (kind.Object ∷ ks)).blank h.0 (125 ∷ rest) (125 ∷ out) h.1 (kept (at (kind.Object ∷ ks) mode.FirstName) (at ks mode.After) 125 rest out refl refl k))
  members_go (member n v ms) inner ks rest out h fits k =
      let after = more_members ms h.2 ks rest out h.6 (omega (arith, fits)) k in
      let value = padded_goes (kind.Object ∷ ks) mode.Before (before_starts (kind.Object ∷ ks)) v h.1 (h.2 ++ rest) (flat_members true ms ++ out)
      (λ text more outs s g. value_goes v text (kind.Object ∷ ks) mode.Before more outs (before_starts (kind.Object ∷ ks)) s (omega (arith, fits)) g) h.5 after in
      let all = member_goes (kind.Object ∷ ks) mode.FirstName (first_name_starts (kind.Object ∷ ks)) n h.0 (h.1 ++ (h.2 ++ rest)) (flat v ++ (flat_members true ms ++ out)) h.3 h.4 value in
      rw (h.7, append_assoc h.0 (58 ∷ (h.1 ++ h.2)) rest, append_assoc h.1 h.2 rest, append_assoc n (58 ∷ (flat v ++ flat_members true ms)) out, append_assoc (flat v) (flat_members true ms) out) all

  more_members : (ms : Members) (tail : List ℕ) (ks : List Kind) (rest out : List ℕ) → SpellsMembers true ms tail → depth_members ms + suc (length ks) ≤ 128 → Gives (at ks mode.After) rest out → Gives (at (kind.Object ∷ ks) mode.After) (tail ++ rest) (flat_members true ms ++ out)
  more_members no_members tail ks rest out h fits k = rw h (kept (at (kind.Object ∷ ks) mode.After) (at ks mode.After) 125 rest out refl refl k)
  more_members (member n v ms) tail ks rest out h fits k =
      let after = more_members ms h.2 ks rest out h.6 (omega (arith, fits)) k in
      let value = padded_goes (kind.Object ∷ ks) mode.Before (before_starts (kind.Object ∷ ks)) v h.1 (h.2 ++ rest) (flat_members true ms ++ out)
      (λ text more outs s g. value_goes v text (kind.Object ∷ ks) mode.Before more outs (before_starts (kind.Object ∷ ks)) s (omega (arith, fits)) g) h.5 after in
      let all = member_goes (kind.Object ∷ ks) mode.Name (name_starts (kind.Object ∷ ks)) n h.0 (h.1 ++ (h.2 ++ rest)) (flat v ++ (flat_members true ms ++ out)) h.3 h.4 value in
      rw (h.7, append_assoc h.0 (58 ∷ (h.1 ++ h.2)) rest, append_assoc h.1 h.2 rest, append_assoc n (58 ∷ (flat v ++ flat_members true ms)) out, append_assoc (flat v) (flat_members true ms) out)
      (kept (at (kind.Object ∷ ks) mode.After) (at (kind.Object ∷ ks) mode.Name) 44 (h.0 ++ (58 ∷ (h.1 ++ (h.2 ++ rest)))) (n ++ (58 ∷ (flat v ++ (flat_members true ms ++ out)))) refl refl all)

-- a text leads to its end, and what is kept of it is its tokens
pub text_gives : (t : List ℕ) (v : Value) → StandsFor t v → Gives start t (flat v)
text_gives t v h =
    let all : Gives start (t ++ []) (flat v ++ []) = padded_goes [] mode.Before (before_starts []) v t [] []
    (λ text more outs s g. value_goes v text [] mode.Before more outs (before_starts []) s (omega (arith, h.1)) g) h.0 (refl, refl) in
    subst (λ l. Gives start l (flat v)) (append-nil t) (subst (λ l. Gives start (t ++ []) l) (append-nil (flat v)) all)

pub text_goes : (t : List ℕ) → IsText t → Goes start t
text_goes t h = (text_gives t h.0 h.1).0

-- ---- each place can be completed

closers : List Kind → List ℕ
closers [] = []
closers (kind.Array ∷ ks) = 93 ∷ closers ks
closers (kind.Object ∷ ks) = 125 ∷ closers ks

closers_go : (ks : List Kind) → Gives (at ks mode.After) (closers ks) (closers ks)
unfolding closers
closers_go [] = (refl, refl)
closers_go (kind.Array ∷ ks) = kept (at (kind.Array ∷ ks) mode.After) (at ks mode.After) 93 (closers ks) (closers ks) refl refl (closers_go ks)
closers_go (kind.Object ∷ ks) = kept (at (kind.Object ∷ ks) mode.After) (at ks mode.After) 125 (closers ks) (closers ks) refl refl (closers_go ks)

mode_completion : Mode → List ℕ
mode_completion mode.Before = 48 ∷ []
mode_completion mode.FirstItem = 48 ∷ []
mode_completion mode.FirstName = 34 ∷ 34 ∷ 58 ∷ 48 ∷ []
mode_completion mode.Name = 34 ∷ 34 ∷ 58 ∷ 48 ∷ []
mode_completion (mode.InName i) = string.string_completion i ++ 58 ∷ 48 ∷ []
mode_completion mode.Colon = 58 ∷ 48 ∷ []
mode_completion (mode.InToken t) = token_completion t
mode_completion mode.After = []

pub place_completion : Place → List ℕ
place_completion p = mode_completion p.mode ++ closers p.nesting

value_completes : (ks : List Kind) (m : Mode) → Starts ks m → Gives (at ks m) (48 ∷ closers ks) (48 ∷ closers ks)
value_completes ks m s = token_starts ks m s (48 ∷ []) (closers ks) (closers ks) refl (closers_go ks)

colon_completes : (ks : List Kind) → Gives (at ks mode.Colon) (58 ∷ 48 ∷ closers ks) (58 ∷ 48 ∷ closers ks)
colon_completes ks = kept (at ks mode.Colon) (at ks mode.Before) 58 (48 ∷ closers ks) (48 ∷ closers ks) refl refl (value_completes ks mode.Before (before_starts ks))

name_completes : (ks : List Kind) (m : Mode) → NamesStart ks m → Gives (at ks m) (34 ∷ 34 ∷ 58 ∷ 48 ∷ closers ks) (34 ∷ 34 ∷ 58 ∷ 48 ∷ closers ks)
name_completes ks m s = string_goes_on ks m s (34 ∷ 34 ∷ []) (58 ∷ 48 ∷ closers ks) (58 ∷ 48 ∷ closers ks) refl (colon_completes ks)

mode_completes : (m : Mode) (ks : List Kind) → Goes (at ks m) (mode_completion m ++ closers ks)
unfolding mode_completion
mode_completes mode.Before ks = (value_completes ks mode.Before (before_starts ks)).0
mode_completes mode.FirstItem ks = (value_completes ks mode.FirstItem (first_starts ks)).0
mode_completes mode.FirstName ks = (name_completes ks mode.FirstName (first_name_starts ks)).0
mode_completes mode.Name ks = (name_completes ks mode.Name (name_starts ks)).0
mode_completes (mode.InName i) ks =
    subst (λ l. Goes (at ks (mode.InName i)) l) (sym (append_assoc (string.string_completion i) (58 ∷ 48 ∷ []) (closers ks)))
    (name_goes ks i (string.string_completion i) (58 ∷ 48 ∷ closers ks) (58 ∷ 48 ∷ closers ks) (string.string_completes i) (colon_completes ks)).0
mode_completes mode.Colon ks = (colon_completes ks).0
mode_completes (mode.InToken t) ks = (token_goes ks t (token_completion t) (closers ks) (closers ks) (token_completes t) (closers_go ks)).0
mode_completes mode.After ks = (closers_go ks).0

pub place_completes : (p : Place) → Goes p (place_completion p)
unfolding place_completion
place_completes p = mode_completes p.mode p.nesting
