-- A text stands for one value at most.
use Rattle.std.proofs.Common.{◌≡◌, ℕ, ◌<◌, ◌∷◌, [], ◌++◌, List, true, false, Option, Some, None, refl, sym, ap, ◌∙◌, subst, inl, inr, arith, true≢false, append_assoc}
use Rattle.std.specs.Prelude.{MatchOption, ◌==◌}
use Rattle.json_span.specs.Strings.{AreBlanks, IsString, is_blank}
use Rattle.json_span.specs.Value.{Value, token, array, object, Items, no_items, item, Members, no_members, member, Padded, Spells, SpellsItems, SpellsMembers, StandsFor, IsText}
use Rattle.json_span.specs.Fault.{FaultAt}
use Rattle.json_span.specs.Machine.{token_first, token_step, token_ends}
use Rattle.json_span.specs.declared.token.Token.{Token}
use Rattle.json_span.proofs.TokenLemmas.{Takes, Begins, IsDelimiter, IsFirst, token_begins, token_stops, first_byte}

cons_tail : (a b : ℕ) (xs ys : List ℕ) → a ∷ xs ≡ b ∷ ys → xs ≡ ys
cons_tail a b xs ys e = cc e

cons_head : (a b : ℕ) (xs ys : List ℕ) → a ∷ xs ≡ b ∷ ys → a ≡ b
cons_head a b xs ys e = cc e

-- ---- blanks

abbrev NoBlank : List ℕ → Type 0
NoBlank [] = Unit {0}
NoBlank (b ∷ bs) = is_blank b ≡ false

no_both : (b : ℕ) → is_blank b ≡ true → is_blank b ≡ false → ⊥
no_both b e d = true≢false (sym e ∙ d)

blanks_same : (p q x y : List ℕ) → AreBlanks p → AreBlanks q → p ++ x ≡ q ++ y → NoBlank x → NoBlank y → x ≡ y
blanks_same [] [] x y h k e n m = e
blanks_same [] (b ∷ q) x y h k e n m = absurd (no_both b k.0 (subst NoBlank e n))
blanks_same (b ∷ p) [] x y h k e n m = absurd (no_both b h.0 (subst NoBlank (sym e) m))
blanks_same (b ∷ p) (c ∷ q) x y h k e n m = blanks_same p q x y h.1 k.1 (cons_tail b c (p ++ x) (q ++ y) e) n m

-- ---- tokens

-- what follows doesn't go on with a token
abbrev Stops : List ℕ → Type 0
Stops [] = Unit {0}
Stops (b ∷ bs) = IsDelimiter b

no_step : (t : Token) (b : ℕ) (q : List ℕ) → token_ends t ≡ true → IsDelimiter b → MatchOption (token_step t b) ⊥ (λ n. Takes n q) → ⊥
no_step t b q e d h = subst (λ (o : Option Token). MatchOption o ⊥ (λ n. Takes n q)) (token_stops t b e d) h

token_same : (t : Token) (p q x y : List ℕ) → Takes t p → Takes t q → p ++ x ≡ q ++ y → Stops x → Stops y → (p ≡ q) × (x ≡ y)
token_same t [] [] x y h k e n m = (refl, e)
token_same t [] (b ∷ q) x y h k e n m = absurd (no_step t b q h (subst Stops e n) k)
token_same t (b ∷ p) [] x y h k e n m = absurd (no_step t b p k (subst Stops (sym e) m) h)
token_same t (b ∷ p) (c ∷ q) x y h k e n m =
    let head : b ≡ c = cons_head b c (p ++ x) (q ++ y) e in
    let tail : p ++ x ≡ q ++ y = cons_tail b c (p ++ x) (q ++ y) e in
    let r : (p ≡ q) × (x ≡ y) = by_step (token_step t b) (λ j g f. token_same j p q x y g f tail n m) h (subst (λ z. MatchOption (token_step t z) ⊥ (λ j. Takes j q)) (sym head) k) in
    (ap (λ z. z ∷ p) head ∙ ap (λ l. c ∷ l) r.0, r.1)
  where
    by_step : (o : Option Token) → ((j : Token) → Takes j p → Takes j q → (p ≡ q) × (x ≡ y)) → MatchOption o ⊥ (λ j. Takes j p) → MatchOption o ⊥ (λ j. Takes j q) → (p ≡ q) × (x ≡ y)
    by_step None next g f = absurd g
    by_step (Some j) next g f = next j g f

begins_same : (p q x y : List ℕ) → Begins p → Begins q → p ++ x ≡ q ++ y → Stops x → Stops y → (p ≡ q) × (x ≡ y)
begins_same [] q x y h k e n m = absurd h
begins_same (b ∷ p) [] x y h k e n m = absurd k
begins_same (b ∷ p) (c ∷ q) x y h k e n m =
    let head : b ≡ c = cons_head b c (p ++ x) (q ++ y) e in
    let tail : p ++ x ≡ q ++ y = cons_tail b c (p ++ x) (q ++ y) e in
    let r : (p ≡ q) × (x ≡ y) = by_step (token_first b) h (subst (λ z. MatchOption (token_first z) ⊥ (λ j. Takes j q)) (sym head) k) tail in
    (ap (λ z. z ∷ p) head ∙ ap (λ l. c ∷ l) r.0, r.1)
  where
    by_step : (o : Option Token) → MatchOption o ⊥ (λ j. Takes j p) → MatchOption o ⊥ (λ j. Takes j q) → p ++ x ≡ q ++ y → (p ≡ q) × (x ≡ y)
    by_step None g f d = absurd g
    by_step (Some j) g f d = token_same j p q x y g f d n m

-- ---- the first byte of a value

abbrev IsHead : ℕ → Type 0
IsHead b = (is_blank b ≡ false) × ((b == 93) ≡ false)

abbrev HasHead : List ℕ → Type 0
HasHead [] = ⊥
HasHead (b ∷ bs) = IsHead b

abbrev NotOpen : List ℕ → Type 0
NotOpen [] = ⊥
NotOpen (b ∷ bs) = ((b == 91) ≡ false) × ((b == 123) ≡ false)

begins_first : (b : ℕ) (bs : List ℕ) → Begins (b ∷ bs) → IsFirst b
begins_first b bs h = by_step (token_first b) refl h
  where
    by_step : (o : Option Token) → token_first b ≡ o → MatchOption o ⊥ (λ j. Takes j bs) → IsFirst b
    by_step None e g = absurd g
    by_step (Some j) e g = first_byte b j e

token_head : (t : List ℕ) → Begins t → HasHead t
token_head [] h = absurd h
token_head (b ∷ bs) h = let f = begins_first b bs h in (f.not_blank, f.not_end)

token_not_open : (t x : List ℕ) → Begins t → NotOpen (t ++ x)
token_not_open [] x h = absurd h
token_not_open (b ∷ bs) x h = let f = begins_first b bs h in (f.not_array, f.not_object)

value_head : (v : Value) (a : List ℕ) → Spells v a → HasHead a
value_head (token t) a h = rw h.1 (token_head t (token_begins t h.0))
value_head (array vs) a h = rw h.2 (refl, refl)
value_head (object ms) a h = rw h.2 (refl, refl)

head_no_blank : (a x : List ℕ) → HasHead a → NoBlank (a ++ x)
head_no_blank [] x h = absurd h
head_no_blank (b ∷ bs) x h = h.0

no_array_end : (a x y : List ℕ) → HasHead a → 93 ∷ y ≡ a ++ x → ⊥
no_array_end [] x y h e = h
no_array_end (b ∷ bs) x y h e = true≢false (ap (λ z. z == 93) (cons_head 93 b y (bs ++ x) e) ∙ h.1)

-- ---- what follows a value

-- no byte, or a byte that ends a value and is no blank
abbrev Enders : List ℕ → Type 0
Enders [] = Unit {0}
Enders (b ∷ bs) = IsDelimiter b × (is_blank b ≡ false)

enders_no_blank : (x : List ℕ) → Enders x → NoBlank x
enders_no_blank [] h = tt
enders_no_blank (b ∷ bs) h = h.1

blanks_stop : (p x : List ℕ) → AreBlanks p → Enders x → Stops (p ++ x)
blanks_stop [] [] h k = tt
blanks_stop [] (b ∷ bs) h k = k.0
blanks_stop (b ∷ p) x h k = inl h.0

items_end : (vs : Items) (t x : List ℕ) → SpellsItems true vs t → Enders (t ++ x)
items_end no_items t x h = rw h (inr (inr (inl refl)), refl)
items_end (item v vs) t x h = rw h.4 (inr (inl refl), refl)

members_end : (ms : Members) (t x : List ℕ) → SpellsMembers true ms t → Enders (t ++ x)
members_end no_members t x h = rw h (inr (inr (inr (inl refl))), refl)
members_end (member n v ms) t x h = rw h.7 (inr (inl refl), refl)

-- ---- names

string_begins : (n : List ℕ) → IsString n → Begins n
string_begins n h = token_begins n (inr (inr h))

-- a padded body, what stands after it, and the whole
padded_parts : (P : List ℕ → Type 0) (t more : List ℕ) (p : Padded P t) → t ++ more ≡ p.0 ++ (p.1 ++ (p.2 ++ more))
padded_parts P t more p = ap (λ l. l ++ more) p.6 ∙ append_assoc p.0 (p.1 ++ p.2) more ∙ ap (λ l. p.0 ++ l) (append_assoc p.1 p.2 more)

same_name : (n m name other more rest : List ℕ) → IsString n → IsString m → Padded (λ t. t ≡ n) name → Padded (λ t. t ≡ m) other
    → name ++ (58 ∷ more) ≡ other ++ (58 ∷ rest) → (n ≡ m) × (more ≡ rest)
same_name n m name other more rest is_n is_m p q e =
    let body : p.0 ++ (p.1 ++ (p.2 ++ (58 ∷ more))) ≡ q.0 ++ (q.1 ++ (q.2 ++ (58 ∷ rest))) = sym (padded_parts (λ t. t ≡ n) name (58 ∷ more) p) ∙ e ∙ padded_parts (λ t. t ≡ m) other (58 ∷ rest) q in
    let begin_n : Begins p.1 = subst Begins (sym p.4) (string_begins n is_n) in
    let begin_m : Begins q.1 = subst Begins (sym q.4) (string_begins m is_m) in
    let inner : p.1 ++ (p.2 ++ (58 ∷ more)) ≡ q.1 ++ (q.2 ++ (58 ∷ rest)) =
    blanks_same p.0 q.0 (p.1 ++ (p.2 ++ (58 ∷ more))) (q.1 ++ (q.2 ++ (58 ∷ rest))) p.3 q.3 body
    (head_no_blank p.1 (p.2 ++ (58 ∷ more)) (token_head p.1 begin_n)) (head_no_blank q.1 (q.2 ++ (58 ∷ rest)) (token_head q.1 begin_m)) in
    let r = begins_same p.1 q.1 (p.2 ++ (58 ∷ more)) (q.2 ++ (58 ∷ rest)) begin_n begin_m inner
    (blanks_stop p.2 (58 ∷ more) p.5 (inr (inr (inr (inr refl))), refl)) (blanks_stop q.2 (58 ∷ rest) q.5 (inr (inr (inr (inr refl))), refl)) in
    (sym p.4 ∙ r.0 ∙ q.4, cons_tail 58 58 more rest (blanks_same p.2 q.2 (58 ∷ more) (58 ∷ rest) p.5 q.5 r.1 refl refl))

-- ---- values

same_padded : (v w : Value) (t s more rest : List ℕ)
    → ((a b x y : List ℕ) → Spells v a → Spells w b → a ++ x ≡ b ++ y → Stops x → Stops y → (v ≡ w) × (x ≡ y))
    → Padded (Spells v) t → Padded (Spells w) s → t ++ more ≡ s ++ rest → Enders more → Enders rest → (v ≡ w) × (more ≡ rest)
same_padded v w t s more rest same p q e n m =
    let body : p.0 ++ (p.1 ++ (p.2 ++ more)) ≡ q.0 ++ (q.1 ++ (q.2 ++ rest)) = sym (padded_parts (Spells v) t more p) ∙ e ∙ padded_parts (Spells w) s rest q in
    let inner : p.1 ++ (p.2 ++ more) ≡ q.1 ++ (q.2 ++ rest) =
    blanks_same p.0 q.0 (p.1 ++ (p.2 ++ more)) (q.1 ++ (q.2 ++ rest)) p.3 q.3 body (head_no_blank p.1 (p.2 ++ more) (value_head v p.1 p.4)) (head_no_blank q.1 (q.2 ++ rest) (value_head w q.1 q.4)) in
    let r = same p.1 q.1 (p.2 ++ more) (q.2 ++ rest) p.4 q.4 inner (blanks_stop p.2 more p.5 n) (blanks_stop q.2 rest q.5 m) in
    (r.0, blanks_same p.2 q.2 more rest p.5 q.5 r.1 (enders_no_blank more n) (enders_no_blank rest m))

parts : (i first rest x : List ℕ) → i ≡ first ++ rest → i ++ x ≡ first ++ (rest ++ x)
parts i first rest x e = ap (λ l. l ++ x) e ∙ append_assoc first rest x

comma_parts : (i first rest x : List ℕ) → i ≡ 44 ∷ (first ++ rest) → i ++ x ≡ 44 ∷ (first ++ (rest ++ x))
comma_parts i first rest x e = ap (λ l. l ++ x) e ∙ ap (λ l. 44 ∷ l) (append_assoc first rest x)

member_parts : (i name first rest x : List ℕ) → i ≡ name ++ (58 ∷ (first ++ rest)) → i ++ x ≡ name ++ (58 ∷ (first ++ (rest ++ x)))
member_parts i name first rest x e = ap (λ l. l ++ x) e ∙ append_assoc name (58 ∷ (first ++ rest)) x ∙ ap (λ l. name ++ (58 ∷ l)) (append_assoc first rest x)

comma_member_parts : (i name first rest x : List ℕ) → i ≡ 44 ∷ (name ++ (58 ∷ (first ++ rest))) → i ++ x ≡ 44 ∷ (name ++ (58 ∷ (first ++ (rest ++ x))))
comma_member_parts i name first rest x e = ap (λ l. l ++ x) e ∙ ap (λ l. 44 ∷ l) (member_parts (name ++ (58 ∷ (first ++ rest))) name first rest x refl)

closed_parts : (i blanks x : List ℕ) (close : ℕ) → i ≡ blanks ++ close ∷ [] → i ++ x ≡ blanks ++ close ∷ x
closed_parts i blanks x close e = ap (λ l. l ++ x) e ∙ append_assoc blanks (close ∷ []) x

-- an array that ends where another has an item
no_item : (v : Value) (i j blanks first rest x y : List ℕ) → AreBlanks blanks → i ≡ blanks ++ 93 ∷ [] → Padded (Spells v) first → j ≡ first ++ rest → i ++ x ≡ j ++ y → ⊥
no_item v i j blanks first rest x y are is p at e =
    let whole : blanks ++ 93 ∷ x ≡ p.0 ++ (p.1 ++ (p.2 ++ (rest ++ y))) = sym (closed_parts i blanks x 93 is) ∙ e ∙ parts j first rest y at ∙ padded_parts (Spells v) first (rest ++ y) p in
    let head = value_head v p.1 p.4 in
    no_array_end p.1 (p.2 ++ (rest ++ y)) x head (blanks_same blanks p.0 (93 ∷ x) (p.1 ++ (p.2 ++ (rest ++ y))) are p.3 whole refl (head_no_blank p.1 (p.2 ++ (rest ++ y)) head))

no_object_end : (n x y : List ℕ) → Begins n → IsString n → 125 ∷ y ≡ n ++ x → ⊥
no_object_end [] x y h s e = h
no_object_end (b ∷ bs) x y h s e =
    let is : b ∷ bs ≡ 34 ∷ _ = s.2 in
    let quote : b ≡ 34 = cc is in
    let brace : 125 ≡ b = cons_head 125 b y (bs ++ x) e in
    omega (arith, quote, brace)

-- an object that ends where another has a member
no_member : (n i j blanks name more x y : List ℕ) → AreBlanks blanks → i ≡ blanks ++ 125 ∷ [] → IsString n → Padded (λ t. t ≡ n) name → j ++ y ≡ name ++ (58 ∷ more) → i ++ x ≡ j ++ y → ⊥
no_member n i j blanks name more x y are is string p at e =
    let whole : blanks ++ 125 ∷ x ≡ p.0 ++ (p.1 ++ (p.2 ++ (58 ∷ more))) = sym (closed_parts i blanks x 125 is) ∙ e ∙ at ∙ padded_parts (λ t. t ≡ n) name (58 ∷ more) p in
    let begin : Begins p.1 = subst Begins (sym p.4) (string_begins n string) in
    no_object_end p.1 (p.2 ++ (58 ∷ more)) x begin (subst IsString (sym p.4) string)
    (blanks_same blanks p.0 (125 ∷ x) (p.1 ++ (p.2 ++ (58 ∷ more))) are p.3 whole refl (head_no_blank p.1 (p.2 ++ (58 ∷ more)) (token_head p.1 begin)))

not_array : (t x y : List ℕ) → Begins t → t ++ x ≡ 91 ∷ y → ⊥
not_array t x y h e = true≢false (subst NotOpen e (token_not_open t x h)).0

pub not_object : (t x y : List ℕ) → Begins t → t ++ x ≡ 123 ∷ y → ⊥
not_object t x y h e = true≢false (subst NotOpen e (token_not_open t x h)).1

behind : (a : List ℕ) (b : ℕ) (i x : List ℕ) → a ≡ b ∷ i → a ++ x ≡ b ∷ (i ++ x)
behind a b i x e = ap (λ l. l ++ x) e

mutual
  same_value : (v w : Value) (a b x y : List ℕ) → Spells v a → Spells w b → a ++ x ≡ b ++ y → Stops x → Stops y → (v ≡ w) × (x ≡ y)
  same_value (token t) (token s) a b x y h k e n m =
      let r = begins_same t s x y (token_begins t h.0) (token_begins s k.0) (ap (λ l. l ++ x) (sym h.1) ∙ e ∙ ap (λ l. l ++ y) k.1) n m in
      (ap token r.0, r.1)
  same_value (token t) (array ws) a b x y h k e n m = absurd (not_array t x (k.0 ++ y) (token_begins t h.0) (ap (λ l. l ++ x) (sym h.1) ∙ e ∙ behind b 91 k.0 y k.2))
  same_value (token t) (object os) a b x y h k e n m = absurd (not_object t x (k.0 ++ y) (token_begins t h.0) (ap (λ l. l ++ x) (sym h.1) ∙ e ∙ behind b 123 k.0 y k.2))
  same_value (array vs) (token s) a b x y h k e n m = absurd (not_array s y (h.0 ++ x) (token_begins s k.0) (ap (λ l. l ++ y) (sym k.1) ∙ sym e ∙ behind a 91 h.0 x h.2))
  same_value (array vs) (array ws) a b x y h k e n m =
      let r = same_items vs ws h.0 k.0 x y h.1 k.1 (cons_tail 91 91 (h.0 ++ x) (k.0 ++ y) (sym (behind a 91 h.0 x h.2) ∙ e ∙ behind b 91 k.0 y k.2)) in
      (ap array r.0, r.1)
  same_value (array vs) (object os) a b x y h k e n m =
      let head : 91 ≡ 123 = cons_head 91 123 (h.0 ++ x) (k.0 ++ y) (sym (behind a 91 h.0 x h.2) ∙ e ∙ behind b 123 k.0 y k.2) in absurd (omega (arith, head))
  same_value (object ms) (token s) a b x y h k e n m = absurd (not_object s y (h.0 ++ x) (token_begins s k.0) (ap (λ l. l ++ y) (sym k.1) ∙ sym e ∙ behind a 123 h.0 x h.2))
  same_value (object ms) (array ws) a b x y h k e n m =
      let head : 123 ≡ 91 = cons_head 123 91 (h.0 ++ x) (k.0 ++ y) (sym (behind a 123 h.0 x h.2) ∙ e ∙ behind b 91 k.0 y k.2) in absurd (omega (arith, head))
  same_value (object ms) (object os) a b x y h k e n m =
      let r = same_members ms os h.0 k.0 x y h.1 k.1 (cons_tail 123 123 (h.0 ++ x) (k.0 ++ y) (sym (behind a 123 h.0 x h.2) ∙ e ∙ behind b 123 k.0 y k.2)) in
      (ap object r.0, r.1)

  same_items : (vs ws : Items) (i j x y : List ℕ) → SpellsItems false vs i → SpellsItems false ws j → i ++ x ≡ j ++ y → (vs ≡ ws) × (x ≡ y)
  same_items no_items no_items i j x y h k e =
      (refl, cons_tail 93 93 x y (blanks_same h.0 k.0 (93 ∷ x) (93 ∷ y) h.1 k.1 (sym (closed_parts i h.0 x 93 h.2) ∙ e ∙ closed_parts j k.0 y 93 k.2) refl refl))
  same_items no_items (item w ws) i j x y h k e = absurd (no_item w i j h.0 k.0 k.1 x y h.1 h.2 k.2 k.4 e)
  same_items (item v vs) no_items i j x y h k e = absurd (no_item v j i k.0 h.0 h.1 y x k.1 k.2 h.2 h.4 (sym e))
  same_items (item v vs) (item w ws) i j x y h k e =
      let r = same_padded v w h.0 k.0 (h.1 ++ x) (k.1 ++ y) (λ a b p q s t d n m. same_value v w a b p q s t d n m) h.2 k.2
      (sym (parts i h.0 h.1 x h.4) ∙ e ∙ parts j k.0 k.1 y k.4) (items_end vs h.1 x h.3) (items_end ws k.1 y k.3) in
      let more = same_more vs ws h.1 k.1 x y h.3 k.3 r.1 in
      (ap (λ u. item u vs) r.0 ∙ ap (item w) more.0, more.1)

  same_more : (vs ws : Items) (i j x y : List ℕ) → SpellsItems true vs i → SpellsItems true ws j → i ++ x ≡ j ++ y → (vs ≡ ws) × (x ≡ y)
  same_more no_items no_items i j x y h k e = (refl, cons_tail 93 93 x y (sym (behind i 93 [] x h) ∙ e ∙ behind j 93 [] y k))
  same_more no_items (item w ws) i j x y h k e =
      let head : 93 ≡ 44 = cons_head 93 44 x (k.0 ++ (k.1 ++ y)) (sym (behind i 93 [] x h) ∙ e ∙ comma_parts j k.0 k.1 y k.4) in absurd (omega (arith, head))
  same_more (item v vs) no_items i j x y h k e =
      let head : 44 ≡ 93 = cons_head 44 93 (h.0 ++ (h.1 ++ x)) y (sym (comma_parts i h.0 h.1 x h.4) ∙ e ∙ behind j 93 [] y k) in absurd (omega (arith, head))
  same_more (item v vs) (item w ws) i j x y h k e =
      let tail = cons_tail 44 44 (h.0 ++ (h.1 ++ x)) (k.0 ++ (k.1 ++ y)) (sym (comma_parts i h.0 h.1 x h.4) ∙ e ∙ comma_parts j k.0 k.1 y k.4) in
      let r = same_padded v w h.0 k.0 (h.1 ++ x) (k.1 ++ y) (λ a b p q s t d n m. same_value v w a b p q s t d n m) h.2 k.2 tail (items_end vs h.1 x h.3) (items_end ws k.1 y k.3) in
      let more = same_more vs ws h.1 k.1 x y h.3 k.3 r.1 in
      (ap (λ u. item u vs) r.0 ∙ ap (item w) more.0, more.1)

  same_members : (ms os : Members) (i j x y : List ℕ) → SpellsMembers false ms i → SpellsMembers false os j → i ++ x ≡ j ++ y → (ms ≡ os) × (x ≡ y)
  same_members no_members no_members i j x y h k e =
      (refl, cons_tail 125 125 x y (blanks_same h.0 k.0 (125 ∷ x) (125 ∷ y) h.1 k.1 (sym (closed_parts i h.0 x 125 h.2) ∙ e ∙ closed_parts j k.0 y 125 k.2) refl refl))
  same_members no_members (member n w os) i j x y h k e =
      absurd (no_member n i j h.0 k.0 (k.1 ++ (k.2 ++ y)) x y h.1 h.2 k.3 k.4 (member_parts j k.0 k.1 k.2 y k.7) e)
  same_members (member n v ms) no_members i j x y h k e =
      absurd (no_member n j i k.0 h.0 (h.1 ++ (h.2 ++ x)) y x k.1 k.2 h.3 h.4 (member_parts i h.0 h.1 h.2 x h.7) (sym e))
  same_members (member n v ms) (member o w os) i j x y h k e =
      let names = same_name n o h.0 k.0 (h.1 ++ (h.2 ++ x)) (k.1 ++ (k.2 ++ y)) h.3 k.3 h.4 k.4 (sym (member_parts i h.0 h.1 h.2 x h.7) ∙ e ∙ member_parts j k.0 k.1 k.2 y k.7) in
      let r = same_padded v w h.1 k.1 (h.2 ++ x) (k.2 ++ y) (λ a b p q s t d n m. same_value v w a b p q s t d n m) h.5 k.5 names.1 (members_end ms h.2 x h.6) (members_end os k.2 y k.6) in
      let more = same_other ms os h.2 k.2 x y h.6 k.6 r.1 in
      (ap (λ u. member u v ms) names.0 ∙ ap (λ u. member o u ms) r.0 ∙ ap (member o w) more.0, more.1)

  same_other : (ms os : Members) (i j x y : List ℕ) → SpellsMembers true ms i → SpellsMembers true os j → i ++ x ≡ j ++ y → (ms ≡ os) × (x ≡ y)
  same_other no_members no_members i j x y h k e = (refl, cons_tail 125 125 x y (sym (behind i 125 [] x h) ∙ e ∙ behind j 125 [] y k))
  same_other no_members (member n w os) i j x y h k e =
      let head : 125 ≡ 44 = cons_head 125 44 x (k.0 ++ (58 ∷ (k.1 ++ (k.2 ++ y)))) (sym (behind i 125 [] x h) ∙ e ∙ comma_member_parts j k.0 k.1 k.2 y k.7) in absurd (omega (arith, head))
  same_other (member n v ms) no_members i j x y h k e =
      let head : 44 ≡ 125 = cons_head 44 125 (h.0 ++ (58 ∷ (h.1 ++ (h.2 ++ x)))) y (sym (comma_member_parts i h.0 h.1 h.2 x h.7) ∙ e ∙ behind j 125 [] y k) in absurd (omega (arith, head))
  same_other (member n v ms) (member o w os) i j x y h k e =
      let tail = cons_tail 44 44 (h.0 ++ (58 ∷ (h.1 ++ (h.2 ++ x)))) (k.0 ++ (58 ∷ (k.1 ++ (k.2 ++ y)))) (sym (comma_member_parts i h.0 h.1 h.2 x h.7) ∙ e ∙ comma_member_parts j k.0 k.1 k.2 y k.7) in
      let names = same_name n o h.0 k.0 (h.1 ++ (h.2 ++ x)) (k.1 ++ (k.2 ++ y)) h.3 k.3 h.4 k.4 tail in
      let r = same_padded v w h.1 k.1 (h.2 ++ x) (k.2 ++ y) (λ a b p q s t d n m. same_value v w a b p q s t d n m) h.5 k.5 names.1 (members_end ms h.2 x h.6) (members_end os k.2 y k.6) in
      let more = same_other ms os h.2 k.2 x y h.6 k.6 r.1 in
      (ap (λ u. member u v ms) names.0 ∙ ap (λ u. member o u ms) r.0 ∙ ap (member o w) more.0, more.1)

pub one_value_of : (text : List ℕ) (v w : Value) → StandsFor text v → StandsFor text w → v ≡ w
one_value_of text v w h k = (same_padded v w text text [] [] (λ a b x y s t e n m. same_value v w a b x y s t e n m) h.0 k.0 refl tt tt).0

-- ---- the place of a fault

pub one_fault_of : (text : List ℕ) (a b : ℕ) → FaultAt IsText text a → FaultAt IsText text b → a ≡ b
one_fault_of text a b f g =
    let low : ¬ (a < b) = λ e. f.longest b e g.within g.viable.0 g.viable.1 in
    let high : ¬ (b < a) = λ e. g.longest a e f.within f.viable.0 f.viable.1 in
    omega (arith, low, high)
