-- A value has at most as many values inside as its text has bytes.
use Rattle.std.proofs.Common.{◌≡◌, ℕ, zero, suc, ◌+◌, ◌≤◌, List, [], ◌∷◌, length, Bool, true, false, Option, Some, None, option_map, IfSome, arith}
use Rattle.std.specs.Prelude.{option_and_then, ⊤, if◌then◌else◌}
use Rattle.std.specs.Str.{is_utf8}
use Rattle.std.specs.Cmp.Lexicographic.{slice_cmp}
use Rattle.std.specs.Ordering.{nat_cmp, match_ordering}
use Rattle.std.specs.declared.cmp.Ordering.{Ordering}
use Rattle.json.specs.Json as json
use Rattle.json.specs.Json.{Json, Parse, parse_map, after_end_array, read_key, items_step, members_step, items, members, value_with, value, if_last}
use Rattle.json.specs.Lex.{tokens}
use Rattle.json.specs.Token.{Token}
use Rattle.serde_json.specs.Data.{Data, null, boolean, number, string, array, object, Items, no_items, item, Members, no_members, member, put}
use Rattle.serde_json.specs.Find.{get, get_member}
use Rattle.serde_json.specs.Read.{number_of, of_json, of_items, of_members, read, max_depth}
use Rattle.json_value.specs.Members.{not_null, present}
use Rattle.json_value.specs.Read.{value_of}
use Rattle.json_value.specs.Size.{inside, inside_items, inside_members}
use Rattle.json_value.proofs.LexLemmas.{tokens_within}

-- ---- the tree that tokens spell

-- how many values stand inside
abbrev mutual
  nodes : Json → ℕ
  nodes json.null = 0
  nodes (json.boolean b) = 0
  nodes (json.number s) = 0
  nodes (json.string s) = 0
  nodes (json.array js) = item_nodes js
  nodes (json.object ms) = member_nodes ms

  item_nodes : json.Items → ℕ
  item_nodes json.no_items = 0
  item_nodes (json.item j js) = suc (nodes j + item_nodes js)

  member_nodes : json.Members → ℕ
  member_nodes json.no_members = 0
  member_nodes (json.member k j ms) = suc (nodes j + member_nodes ms)

-- what was read of so many tokens, and those that are left, are no more
abbrev Within : {A : Type 0} → (A → ℕ) → ℕ → Option (A × List Token) → Type 0
Within size n None = ⊤
Within size n (Some p) = size p.0 + length p.1 ≤ n

-- a value has a token for itself
abbrev whole : Json → ℕ
whole j = suc (nodes j)

mapped : {A B : Type 0} (f : A → B) (size : A → ℕ) (more : B → ℕ) (m n : ℕ) (o : Option (A × List Token))
    → ((a : A) → (l : ℕ) → size a + l ≤ m → more (f a) + l ≤ n) → Within size m o → Within more n (parse_map f o)
mapped f size more m n None h w = tt
mapped f size more m n (Some p) h w = h p.0 (length p.1) w

abbrev Ends : List Token → Option (List Token) → Type 0
Ends ts None = ⊤
Ends ts (Some rest) = length rest ≤ length ts

ends : (ts : List Token) → Ends ts (after_end_array ts)
ends [] = tt
ends (Token.begin_object ∷ ts) = tt
ends (Token.end_object ∷ ts) = tt
ends (Token.begin_array ∷ ts) = tt
ends (Token.end_array ∷ ts) = omega arith
ends (Token.key s ∷ ts) = tt
ends (Token.string s ∷ ts) = tt
ends (Token.number s ∷ ts) = tt
ends (Token.boolean b ∷ ts) = tt
ends (Token.null ∷ ts) = tt
ends (Token.bad ∷ ts) = tt

abbrev no_size : {A : Type 0} → A → ℕ
no_size a = 0

key_within : (ts : List Token) → Within no_size (length ts) (read_key ts)
key_within [] = tt
key_within (Token.begin_object ∷ ts) = tt
key_within (Token.end_object ∷ ts) = omega arith
key_within (Token.begin_array ∷ ts) = tt
key_within (Token.end_array ∷ ts) = tt
key_within (Token.key s ∷ ts) = omega arith
key_within (Token.string s ∷ ts) = tt
key_within (Token.number s ∷ ts) = tt
key_within (Token.boolean b ∷ ts) = tt
key_within (Token.null ∷ ts) = tt
key_within (Token.bad ∷ ts) = tt

module _ (v : Parse Json) (h : (ts : List Token) → Within whole (length ts) (v ts)) where
  first_item : (more : Parse json.Items) (n : ℕ) (o : Option (Json × List Token))
      → ((ts : List Token) → Within item_nodes (length ts) (more ts)) → Within whole n o
      → Within item_nodes n (option_and_then (λ p. parse_map (json.item p.0) (more p.1)) o)
  first_item more n None others w = tt
  first_item more n (Some p) others w =
      mapped (json.item p.0) item_nodes item_nodes (length p.1) n (more p.1) (λ a l k. omega (arith, k, w)) (others p.1)

  step_within : (more : Parse json.Items) (ts : List Token) (end : Option (List Token))
      → ((us : List Token) → Within item_nodes (length us) (more us)) → Ends ts end
      → Within item_nodes (length ts) (items_step v more ts end)
  step_within more ts (Some rest) others e = omega (arith, e)
  step_within more ts None others e = first_item more (length ts) (v ts) others (h ts)

  items_within : (n : ℕ) (ts : List Token) → Within item_nodes (length ts) (items v n ts)
  unfolding items
  items_within zero ts = tt
  items_within (suc n) ts = step_within (items v n) ts (after_end_array ts) (items_within n) (ends ts)

  first_member : (more : Parse json.Members) (n : ℕ) (key : List ℕ) (o : Option (Json × List Token))
      → ((ts : List Token) → Within member_nodes (length ts) (more ts)) → Within whole n o
      → Within member_nodes n (option_and_then (λ p. parse_map (json.member key p.0) (more p.1)) o)
  first_member more n key None others w = tt
  first_member more n key (Some p) others w =
      mapped (json.member key p.0) member_nodes member_nodes (length p.1) n (more p.1) (λ a l k. omega (arith, k, w)) (others p.1)

  by_key : (more : Parse json.Members) (ts : List Token) (key : Option (List ℕ))
      → ((us : List Token) → Within member_nodes (length us) (more us)) → Within member_nodes (length ts) (members_step v more key ts)
  by_key more ts None others = omega arith
  by_key more ts (Some key) others = first_member more (length ts) key (v ts) others (h ts)

  wider : {A : Type 0} (size : A → ℕ) (m n : ℕ) (o : Option (A × List Token)) → m ≤ n → Within size m o → Within size n o
  wider size m n None le w = tt
  wider size m n (Some p) le w = omega (arith, le, w)

  keys_within : (more : Parse json.Members) (ts : List Token) (o : Option (Option (List ℕ) × List Token))
      → ((us : List Token) → Within member_nodes (length us) (more us)) → Within no_size (length ts) o
      → Within member_nodes (length ts) (option_and_then (λ p. members_step v more p.0 p.1) o)
  keys_within more ts None others w = tt
  keys_within more ts (Some p) others w =
      wider member_nodes (length p.1) (length ts) (members_step v more p.0 p.1) (omega (arith, w)) (by_key more p.1 p.0 others)

  members_within : (n : ℕ) (ts : List Token) → Within member_nodes (length ts) (members v n ts)
  unfolding members
  members_within zero ts = tt
  members_within (suc n) ts = keys_within (members v n) ts (read_key ts) (members_within n) (key_within ts)

with_within : (a : Parse json.Items) (o : Parse json.Members) → ((ts : List Token) → Within item_nodes (length ts) (a ts))
    → ((ts : List Token) → Within member_nodes (length ts) (o ts)) → (ts : List Token) → Within whole (length ts) (value_with a o ts)
with_within a o ha ho [] = tt
with_within a o ha ho (Token.begin_object ∷ ts) =
    mapped json.object member_nodes whole (length ts) (suc (length ts)) (o ts) (λ ms l k. omega (arith, k)) (ho ts)
with_within a o ha ho (Token.end_object ∷ ts) = tt
with_within a o ha ho (Token.begin_array ∷ ts) =
    mapped json.array item_nodes whole (length ts) (suc (length ts)) (a ts) (λ js l k. omega (arith, k)) (ha ts)
with_within a o ha ho (Token.end_array ∷ ts) = tt
with_within a o ha ho (Token.key s ∷ ts) = tt
with_within a o ha ho (Token.string s ∷ ts) = omega arith
with_within a o ha ho (Token.number s ∷ ts) = omega arith
with_within a o ha ho (Token.boolean b ∷ ts) = omega arith
with_within a o ha ho (Token.null ∷ ts) = omega arith
with_within a o ha ho (Token.bad ∷ ts) = tt

value_within : (n : ℕ) (ts : List Token) → Within whole (length ts) (value n ts)
unfolding value
value_within zero ts = with_within (λ us. None) (λ us. None) (λ us. tt) (λ us. tt) ts
value_within (suc n) ts =
    with_within (λ us. items (value n) (length us) us) (λ us. members (value n) (length us) us)
    (λ us. items_within (value n) (value_within n) (length us) us) (λ us. members_within (value n) (value_within n) (length us) us) ts

-- ---- the value of that tree

abbrev AtMost : {A : Type 0} → (A → ℕ) → ℕ → Option A → Type 0
AtMost size n None = ⊤
AtMost size n (Some a) = size a ≤ n

put_inside : (k : List ℕ) (d : Data) (ms : Members) → inside_members (put k d ms) ≤ suc (inside d + inside_members ms)
put_inside k d no_members = omega arith
put_inside k d (member l e ms) = by_order (slice_cmp nat_cmp k l) (put_inside k d ms)
  where
    by_order : (o : Ordering) → inside_members (put k d ms) ≤ suc (inside d + inside_members ms)
        → inside_members (match_ordering o (member k d (member l e ms)) (member l d ms) (member l e (put k d ms))) ≤ suc (inside d + inside_members (member l e ms))
    by_order Ordering.Less h = omega arith
    by_order Ordering.Equal h = omega arith
    by_order Ordering.Greater h = omega (arith, h)

number_inside : (n : ℕ) (o : Option _) → AtMost inside n (option_map number o)
number_inside n None = tt
number_inside n (Some x) = omega arith

array_inside : (n : ℕ) (o : Option Items) → AtMost inside_items n o → AtMost inside n (option_map array o)
array_inside n None h = tt
array_inside n (Some ds) h = h

object_inside : (n : ℕ) (o : Option Members) → AtMost inside_members (n + inside_members no_members) o → AtMost inside n (option_map object o)
object_inside n None h = tt
object_inside n (Some ms) h = omega (arith, h)

others_inside : (m n : ℕ) (d : Data) (o : Option Items) → inside d ≤ m → AtMost inside_items n o → AtMost inside_items (suc (m + n)) (option_map (item d) o)
others_inside m n d None e h = tt
others_inside m n d (Some ds) e h = omega (arith, e, h)

first_inside : (m n : ℕ) (o : Option Data) (others : Option Items) → AtMost inside m o → AtMost inside_items n others
    → AtMost inside_items (suc (m + n)) (option_and_then (λ d. option_map (item d) others) o)
first_inside m n None others e h = tt
first_inside m n (Some d) others e h = others_inside m n d others e h

member_inside : (m n : ℕ) (k : List ℕ) (o : Option Data) (found : Members) (next : Members → Option Members) → AtMost inside m o
    → ((now : Members) → AtMost inside_members (n + inside_members now) (next now))
    → AtMost inside_members (suc (m + n) + inside_members found) (option_and_then (λ d. next (put k d found)) o)
member_inside m n k None found next e h = tt
member_inside m n k (Some d) found next e h = wider (next (put k d found)) (h (put k d found))
  where
    wider : (o : Option Members) → AtMost inside_members (n + inside_members (put k d found)) o → AtMost inside_members (suc (m + n) + inside_members found) o
    wider None w = tt
    wider (Some ms) w = omega (arith, w, e, put_inside k d found)

mutual
  json_inside : (j : Json) → AtMost inside (nodes j) (of_json j)
  json_inside json.null = omega arith
  json_inside (json.boolean b) = omega arith
  json_inside (json.number s) = number_inside 0 (number_of s)
  json_inside (json.string s) = omega arith
  json_inside (json.array js) = array_inside (item_nodes js) (of_items js) (items_are_inside js)
  json_inside (json.object ms) = object_inside (member_nodes ms) (of_members ms no_members) (members_are_inside ms no_members)

  items_are_inside : (js : json.Items) → AtMost inside_items (item_nodes js) (of_items js)
  items_are_inside json.no_items = omega arith
  items_are_inside (json.item j js) = first_inside (nodes j) (item_nodes js) (of_json j) (of_items js) (json_inside j) (items_are_inside js)

  members_are_inside : (ms : json.Members) (found : Members) → AtMost inside_members (member_nodes ms + inside_members found) (of_members ms found)
  members_are_inside json.no_members found = omega arith
  members_are_inside (json.member k j ms) found =
      member_inside (nodes j) (member_nodes ms) k (of_json j) found (λ now. of_members ms now) (json_inside j) (members_are_inside ms)

last_within : (n : ℕ) (j : Json) (ts : List Token) → whole j + length ts ≤ n → AtMost whole n (if_last j ts)
last_within n j [] h = omega (arith, h)
last_within n j (t ∷ ts) h = tt

tree_within : (n : ℕ) (o : Option (Json × List Token)) → Within whole n o → AtMost whole n (option_and_then (λ p. if_last p.0 p.1) o)
tree_within n None h = tt
tree_within n (Some p) h = last_within n p.0 p.1 h

wider_inside : (m n : ℕ) (o : Option Data) → m ≤ n → AtMost inside m o → AtMost inside n o
wider_inside m n None le h = tt
wider_inside m n (Some d) le h = omega (arith, le, h)

of_tree : (n : ℕ) (o : Option Json) → AtMost whole (suc n) o → AtMost inside n (option_and_then of_json o)
of_tree n None h = tt
of_tree n (Some j) h = wider_inside (nodes j) n (of_json j) (omega (arith, h)) (json_inside j)

read_inside : (text : List ℕ) → AtMost inside (length text) (read text)
read_inside text = of_tree (length text) (option_and_then (λ p. if_last p.0 p.1) (value max_depth (tokens text))) (more (value_within max_depth (tokens text)))
  where
    wider_tree : (m n : ℕ) (o : Option Json) → m ≤ n → AtMost whole m o → AtMost whole n o
    wider_tree m n None le h = tt
    wider_tree m n (Some j) le h = omega (arith, le, h)

    more : Within whole (length (tokens text)) (value max_depth (tokens text))
        → AtMost whole (suc (length text)) (option_and_then (λ p. if_last p.0 p.1) (value max_depth (tokens text)))
    more h = wider_tree (length (tokens text)) (suc (length text)) _ (tokens_within text) (tree_within (length (tokens text)) (value max_depth (tokens text)) h)

-- the value of bytes has at most as many values inside as there are bytes
pub few_inside : (bytes : List ℕ) (d : Data) → value_of bytes ≡ Some d → inside d ≤ length bytes
unfolding value_of
few_inside bytes d e = rw e at (by_cases (is_utf8 bytes))
  where
    by_cases : (b : Bool) → AtMost inside (length bytes) (if b then read bytes else None)
    by_cases true = read_inside bytes
    by_cases false = tt

-- ---- a member of a value

member_is_inside : (name : List ℕ) (ms : Members) → AtMost inside (inside_members ms) (get_member name ms)
member_is_inside name no_members = tt
member_is_inside name (member l e ms) = by_order (slice_cmp nat_cmp name l) (wider_inside _ _ (get_member name ms) (omega arith) (member_is_inside name ms))
  where
    by_order : (o : Ordering) → AtMost inside (inside_members (member l e ms)) (get_member name ms)
        → AtMost inside (inside_members (member l e ms)) (match_ordering o (get_member name ms) (Some e) (get_member name ms))
    by_order Ordering.Less h = h
    by_order Ordering.Equal h = omega arith
    by_order Ordering.Greater h = h

not_null_inside : (n : ℕ) (o : Option Data) → AtMost inside n o → AtMost inside n (option_and_then not_null o)
not_null_inside n None h = tt
not_null_inside n (Some null) h = tt
not_null_inside n (Some (boolean b)) h = h
not_null_inside n (Some (number x)) h = h
not_null_inside n (Some (string s)) h = h
not_null_inside n (Some (array ds)) h = h
not_null_inside n (Some (object ms)) h = h

got_inside : (name : List ℕ) (d : Data) → AtMost inside (inside d) (get name d)
got_inside name null = tt
got_inside name (boolean b) = tt
got_inside name (number n) = tt
got_inside name (string s) = tt
got_inside name (array ds) = tt
got_inside name (object ms) = member_is_inside name ms

-- what was found, seen as its data, has no more inside than the value that it was found in
pub found_inside : {A : Type 0} (seen : A → Data) (found : Option A) (name : List ℕ) (d : Data)
    → option_map seen found ≡ present name d → IfSome found (λ a. inside (seen a) ≤ inside d)
found_inside seen None name d e = tt
found_inside seen (Some a) name d e = rw (← e) at (not_null_inside (inside d) (get name d) (got_inside name d))
