-- The bodies of the example stand for values that differ in managed fields alone.
use Rattle.std.proofs.Common.{◌≡◌, ℕ, ◌≤◌, ◌&&◌, Bool, true, false, List, [], ◌∷◌, ◌++◌, map, length, refl, ap, sym, inl, inr, arith}
use Rattle.std.specs.Prelude.{codes, flat_map}
use Rattle.std.proofs.lemmas.List.{append-nil}
use Rattle.json_prune.specs.Prune.{managed}
use Rattle.json_span.specs.Member.{in_quotes}
use Rattle.json_span.specs.Strings.{is_plain, ArePieces, IsString}
use Rattle.json_span.specs.Value.{Value, token, array, object, Items, no_items, item, Members, no_members, member, flat, flat_items, flat_members, Padded, Spells, SpellsItems, SpellsMembers, StandsFor}
use Rattle.stage_event.specs.Kept.{IsKept}
use Rattle.stage_event.specs.declared.facts.Kept.{Kept}
use Rattle.stage_event.specs.declared.facts.Kept.TheVariants.{Compact}
use Rattle.stage_event.specs.declared.keeping.TheConstants.{MOST_KEPT_BYTES}
use Rattle.model_examples.specs.Managed.{KeepsAll, with_fields, without_fields}

-- ---- plain strings

are_plain : List ℕ → Bool
are_plain [] = true
are_plain (b ∷ bs) = is_plain b && are_plain bs

both_true : (a b : Bool) → (a && b) ≡ true → (a ≡ true) × (b ≡ true)
both_true true b h = (refl, h)
both_true false b h = absurd (cc h)

singles : List ℕ → List (List ℕ)
singles bs = map (λ b. b ∷ []) bs

are_pieces : (bs : List ℕ) → are_plain bs ≡ true → ArePieces (singles bs)
unfolding are_plain singles
are_pieces [] h = tt
are_pieces (b ∷ bs) h =
    let parts = both_true (is_plain b) (are_plain bs) h in
    (inl (parts.0, tt), are_pieces bs parts.1)

joined : (bs : List ℕ) → flat_map (λ p. p) (singles bs) ≡ bs
unfolding singles
joined [] = refl
joined (b ∷ bs) = ap (λ xs. b ∷ xs) (joined bs)

is_string : (bs : List ℕ) → are_plain bs ≡ true → IsString (in_quotes bs)
is_string bs h = (singles bs, are_pieces bs h, ap (λ xs. 34 ∷ (xs ++ 34 ∷ [])) (sym (joined bs)))

-- ---- values without blanks

alone : (P : List ℕ → Type 0) (text : List ℕ) → P text → Padded P text
alone P text h = ([], text, [], tt, h, tt, sym (append-nil text))

text_spells : (bs : List ℕ) → are_plain bs ≡ true → Spells (token (in_quotes bs)) (in_quotes bs)
text_spells bs h = (inr (inr (is_string bs h)), refl)

object_spells : (ms : Members) → SpellsMembers false ms (flat_members false ms) → Spells (object ms) (flat (object ms))
object_spells ms h = (flat_members false ms, h, refl)

array_spells : (vs : Items) → SpellsItems false vs (flat_items false vs) → Spells (array vs) (flat (array vs))
array_spells vs h = (flat_items false vs, h, refl)

one_item : (v : Value) → Spells v (flat v) → SpellsItems false (item v no_items) (flat_items false (item v no_items))
one_item v h = (flat v, 93 ∷ [], alone (Spells v) (flat v) h, refl, refl)

a_member : (later : Bool) (bs : List ℕ) (v : Value) (ms : Members) → are_plain bs ≡ true → Spells v (flat v)
    → SpellsMembers true ms (flat_members true ms)
    → SpellsMembers later (member (in_quotes bs) v ms) (flat_members later (member (in_quotes bs) v ms))
a_member true bs v ms plain h more =
    (in_quotes bs, flat v, flat_members true ms, is_string bs plain, alone (λ t. t ≡ in_quotes bs) (in_quotes bs) refl, alone (Spells v) (flat v) h, more, refl)
a_member false bs v ms plain h more =
    (in_quotes bs, flat v, flat_members true ms, is_string bs plain, alone (λ t. t ≡ in_quotes bs) (in_quotes bs) refl, alone (Spells v) (flat v) h, more, refl)

-- ---- the two bodies

abbrev manager : Members
manager = member (in_quotes (codes "manager")) (token (in_quotes (codes "kubectl"))) no_members

abbrev fields : Members
fields = member (in_quotes (codes "managedFields")) (array (item (object manager) no_items)) no_members

abbrev named : Members → Members
named ms = member (in_quotes (codes "name")) (token (in_quotes (codes "b"))) ms

abbrev body_of : Members → Value
body_of ms = object (member (in_quotes (codes "metadata")) (object (named ms)) no_members)

abbrev pub with_value : Value
with_value = body_of fields

abbrev pub without_value : Value
without_value = body_of no_members

body_spells : (ms : Members) → SpellsMembers true ms (flat_members true ms) → Spells (body_of ms) (flat (body_of ms))
unfolding are_plain
body_spells ms h =
    object_spells (member (in_quotes (codes "metadata")) (object (named ms)) no_members)
    (a_member false (codes "metadata") (object (named ms)) no_members refl
    (object_spells (named ms)
    (a_member false (codes "name") (token (in_quotes (codes "b"))) ms refl (text_spells (codes "b") refl) h))
    refl)

fields_spell : SpellsMembers true fields (flat_members true fields)
unfolding are_plain
fields_spell =
    a_member true (codes "managedFields") (array (item (object manager) no_items)) no_members refl
    (array_spells (item (object manager) no_items)
    (one_item (object manager)
    (object_spells manager
    (a_member false (codes "manager") (token (in_quotes (codes "kubectl"))) no_members refl (text_spells (codes "kubectl") refl) refl))))
    refl

pub with_stands : StandsFor with_fields with_value
with_stands = (alone (Spells with_value) with_fields (body_spells fields fields_spell), omega arith)

pub without_stands : StandsFor without_fields without_value
without_stands = (alone (Spells without_value) without_fields (body_spells no_members refl), omega arith)

pub same_managed : managed with_value ≡ managed without_value
unfolding managed
same_managed = refl

pub with_short : length with_fields ≤ MOST_KEPT_BYTES
with_short = omega arith

pub without_short : length without_fields ≤ MOST_KEPT_BYTES
without_short = omega arith

-- ---- what is kept of them

abbrev pub OneKept : Type 0
OneKept =
    (omit : Bool) (body : List ℕ) (these those : Kept) → IsKept omit body these → IsKept omit body those → these ≡ those

pub with_kept : OneKept → (keep : Bool → List ℕ → Kept) → KeepsAll keep → keep true with_fields ≡ Compact without_fields
unfolding managed
with_kept one keep keeps =
    one true with_fields (keep true with_fields) (Compact without_fields) (keeps true with_fields)
    (with_short, (with_value, with_stands, refl))

pub without_kept : OneKept → (keep : Bool → List ℕ → Kept) → KeepsAll keep → keep true without_fields ≡ Compact without_fields
unfolding managed
without_kept one keep keeps =
    one true without_fields (keep true without_fields) (Compact without_fields) (keeps true without_fields)
    (without_short, (without_value, without_stands, refl))
