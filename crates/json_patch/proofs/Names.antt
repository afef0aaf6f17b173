-- How names compare, and what an object has at a name.
use Rattle.std.proofs.Common.{◌≡◌, ℕ, List, Some, None, Ordering, Less, Equal, Greater, nat_cmp, refl, sym, ap, ◌∙◌, is_eq}
use Rattle.std.proofs.lemmas.Cmp.{nat_list_cmp_total, tied_itself}
use Rattle.std.proofs.lemmas.Map.Text.{is_eq-slice_cmp}
use Rattle.std.proofs.lemmas.Slice.Eq.{bytes_eq-Decides}
use Rattle.std.specs.Cmp.Lexicographic.{slice_cmp}
use Rattle.std.specs.Ordering.{match_ordering, ordering_reverse}
use Rattle.serde_json.specs.Data.{Data, Members, no_members, member}
use Rattle.serde_json.specs.Find.{get_member}
use Rattle.json_patch.specs.Order.{AllAfter}

pub tie : (name : List ℕ) → slice_cmp nat_cmp name name ≡ Equal
tie name = tied_itself nat_list_cmp_total name

pub same_name : (a b : List ℕ) → slice_cmp nat_cmp a b ≡ Equal → a ≡ b
same_name a b is = (bytes_eq-Decides a b).0 (sym (is_eq-slice_cmp a b) ∙ ap is_eq is)

pub other_name : (o : Ordering) (a b : List ℕ) → slice_cmp nat_cmp a b ≡ o → (o ≡ Equal → ⊥) → a ≡ b → ⊥
other_name o a b is apart same = apart (sym is ∙ ap (slice_cmp nat_cmp a) (sym same) ∙ tie a)

pub less_apart : (a b : List ℕ) → slice_cmp nat_cmp a b ≡ Less → a ≡ b → ⊥
less_apart a b is = other_name Less a b is (λ (e : Less ≡ Equal). cc)

pub greater_apart : (a b : List ℕ) → slice_cmp nat_cmp a b ≡ Greater → a ≡ b → ⊥
greater_apart a b is = other_name Greater a b is (λ (e : Greater ≡ Equal). cc)

pub turned : (a b : List ℕ) → slice_cmp nat_cmp a b ≡ Greater → slice_cmp nat_cmp b a ≡ Less
turned a b is = nat_list_cmp_total.antisymm b a ∙ ap ordering_reverse is

pub all_later : (a b : List ℕ) (ms : Members) → slice_cmp nat_cmp a b ≡ Less → AllAfter b ms → AllAfter a ms
all_later a b no_members is h = tt
all_later a b (member k d ms) is h = (nat_list_cmp_total.trans a b k is h.0, all_later a b ms is h.1)

pub here : (name : List ℕ) (d : Data) (ms : Members) → get_member name (member name d ms) ≡ Some d
here name d ms = rw tie

skipped : (o : Ordering) (a b : List ℕ) (d : Data) (ms : Members) → slice_cmp nat_cmp a b ≡ o → (a ≡ b → ⊥)
    → match_ordering o (get_member a ms) (Some d) (get_member a ms) ≡ get_member a ms
skipped Less a b d ms is apart = refl
skipped Equal a b d ms is apart = absurd (apart (same_name a b is))
skipped Greater a b d ms is apart = refl

pub skips : (a b : List ℕ) (d : Data) (ms : Members) → (a ≡ b → ⊥) → get_member a (member b d ms) ≡ get_member a ms
skips a b d ms apart = skipped _ a b d ms refl apart

pub absent : (name : List ℕ) (ms : Members) → AllAfter name ms → get_member name ms ≡ None
absent name no_members h = refl
absent name (member k d ms) h = rw h.0 (absent name ms h.1)
