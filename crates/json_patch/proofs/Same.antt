-- Members whose names ascend are the same where they have the same at each name.
use Rattle.std.proofs.Common.{◌≡◌, ℕ, List, Some, None, Ordering, Less, Equal, Greater, nat_cmp, refl, sym, ◌∙◌, subst}
use Rattle.std.specs.Cmp.Lexicographic.{slice_cmp}
use Rattle.std.specs.Ordering.{match_ordering}
use Rattle.serde_json.specs.Data.{Data, Members, no_members, member}
use Rattle.serde_json.specs.Find.{get_member}
use Rattle.json_patch.specs.Order.{AllAfter, Ascend}
use Rattle.json_patch.proofs.Names.{same_name, turned, all_later, here, absent}

abbrev SameAt : Members → Members → Type 0
SameAt xs ys = (q : List ℕ) → get_member q xs ≡ get_member q ys

tails_at : (o : Ordering) (q k : List ℕ) (d e : Data) (xs ys : Members) → slice_cmp nat_cmp q k ≡ o → AllAfter k xs → AllAfter k ys
    → match_ordering o (get_member q xs) (Some d) (get_member q xs) ≡ match_ordering o (get_member q ys) (Some e) (get_member q ys)
    → get_member q xs ≡ get_member q ys
tails_at Less q k d e xs ys is xa ya h = h
tails_at Equal q k d e xs ys is xa ya h =
    let same : k ≡ q = sym (same_name q k is) in
    absent q xs (subst (λ n. AllAfter n xs) same xa) ∙ sym (absent q ys (subst (λ n. AllAfter n ys) same ya))
tails_at Greater q k d e xs ys is xa ya h = h

heads : (k : List ℕ) (d e : Data) (xs ys : Members) → AllAfter k xs → AllAfter k ys → SameAt (member k d xs) (member k e ys)
    → (SameAt xs ys → xs ≡ ys) → member k d xs ≡ member k e ys
heads k d e xs ys xa ya h rest =
    let values : Some d ≡ Some e = sym (here k d xs) ∙ h k ∙ here k e ys in
    let others : xs ≡ ys = rest (λ q. tails_at _ q k d e xs ys refl xa ya (h q)) in
    cc

none_is_some : (d : Data) → None ≡ Some d → ⊥
none_is_some d h = cc

both_at : (o : Ordering) (k l : List ℕ) (d e : Data) (xs ys : Members) → slice_cmp nat_cmp k l ≡ o → AllAfter k xs → AllAfter l ys
    → SameAt (member k d xs) (member l e ys) → (SameAt xs ys → xs ≡ ys) → member k d xs ≡ member l e ys
both_at Less k l d e xs ys is xa ya h rest =
    absurd (none_is_some d (sym (absent k (member l e ys) (is, all_later k l ys is ya)) ∙ sym (h k) ∙ here k d xs))
both_at Equal k l d e xs ys is xa ya h rest =
    let same : k ≡ l = same_name k l is in
    subst (λ n. AllAfter n ys → SameAt (member k d xs) (member n e ys) → member k d xs ≡ member n e ys) same
    (λ after here. heads k d e xs ys xa after here rest) ya h
both_at Greater k l d e xs ys is xa ya h rest =
    let less : slice_cmp nat_cmp l k ≡ Less = turned k l is in
    absurd (none_is_some e (sym (absent l (member k d xs) (less, all_later l k xs less xa)) ∙ h l ∙ here l e ys))

pub same_members : (xs ys : Members) → Ascend xs → Ascend ys → SameAt xs ys → xs ≡ ys
same_members no_members no_members xa ya h = refl
same_members no_members (member l e ys) xa ya h = absurd (none_is_some e (h l ∙ here l e ys))
same_members (member k d xs) no_members xa ya h = absurd (none_is_some d (sym (h k) ∙ here k d xs))
same_members (member k d xs) (member l e ys) xa ya h = both_at _ k l d e xs ys refl xa.0 ya.0 h (λ r. same_members xs ys xa.1 ya.1 r)
