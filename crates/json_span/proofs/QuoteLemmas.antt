-- A text of plain bytes needs no escape.
use Rattle.std.proofs.Common.{◌≡◌, ℕ, ◌+◌, ◌<◌, length, take, drop, get_or, Bool, true, false, ◌&&◌, List, [], ◌∷◌, ◌++◌, refl, ap, sym, ◌∙◌, append_assoc, subst, length-drop, ◌≤◌, arith}
use Rattle.std.proofs.lemmas.Grind.{flat_map-append}
use Rattle.std.proofs.lemmas.List.{append-nil, take_more, take_all, take-append-drop}
use Rattle.std.proofs.Math.Seq.{take-add}
use Rattle.std.proofs.lemmas.Bool.Decides.{nat_tests}
use Rattle.std.specs.List.{flat_map, list_all}
use Rattle.json_span.specs.Quote.{escaped, stands_for_itself}

both : (a b : Bool) → (a && b) ≡ true → (a ≡ true) × (b ≡ true)
both true true h = (refl, refl)
both true false h = absurd (cc)
both false b h = absurd (cc)

plain-byte : (b : ℕ) → stands_for_itself b ≡ true → escaped b ≡ b ∷ []
plain-byte b h = grind (arith, nat_tests)

pub plain-text : (text : List ℕ) → list_all stands_for_itself text ≡ true → flat_map escaped text ≡ text
plain-text [] h = refl
plain-text (b ∷ bs) h =
    let parts : (stands_for_itself b ≡ true) × (list_all stands_for_itself bs ≡ true) =
    both (stands_for_itself b) (list_all stands_for_itself bs) h in
    ap (λ l. l ++ flat_map escaped bs) (plain-byte b parts.0) ∙ ap (λ l. b ∷ l) (plain-text bs parts.1)

-- a range of bytes that stand for themselves is written as it is
pub plain_range : (text : List ℕ) (at n k : ℕ) → k ≡ n → list_all stands_for_itself (take n (drop at text)) ≡ true →
    flat_map escaped (take (at + n) text) ≡ flat_map escaped (take at text) ++ take k (drop at text)
plain_range text at n k same plain =
    ap (flat_map escaped) (take-add at n text)
    ∙ (flat_map-append escaped (take at text) (take n (drop at text))
    ∙ ap (λ l. flat_map escaped (take at text) ++ l)
    (plain-text (take n (drop at text)) plain ∙ ap (λ i. take i (drop at text)) (sym same)))

-- and the byte after it as its escape
pub escaped_more : (text : List ℕ) (i : ℕ) → i < length text →
    flat_map escaped (take (i + 1) text) ≡ flat_map escaped (take i text) ++ escaped (get_or text i 0)
escaped_more text i within =
    ap (flat_map escaped) (take_more text i 0 within)
    ∙ (flat_map-append escaped (take i text) (get_or text i 0 ∷ [])
    ∙ ap (λ l. flat_map escaped (take i text) ++ l) (append-nil (escaped (get_or text i 0))))

-- the same, after what was written before
pub ranged : (text before done out : List ℕ) (at n k : ℕ) → k ≡ n →
    list_all stands_for_itself (take n (drop at text)) ≡ true → done ≡ before ++ flat_map escaped (take at text) →
    out ≡ done ++ take k (drop at text) → out ≡ before ++ flat_map escaped (take (at + n) text)
ranged text before done out at n k same plain h e =
    e
    ∙ (ap (λ l. l ++ take k (drop at text)) h
    ∙ (append_assoc before (flat_map escaped (take at text)) (take k (drop at text))
    ∙ ap (λ l. before ++ l) (sym (plain_range text at n k same plain))))

-- the rest of a text, where all of it stands for itself
pub plain_rest : (out : List ℕ) (start n : ℕ) → length out ≤ start + n →
    list_all stands_for_itself (take n (drop start out)) ≡ true →
    out ≡ take start out ++ flat_map escaped (drop start out)
plain_rest out start n all plain =
    let whole : take n (drop start out) ≡ drop start out =
    take_all n (drop start out) (omega (arith, length-drop start out)) in
    sym (take-append-drop start out)
    ∙ ap (λ l. take start out ++ l)
    (sym (plain-text (drop start out) (subst (λ l. list_all stands_for_itself l ≡ true) whole plain)))
