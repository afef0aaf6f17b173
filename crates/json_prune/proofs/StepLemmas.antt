-- One byte of a text, as strings and values are measured.
use Rattle.std.proofs.Common.{◌≡◌, ℕ, zero, suc, ◌+◌, ◌-◌, ◌≤◌, ◌<◌, ◌∷◌, [], List, length, take, drop, get_or, true, false, cond, refl, sym, ap, ◌∙◌, inl, inr, arith, length-drop, length-take, min}
use Rattle.std.specs.Prelude.{◌==◌, ◌||◌}
use Rattle.std.proofs.Math.Seq.{drop-cons}
use Rattle.std.proofs.lemmas.List.{get_or-drop, take_rest, drop-drop, drop_all}
use Rattle.std.proofs.lemmas.Bool.{cases_lt}
use Rattle.std.proofs.lemmas.Bool.Decides.{nat_tests}
use Rattle.memchr.specs.Find.{Nowhere, Passes, is_byte2}
use Rattle.json_prune.specs.Skip.{string_size, outside, inside, unless_none, at_mark, size}
use Rattle.json_prune.specs.Mark.{mark_of}
use Rattle.json_prune.specs.declared.mark.Mark.{Mark}
use Rattle.json_prune.specs.declared.mark.Mark.TheVariants.{Quote, Opens, Closes, Comma, Other}
use Rattle.json_prune.proofs.ScanLemmas.{string_then}

-- ---- strings

string_at : (text : List ℕ) (at : ℕ) → at < length text →
    string_size false (drop at text) ≡ cond (get_or text at 0 == 34) 1 (suc (string_size (get_or text at 0 == 92) (drop (suc at) text)))
string_at text at h = ap (string_size false) (drop-cons text at 0 h)

pub string_closes : (text : List ℕ) (at : ℕ) → at < length text → get_or text at 0 ≡ 34 → string_size false (drop at text) ≡ 1
string_closes text at h e = string_at text at h ∙ ap (λ b. cond (b == 34) 1 (suc (string_size (b == 92) (drop (suc at) text)))) e

pub string_on : (text : List ℕ) (at : ℕ) → at < length text → ¬ (get_or text at 0 ≡ 34) → ¬ (get_or text at 0 ≡ 92) → string_size false (drop at text) ≡ suc (string_size false (drop (at + 1) text))
string_on text at h a b =
    let quote : (get_or text at 0 == 34) ≡ false = grind (arith, nat_tests) in
    let back : (get_or text at 0 == 92) ≡ false = grind (arith, nat_tests) in
    let next : suc at ≡ at + 1 = omega arith in
    string_at text at h
    ∙ (ap (λ c. cond c 1 (suc (string_size (get_or text at 0 == 92) (drop (suc at) text)))) quote
    ∙ (ap (λ c. suc (string_size c (drop (suc at) text))) back ∙ ap (λ i. suc (string_size false (drop i text))) next))

one_escaped : (xs : List ℕ) → 0 < length xs → string_size true xs ≡ suc (string_size false (drop 1 xs))
one_escaped [] h = absurd (omega (arith, h))
one_escaped (x ∷ xs) h = refl

pub string_escape : (text : List ℕ) (at : ℕ) → at + 1 < length text → get_or text at 0 ≡ 92 → string_size false (drop at text) ≡ 2 + string_size false (drop (at + 2) text)
string_escape text at h e =
    let within : at < length text = omega (arith, h) in
    let more : 0 < length (drop (suc at) text) = omega (arith, h, length-drop (suc at) text) in
    let there : suc at + 1 ≡ at + 2 = omega arith in
    string_at text at within
    ∙ (ap (λ b. cond (b == 34) 1 (suc (string_size (b == 92) (drop (suc at) text)))) e
    ∙ (ap suc (one_escaped (drop (suc at) text) more ∙ ap (λ l. suc (string_size false l)) (drop-drop 1 (suc at) text ∙ ap (λ i. drop i text) there))
    ∙ omega arith))

pub string_escape_last : (text : List ℕ) (at : ℕ) → at < length text → length text ≤ at + 1 → get_or text at 0 ≡ 92 → string_size false (drop at text) ≡ 1
string_escape_last text at h past e =
    string_at text at h
    ∙ (ap (λ b. cond (b == 34) 1 (suc (string_size (b == 92) (drop (suc at) text)))) e
    ∙ ap (λ l. suc (string_size true l)) (drop_all (suc at) text (omega (arith, past))))

pub string_none : (text : List ℕ) (at : ℕ) → length text ≤ at → string_size false (drop at text) ≡ 0
string_none text at past = ap (string_size false) (drop_all at text past)

-- bytes that are neither quotation mark nor backslash
string_bytes : (text : List ℕ) (at n : ℕ) → at + n ≤ length text → ((k : ℕ) → k < n → ¬ (get_or text (at + k) 0 ≡ 34)) → ((k : ℕ) → k < n → ¬ (get_or text (at + k) 0 ≡ 92)) →
    string_size false (drop at text) ≡ n + string_size false (drop (at + n) text)
string_bytes text at zero h a b = let here : at ≡ at + 0 = omega arith in let same = ap (λ i. string_size false (drop i text)) here in omega (arith, same)
string_bytes text at (suc n) h a b =
    let before = string_bytes text at n (omega (arith, h)) (λ k l. a k (omega (arith, l))) (λ k l. b k (omega (arith, l))) in
    let step = string_on text (at + n) (omega (arith, h)) (a n (omega arith)) (b n (omega arith)) in
    let there : at + n + 1 ≡ at + suc n = omega arith in
    let same = ap (λ i. string_size false (drop i text)) there in
    omega (arith, before, step, same)

-- what stands in the part of a text that is searched
part_at : (text : List ℕ) (at k : ℕ) → get_or (take (length text - at) (drop at text)) k 0 ≡ get_or text (at + k) 0
part_at text at k = ap (λ l. get_or l k 0) (take_rest text at) ∙ get_or-drop at text k 0

-- what a search passed over
pub string_passed : (text : List ℕ) (at n end all : ℕ) → at ≤ length text → n ≤ length (take (length text - at) (drop at text)) → end ≡ at + n →
    Nowhere (Passes (is_byte2 34 92) (take (length text - at) (drop at text))) 0 n → all ≡ at + string_size false (drop at text) → all ≡ end + string_size false (drop end text)
string_passed text at n end all within few here passed sum =
    let size = length-take (length text - at) (drop at text) in
    let part = length-drop at text in
    let run = string_bytes text at n (omega (arith, within, few, size, part))
    (λ k below is. passed k (omega arith) below (ap (λ b. b == 34 || b == 92) (part_at text at k ∙ is)))
    (λ k below is. passed k (omega arith) below (ap (λ b. b == 34 || b == 92) (part_at text at k ∙ is))) in
    let there = ap (λ i. string_size false (drop i text)) here in
    omega (arith, sum, run, there, here)

-- what it found, if that is no quotation mark
pub slash_there : (text : List ℕ) (at n mark : ℕ) → mark ≡ at + n → Passes (is_byte2 34 92) (take (length text - at) (drop at text)) n → ¬ (get_or text mark 0 ≡ 34) → get_or text mark 0 ≡ 92
slash_there text at n mark here found other =
    let byte : get_or (take (length text - at) (drop at text)) n 0 ≡ get_or text mark 0 = part_at text at n ∙ ap (λ i. get_or text i 0) (sym here) in
    let test : (get_or text mark 0 == 34 || get_or text mark 0 == 92) ≡ true = ap (λ b. b == 34 || b == 92) (sym byte) ∙ found in
    let quote : (get_or text mark 0 == 34) ≡ false = grind (arith, nat_tests) in
    let back : (get_or text mark 0 == 92) ≡ true = ap (λ c. c || (get_or text mark 0 == 92)) (sym quote) ∙ test in
    grind (arith, nat_tests)

-- ---- values

value_at : (text : List ℕ) (at n : ℕ) → at < length text → size outside n (drop at text) ≡ size outside n (get_or text at 0 ∷ drop (at + 1) text)
value_at text at n h =
    let next : suc at ≡ at + 1 = omega arith in
    ap (size outside n) (drop-cons text at 0 h) ∙ ap (λ i. size outside n (get_or text at 0 ∷ drop i text)) next

value_marked : (text : List ℕ) (at n : ℕ) (m : Mark) → at < length text → m ≡ mark_of (get_or text at 0) →
    size outside n (drop at text) ≡ at_mark m n (size inside n (drop (at + 1) text)) (λ k. size outside k (drop (at + 1) text))
value_marked text at n m h is = value_at text at n h ∙ ap (λ k. at_mark k n (size inside n (drop (at + 1) text)) (λ k. size outside k (drop (at + 1) text))) (sym is)

value_string : (text : List ℕ) (at n s : ℕ) → at < length text → Quote ≡ mark_of (get_or text at 0) → s ≡ string_size false (take (length text - (at + 1)) (drop (at + 1) text)) →
    size outside n (drop at text) ≡ s + 1 + size outside n (drop (at + s + 1) text)
value_string text at n s h e is =
    let whole : s ≡ string_size false (drop (at + 1) text) = is ∙ ap (string_size false) (take_rest text (at + 1)) in
    let there : at + 1 + s ≡ at + s + 1 = omega arith in
    value_marked text at n Quote h e
    ∙ (ap suc (string_then false n (drop (at + 1) text)
    ∙ (ap (λ k. k + size outside n (drop k (drop (at + 1) text))) (sym whole)
    ∙ ap (λ l. s + size outside n l) (drop-drop s (at + 1) text ∙ ap (λ i. drop i text) there)))
    ∙ omega arith)

value_opens : (text : List ℕ) (at n : ℕ) → at < length text → Opens ≡ mark_of (get_or text at 0) → size outside n (drop at text) ≡ suc (size outside (n + 1) (drop (at + 1) text))
value_opens text at n h e =
    let more : suc n ≡ n + 1 = omega arith in value_marked text at n Opens h e ∙ ap (λ m. suc (size outside m (drop (at + 1) text))) more

closes_one : (bs : List ℕ) (n : ℕ) → ¬ (n ≡ 0) → unless_none n (λ m. size outside m bs) ≡ suc (size outside (n - 1) bs)
closes_one bs zero h = absurd (h refl)
closes_one bs (suc n) h = let less : n ≡ suc n - 1 = omega arith in ap (λ m. suc (size outside m bs)) less

value_closes : (text : List ℕ) (at n : ℕ) → at < length text → Closes ≡ mark_of (get_or text at 0) → ¬ (n ≡ 0) → size outside n (drop at text) ≡ suc (size outside (n - 1) (drop (at + 1) text))
value_closes text at n h e some = value_marked text at n Closes h e ∙ closes_one (drop (at + 1) text) n some

-- a closing bracket or a comma where none is open
pub closes_here : (text : List ℕ) (at n all : ℕ) → at < length text → Closes ≡ mark_of (get_or text at 0) → n ≡ 0 → all ≡ at + size outside n (drop at text) → at ≡ all
closes_here text at n all h e none sum =
    let stop : size outside n (drop at text) ≡ 0 = value_marked text at n Closes h e ∙ ap (λ k. unless_none k (λ m. size outside m (drop (at + 1) text))) none in omega arith

pub comma_here : (text : List ℕ) (at n all : ℕ) → at < length text → Comma ≡ mark_of (get_or text at 0) → n ≡ 0 → all ≡ at + size outside n (drop at text) → at ≡ all
comma_here text at n all h e none sum =
    let stop : size outside n (drop at text) ≡ 0 = value_marked text at n Comma h e ∙ ap (λ k. unless_none k (λ m. size outside (suc m) (drop (at + 1) text))) none in omega arith

comma_one : (bs : List ℕ) (n : ℕ) → ¬ (n ≡ 0) → unless_none n (λ m. size outside (suc m) bs) ≡ suc (size outside n bs)
comma_one bs zero h = absurd (h refl)
comma_one bs (suc n) h = refl

pub value_none : (text : List ℕ) (at n : ℕ) → length text ≤ at → size outside n (drop at text) ≡ 0
value_none text at n past = ap (size outside n) (drop_all at text past)

-- ---- the sums so far

pub escape_on : (text : List ℕ) (at next all : ℕ) → at < length text → get_or text at 0 ≡ 92 → next ≡ min (length text) (at + 2) → all ≡ at + string_size false (drop at text) →
    (next ≤ length text) × (all ≡ next + string_size false (drop next text))
escape_on text at next all h e is sum =
    elim (cases_lt (at + 1) (length text)) [
      | inl more ↦
          let here : next ≡ at + 2 = omega (arith, is, more) in
          (omega (arith, here, more), sum ∙ (ap (λ k. at + k) (string_escape text at more e) ∙ (omega arith ∙ ap (λ i. i + string_size false (drop i text)) (sym here))))
      | inr past ↦
          let here : next ≡ length text = omega (arith, is, past) in
          let none = string_none text next (omega (arith, here)) in
          (omega (arith, here), omega (arith, sum, string_escape_last text at h past e, none, here, h, past))
    ]

pub string_sum : (text : List ℕ) (at many next now s all : ℕ) → at < length text → Quote ≡ mark_of (get_or text at 0) → s ≡ string_size false (take (length text - (at + 1)) (drop (at + 1) text)) →
    next ≡ at + s → now ≡ many → all ≡ at + size outside many (drop at text) → all ≡ next + 1 + size outside now (drop (next + 1) text)
string_sum text at many next now s all h e is here same sum =
    let step = value_string text at many s h e is in
    let there : size outside many (drop (at + s + 1) text) ≡ size outside now (drop (next + 1) text) =
    ap (λ i. size outside many (drop (i + 1) text)) (sym here) ∙ ap (λ n. size outside n (drop (next + 1) text)) (sym same) in
    omega (arith, sum, step, there, here)

byte_sum : (text : List ℕ) (at many next now more all : ℕ) → next ≡ at → now ≡ more → size outside many (drop at text) ≡ suc (size outside more (drop (at + 1) text)) →
    all ≡ at + size outside many (drop at text) → all ≡ next + 1 + size outside now (drop (next + 1) text)
byte_sum text at many next now more all here same step sum =
    let there : size outside more (drop (at + 1) text) ≡ size outside now (drop (next + 1) text) =
    ap (λ i. size outside more (drop (i + 1) text)) (sym here) ∙ ap (λ n. size outside n (drop (next + 1) text)) (sym same) in
    omega (arith, sum, step, there, here)

pub opens_sum : (text : List ℕ) (at many next now all : ℕ) → at < length text → Opens ≡ mark_of (get_or text at 0) → next ≡ at → now ≡ many + 1 →
    all ≡ at + size outside many (drop at text) → all ≡ next + 1 + size outside now (drop (next + 1) text)
opens_sum text at many next now all h e here same sum = byte_sum text at many next now (many + 1) all here same (value_opens text at many h e) sum

pub closes_sum : (text : List ℕ) (at many next now all : ℕ) → at < length text → Closes ≡ mark_of (get_or text at 0) → ¬ (many ≡ 0) → next ≡ at → now ≡ many - 1 →
    all ≡ at + size outside many (drop at text) → all ≡ next + 1 + size outside now (drop (next + 1) text)
closes_sum text at many next now all h e some here same sum = byte_sum text at many next now (many - 1) all here same (value_closes text at many h e some) sum

pub comma_sum : (text : List ℕ) (at many next now all : ℕ) → at < length text → Comma ≡ mark_of (get_or text at 0) → ¬ (many ≡ 0) → next ≡ at → now ≡ many →
    all ≡ at + size outside many (drop at text) → all ≡ next + 1 + size outside now (drop (next + 1) text)
comma_sum text at many next now all h e some here same sum =
    byte_sum text at many next now many all here same (value_marked text at many Comma h e ∙ comma_one (drop (at + 1) text) many some) sum

pub other_sum : (text : List ℕ) (at many next now all : ℕ) → at < length text → Other ≡ mark_of (get_or text at 0) → next ≡ at → now ≡ many →
    all ≡ at + size outside many (drop at text) → all ≡ next + 1 + size outside now (drop (next + 1) text)
other_sum text at many next now all h e here same sum = byte_sum text at many next now many all here same (value_marked text at many Other h e) sum
