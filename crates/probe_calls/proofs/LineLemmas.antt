-- Header lines one after another.
use Rattle.std.proofs.Common.{◌≡◌, ℕ, List, [], ◌∷◌, ◌++◌, sym, ap, ◌∙◌, append_assoc}
use Rattle.std.proofs.lemmas.Grind.{flat_map-append}
use Rattle.http_head.specs.Written.{line, header_lines}
use Rattle.http_head.specs.declared.header.Header.{Header}

lines_join : (hs ks : List Header) → header_lines (hs ++ ks) ≡ header_lines hs ++ header_lines ks
unfolding header_lines
lines_join hs ks = flat_map-append line hs ks

-- lines more
lines_more : (base out new : List ℕ) (hs ks : List Header) → out ≡ base ++ header_lines hs → new ≡ out ++ header_lines ks
    → new ≡ base ++ header_lines (hs ++ ks)
lines_more base out new hs ks e f =
    f ∙ ap (λ l. l ++ header_lines ks) e ∙ append_assoc base (header_lines hs) (header_lines ks)
    ∙ ap (λ l. base ++ l) (sym (lines_join hs ks))

ordered : (ts : List Header) (c d e : Header) → ((ts ++ c ∷ []) ++ d ∷ []) ++ e ∷ [] ≡ ts ++ (c ∷ d ∷ e ∷ [])
ordered ts c d e = simp append_assoc

-- a line, some that there may be, and three more
pub put_lines : (base p q r s t : List ℕ) (a c d e : Header) (ts : List Header) → p ≡ base ++ header_lines (a ∷ []) → q ≡ p ++ header_lines ts
    → r ≡ q ++ header_lines (c ∷ []) → s ≡ r ++ header_lines (d ∷ []) → t ≡ s ++ header_lines (e ∷ [])
    → t ≡ base ++ header_lines (a ∷ (ts ++ (c ∷ d ∷ e ∷ [])))
put_lines base p q r s t a c d e ts one two three four five =
    let q' = lines_more base p q (a ∷ []) ts one two in
    let r' = lines_more base q r (a ∷ ts) (c ∷ []) q' three in
    let s' = lines_more base r s (a ∷ (ts ++ c ∷ [])) (d ∷ []) r' four in
    lines_more base s t (a ∷ ((ts ++ c ∷ []) ++ d ∷ [])) (e ∷ []) s' five
    ∙ ap (λ hs. base ++ header_lines (a ∷ hs)) (ordered ts c d e)

ordered_two : (ts : List Header) (c d : Header) → (ts ++ c ∷ []) ++ d ∷ [] ≡ ts ++ (c ∷ d ∷ [])
ordered_two ts c d = simp append_assoc

-- the same with two more
pub put_two : (base p q r s : List ℕ) (a c d : Header) (ts : List Header) → p ≡ base ++ header_lines (a ∷ []) → q ≡ p ++ header_lines ts
    → r ≡ q ++ header_lines (c ∷ []) → s ≡ r ++ header_lines (d ∷ []) → s ≡ base ++ header_lines (a ∷ (ts ++ (c ∷ d ∷ [])))
put_two base p q r s a c d ts one two three four =
    let q' = lines_more base p q (a ∷ []) ts one two in
    let r' = lines_more base q r (a ∷ ts) (c ∷ []) q' three in
    lines_more base r s (a ∷ (ts ++ c ∷ [])) (d ∷ []) r' four
    ∙ ap (λ hs. base ++ header_lines (a ∷ hs)) (ordered_two ts c d)

-- a first line, header lines and what ends them
pub head_lines : (first end o p q r : List ℕ) (hs : List Header) → o ≡ [] → p ≡ o ++ first → q ≡ p ++ header_lines hs → r ≡ q ++ end
    → r ≡ first ++ (header_lines hs ++ end)
head_lines first end o p q r hs none e f g =
    let begun : p ≡ first = e ∙ ap (λ l. l ++ first) none in
    g ∙ ap (λ l. l ++ end) (f ∙ ap (λ l. l ++ header_lines hs) begun) ∙ append_assoc first (header_lines hs) end
