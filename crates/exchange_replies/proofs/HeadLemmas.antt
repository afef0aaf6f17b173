-- Header lines one after another.
use Rattle.std.proofs.Common.{◌≡◌, ℕ, List, [], ◌∷◌, ◌++◌, refl, sym, ap, ◌∙◌, append_assoc, append-nil}
use Rattle.std.proofs.lemmas.Grind.{flat_map-append}
use Rattle.http_head.specs.Written.{line, header_lines}
use Rattle.http_head.specs.declared.header.Header.{Header}

lines-append : (hs ks : List Header) → header_lines (hs ++ ks) ≡ header_lines hs ++ header_lines ks
unfolding header_lines
lines-append hs ks = flat_map-append line hs ks

-- more lines
lines_more : (base out new : List ℕ) (hs ks : List Header) → out ≡ base ++ header_lines hs → new ≡ out ++ header_lines ks
    → new ≡ base ++ header_lines (hs ++ ks)
lines_more base out new hs ks e f =
    f ∙ ap (λ l. l ++ header_lines ks) e ∙ append_assoc base (header_lines hs) (header_lines ks)
    ∙ ap (λ l. base ++ l) (sym (lines-append hs ks))

order : (a b : Header) (gs cs : List Header) → (((a ∷ []) ++ gs) ++ b ∷ []) ++ cs ≡ a ∷ (gs ++ (b ∷ cs))
order a b gs cs = simp append_assoc

pub no_lines : header_lines [] ≡ []
unfolding header_lines
no_lines = refl

pub no_more : (base : List ℕ) (hs : List Header) → hs ≡ [] → base ≡ base ++ header_lines hs
no_more base hs e = sym (append-nil base) ∙ ap (λ l. base ++ l) (sym (ap header_lines e ∙ no_lines))

-- a status line, four parts of headers and what ends them
pub head_text : (first end o p q r s t u : List ℕ) (a b : Header) (gs cs : List Header) → o ≡ [] → p ≡ o ++ first
    → q ≡ p ++ header_lines (a ∷ []) → r ≡ q ++ header_lines gs → s ≡ r ++ header_lines (b ∷ [])
    → t ≡ s ++ header_lines cs → u ≡ t ++ end → u ≡ first ++ (header_lines (a ∷ (gs ++ (b ∷ cs))) ++ end)
head_text first end o p q r s t u a b gs cs none e f g h i j =
    let begun : p ≡ first = e ∙ ap (λ l. l ++ first) none in
    let two = lines_more p q r (a ∷ []) gs f g in
    let three = lines_more p r s ((a ∷ []) ++ gs) (b ∷ []) two h in
    let four = lines_more p s t (((a ∷ []) ++ gs) ++ b ∷ []) cs three i in
    j ∙ ap (λ l. l ++ end)
    (four ∙ ap (λ hs. p ++ header_lines hs) (order a b gs cs) ∙ ap (λ l. l ++ header_lines (a ∷ (gs ++ (b ∷ cs)))) begun)
    ∙ append_assoc first (header_lines (a ∷ (gs ++ (b ∷ cs)))) end
