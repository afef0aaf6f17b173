-- Header lines one after another.
use Rattle.std.proofs.Common.{◌≡◌, ℕ, ◌+◌, ◌<◌, List, [], ◌∷◌, ◌++◌, length, get_or, take, map, refl, sym, ap, ◌∙◌, append_assoc, append-nil}
use Rattle.std.proofs.lemmas.List.{map-append, take_more}
use Rattle.std.proofs.lemmas.Grind.{flat_map-append}
use Rattle.http_head.specs.Written.{named, line, header_lines}
use Rattle.http_head.specs.declared.header.Header.{Header}

pub lines-nil : header_lines [] ≡ []
unfolding header_lines
lines-nil = refl

pub lines-append : (hs ks : List Header) → header_lines (hs ++ ks) ≡ header_lines hs ++ header_lines ks
unfolding header_lines
lines-append hs ks = flat_map-append line hs ks

-- more lines
pub lines_more : (base out new : List ℕ) (hs ks : List Header) → out ≡ base ++ header_lines hs → new ≡ out ++ header_lines ks
    → new ≡ base ++ header_lines (hs ++ ks)
lines_more base out new hs ks e f =
    f ∙ ap (λ l. l ++ header_lines ks) e ∙ append_assoc base (header_lines hs) (header_lines ks)
    ∙ ap (λ l. base ++ l) (sym (lines-append hs ks))

-- one element more, as a header of that name
pub group_more : (name base out new : List ℕ) (groups : List (List ℕ)) (i : ℕ) (group value : List ℕ) → i < length groups
    → group ≡ get_or groups i group → value ≡ group → out ≡ base ++ header_lines (map (named name) (take i groups))
    → new ≡ out ++ header_lines (named name value ∷ []) → new ≡ base ++ header_lines (map (named name) (take (i + 1) groups))
group_more name base out new groups i group value within is same e f =
    let more : map (named name) (take (i + 1) groups) ≡ map (named name) (take i groups) ++ named name value ∷ [] =
    ap (map (named name)) (take_more groups i group within) ∙ map-append (named name) (take i groups) (get_or groups i group ∷ [])
    ∙ ap (λ x. map (named name) (take i groups) ++ named name x ∷ []) (sym is ∙ sym same) in
    lines_more base out new (map (named name) (take i groups)) (named name value ∷ []) e f ∙ ap (λ hs. base ++ header_lines hs) (sym more)

own_order : (a b c : Header) (gs ls : List Header) → ((((a ∷ []) ++ gs) ++ b ∷ []) ++ ls) ++ c ∷ [] ≡ a ∷ (gs ++ (b ∷ (ls ++ c ∷ [])))
own_order a b c gs ls = simp append_assoc

-- the lines that are written here, in their order
pub own_lines : (base p q r s t : List ℕ) (a b c : Header) (gs ls : List Header) → p ≡ base ++ header_lines (a ∷ [])
    → q ≡ p ++ header_lines gs → r ≡ q ++ header_lines (b ∷ []) → s ≡ r ++ header_lines ls → t ≡ s ++ header_lines (c ∷ [])
    → t ≡ base ++ header_lines (a ∷ (gs ++ (b ∷ (ls ++ c ∷ []))))
own_lines base p q r s t a b c gs ls e f g h i =
    let two = lines_more base p q (a ∷ []) gs e f in
    let three = lines_more base q r ((a ∷ []) ++ gs) (b ∷ []) two g in
    let four = lines_more base r s (((a ∷ []) ++ gs) ++ b ∷ []) ls three h in
    lines_more base s t ((((a ∷ []) ++ gs) ++ b ∷ []) ++ ls) (c ∷ []) four i ∙ ap (λ hs. base ++ header_lines hs) (own_order a b c gs ls)

-- a first line, header lines and what ends them
pub head_lines : (first end o p q r s t : List ℕ) (a : Header) (hs ks : List Header) → o ≡ [] → p ≡ o ++ first
    → q ≡ p ++ header_lines (a ∷ []) → r ≡ q ++ header_lines hs → s ≡ r ++ header_lines ks → t ≡ s ++ end
    → t ≡ first ++ (header_lines (a ∷ (hs ++ ks)) ++ end)
head_lines first end o p q r s t a hs ks none e f g h i =
    let begun : p ≡ first = e ∙ ap (λ l. l ++ first) none in
    let two = lines_more p q r (a ∷ []) hs f g in
    let three = lines_more p r s ((a ∷ []) ++ hs) ks two h in
    i ∙ ap (λ l. l ++ end) (three ∙ ap (λ l. l ++ header_lines (a ∷ (hs ++ ks))) begun)
    ∙ append_assoc first (header_lines (a ∷ (hs ++ ks))) end

-- ---- headers one after another

pub client_list : (kept p q r : List Header) (h : Header) (fs cs : List Header) → p ≡ kept ++ h ∷ [] → q ≡ p ++ fs → r ≡ q ++ cs
    → r ≡ kept ++ (h ∷ (fs ++ cs))
client_list kept p q r h fs cs e f g =
    g ∙ ap (λ l. l ++ cs) (f ∙ ap (λ l. l ++ fs) e) ∙ append_assoc (kept ++ h ∷ []) fs cs ∙ append_assoc kept (h ∷ []) (fs ++ cs)
