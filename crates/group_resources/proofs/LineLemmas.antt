-- A line that was written is read again.
use Rattle.std.proofs.Common.{◌≡◌, ℕ, ◌<◌, Bool, true, false, nat_lt, List, [], ◌∷◌, ◌++◌, length, take, Some, refl, ap, sym, ◌∙◌, subst, append_assoc, arith, inr}
use Rattle.std.specs.Prelude.{codes, ◌&&◌}
use Rattle.std.specs.Str.{is_utf8, IsAscii}
use Rattle.std.proofs.lemmas.Bool.Decides.{nat_tests}
use Rattle.std.proofs.lemmas.Str.{IsUtf8-from_ascii, is_utf8-from_IsUtf8}
use Rattle.std.proofs.lemmas.Str.Ascii.{IsAscii-nil, IsAscii-cons}
use Rattle.std.proofs.lemmas.List.{take_at}
use Rattle.event_members.specs.ReadBack.{ReadsTexts}
use Rattle.event_members.specs.TextMembers.{item_at, text_at, text_member_at}
use Rattle.json_span.specs.Quote.{quoted}
use Rattle.json_span.specs.Span.{place_reach, start, EndsMember}
use Rattle.json_span.specs.Value.{Value, array, no_items, StandsFor, flat}
use Rattle.group_resources.specs.Lines.{IsArray, IsLine, IsOfState, line_of, line_text, nothing, state_word}
use Rattle.group_resources.specs.Reading.{line_at, state_of}
use Rattle.group_resources.specs.declared.line.MergedLine.{MergedLine}
use Rattle.group_resources.specs.declared.line.State.{State}
use Rattle.group_resources.specs.declared.line.State.TheVariants.{Fresh, Stale, Missing}

-- the laws of the crates below
pub record Laws : Type 0 where
  pub texts : ReadsTexts
  pub one_length : (v : Value) (rest : List ℕ) → StandsFor (flat v) v → EndsMember rest → place_reach start (flat v ++ rest) ≡ length (flat v)

-- a text and the comma after it
item_again : Laws → (s rest : List ℕ) → is_utf8 s ≡ true → item_at (quoted s ++ 44 ∷ rest) ≡ Some (s, rest)
unfolding text_at
item_again law s rest valid = rw (law.texts.string s (44 ∷ rest), valid) refl

-- a text of ASCII is UTF-8
abbrev all_low : List ℕ → Bool
all_low [] = true
all_low (c ∷ cs) = nat_lt c 128 && all_low cs

below : (c : ℕ) → nat_lt c 128 ≡ true → c < 128
below c h = grind (arith, nat_tests, h)

both : (a b : Bool) → (a && b) ≡ true → (a ≡ true) × (b ≡ true)
both true b h = (refl, h)
both false b h = absurd (cc h)

low_ascii : (cs : List ℕ) → all_low cs ≡ true → IsAscii cs
low_ascii [] h = IsAscii-nil
low_ascii (c ∷ cs) h = let p = both (nat_lt c 128) (all_low cs) h in IsAscii-cons c cs (below c p.0) (low_ascii cs p.1)

low_valid : (cs : List ℕ) → all_low cs ≡ true → is_utf8 cs ≡ true
low_valid cs h = is_utf8-from_IsUtf8 cs (IsUtf8-from_ascii cs (low_ascii cs h))

valid_word : (s : State) → is_utf8 (state_word s) ≡ true
valid_word Fresh = low_valid (state_word Fresh) refl
valid_word Stale = low_valid (state_word Stale) refl
valid_word Missing = low_valid (state_word Missing) refl

word_again : (s : State) → state_of (state_word s) ≡ Some s
word_again Fresh = refl
word_again Stale = refl
word_again Missing = refl

empty_array : IsArray nothing
empty_array = (no_items, (([], 91 ∷ 93 ∷ [], [], tt, (93 ∷ [], ([], tt, refl), refl), tt, refl), omega arith), refl)

pub array_of : (s : State) (resources : List ℕ) → IsOfState s resources → IsArray resources
array_of Fresh resources h = h
array_of Stale resources h = h
array_of Missing resources h = subst IsArray (sym h) empty_array

-- the array ends at the brace
reaches : Laws → (resources rest : List ℕ) → IsArray resources → place_reach start (resources ++ 125 ∷ rest) ≡ length resources
reaches law resources rest h =
    let v = array h.0 in
    let self : StandsFor (flat v) v = subst (λ b. StandsFor b v) h.2 h.1 in
    ap (λ b. place_reach start (b ++ 125 ∷ rest)) h.2 ∙ law.one_length v (125 ∷ rest) self (inr refl) ∙ ap length (sym h.2)

taken : Laws → (resources rest : List ℕ) → IsArray resources
    → take (place_reach start (resources ++ 125 ∷ rest)) (resources ++ 125 ∷ rest) ≡ resources
taken law resources rest h =
    ap (λ (n : ℕ). take n (resources ++ 125 ∷ rest)) (reaches law resources rest h) ∙ take_at resources (125 ∷ rest) (length resources) refl

shape : List ℕ → State → List ℕ → List ℕ → List ℕ
shape version s resources after =
    codes "{\"groupVersion\":" ++ (quoted version
    ++ 44 ∷ (codes "\"state\":" ++ (quoted (state_word s)
    ++ 44 ∷ (codes "\"resources\":" ++ (resources ++ 125 ∷ 10 ∷ after)))))

shaped : (version : List ℕ) (s : State) (resources after : List ℕ) → line_of version s resources ++ after ≡ shape version s resources after
unfolding line_of shape
shaped version s resources after = simp append_assoc

shape_again : Laws → (version : List ℕ) (s : State) (resources after : List ℕ) → is_utf8 version ≡ true → IsArray resources
    → line_at (shape version s resources after) ≡ Some (record { group_version = version; state = s; resources = resources })
unfolding line_at shape text_member_at
shape_again law version s resources after valid is =
    rw (
      item_again law version (codes "\"state\":" ++ (quoted (state_word s) ++ 44 ∷ (codes "\"resources\":" ++ (resources ++ 125 ∷ 10 ∷ after)))) valid,
      item_again law (state_word s) (codes "\"resources\":" ++ (resources ++ 125 ∷ 10 ∷ after)) (valid_word s),
      word_again s,
      taken law resources (10 ∷ after) is,
    ) refl

pub line_again : Laws → (line : MergedLine) (after : List ℕ) → IsLine line → line_at (line_text line ++ after) ≡ Some line
line_again law line after h =
    ap line_at (shaped line.group_version line.state line.resources after)
    ∙ shape_again law line.group_version line.state line.resources after h.version (array_of line.state line.resources h.resources)
