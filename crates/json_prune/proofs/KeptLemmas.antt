-- What is kept of a text.
use Rattle.std.proofs.Common.{◌≡◌, ℕ, ◌≤◌, [], ◌∷◌, List, length, Bool, true, false, cond, refl, sym, ap, ◌∙◌, subst, arith, codes, true≢false}
use Rattle.std.specs.Prelude.{◌==◌}
use Rattle.json_prune.proofs.NameLemmas.{names_within}
use Rattle.json_span.specs.Value.{Value, flat, depth, StandsFor, Compacts}
use Rattle.json_prune.specs.Kept.{LeavesOut, LeavesManaged, kept, Keeps}
use Rattle.json_prune.specs.Mend.{mend, mended}
use Rattle.json_prune.specs.Names.{names, names_from}
use Rattle.json_prune.specs.Prune.{Path, prune, own_fields, fields_of_items, rows_pruned, managed}
use Rattle.json_prune.specs.Tokens.{HasTokens}
use Rattle.json_prune.specs.Walk.{prune_both}
use Rattle.json_prune.proofs.PieceLemmas.{mended_text, mended_tokens, mended_depth, mended_length, mended_again}
use Rattle.json_prune.proofs.PruneLemmas.{prune_tokens, prune_depth, prune_shorter}
use Rattle.json_prune.proofs.TableLemmas.{rows_tokens, rows_depth, rows_shorter}
use Rattle.json_prune.proofs.TokenLemmas.{has_tokens, tokens_stand}

managed_tokens : (v : Value) → HasTokens v → HasTokens (managed v)
unfolding managed
managed_tokens v h =
    prune_tokens fields_of_items (prune own_fields (rows_pruned v)) (prune_tokens own_fields (rows_pruned v) (rows_tokens v h))

managed_depth : (v : Value) → depth (managed v) ≤ depth v
unfolding managed
managed_depth v =
    let rows = rows_depth v in
    let one = prune_depth own_fields (rows_pruned v) in
    let two = prune_depth fields_of_items (prune own_fields (rows_pruned v)) in
    omega arith

managed_shorter : (v : Value) → length (flat (managed v)) ≤ length (flat v)
unfolding managed
managed_shorter v =
    let rows = rows_shorter v in
    let one = prune_shorter own_fields (rows_pruned v) in
    let two = prune_shorter fields_of_items (prune own_fields (rows_pruned v)) in
    omega arith

left_tokens : (omit : Bool) (v : Value) → HasTokens v → HasTokens (cond omit (managed v) v)
left_tokens true v h = managed_tokens v h
left_tokens false v h = h

left_depth : (omit : Bool) (v : Value) → depth (cond omit (managed v) v) ≤ depth v
left_depth true v = managed_depth v
left_depth false v = omega arith

left_shorter : (omit : Bool) (v : Value) → length (flat (cond omit (managed v) v)) ≤ length (flat v)
left_shorter true v = managed_shorter v
left_shorter false v = omega arith

pub kept_depth : (omit : Bool) (v : Value) → depth (kept omit v) ≤ depth v
kept_depth omit v = let one = left_depth omit v in let two = mended_depth (cond omit (managed v) v) in omega arith

pub kept_shorter : (omit : Bool) (v : Value) → length (flat (kept omit v)) ≤ length (flat v)
kept_shorter omit v = let one = left_shorter omit v in let two = mended_length (cond omit (managed v) v) in omega arith

pub kept_stands : (omit : Bool) (text : List ℕ) (v : Value) → StandsFor text v → StandsFor (flat (kept omit v)) (kept omit v)
kept_stands omit text v h =
    let fits = kept_depth omit v in
    tokens_stand (kept omit v) (mended_tokens (cond omit (managed v) v) (left_tokens omit v (has_tokens text v h))) (omega (arith, fits, h.1))

pub pruned_stands : (path : Path) (text : List ℕ) (v : Value) → StandsFor text v → StandsFor (flat (prune path v)) (prune path v)
pruned_stands path text v h =
    let fits = prune_depth path v in tokens_stand (prune path v) (prune_tokens path v (has_tokens text v h)) (omega (arith, fits, h.1))

pub mended_settles : (text : List ℕ) (v : Value) → StandsFor text v → mended (mended v) ≡ mended v
mended_settles text v h = mended_again v (has_tokens text v h)

pub one_kept_of : ((text : List ℕ) (v w : Value) → StandsFor text v → StandsFor text w → v ≡ w) → (omit : Bool) (body these those : List ℕ) → Keeps omit these body → Keeps omit those body → these ≡ those
one_kept_of one omit body these those h k = h.2 ∙ (ap (λ v. flat (kept omit v)) (one body h.0 k.0 h.1 k.1) ∙ sym k.2)

-- ---- the calls

-- what is left is mended
pub mended_keeps : (omit : Bool) (text out new : List ℕ) → LeavesManaged omit out text → new ≡ mend out → Keeps omit new text
mended_keeps omit text out new h e = (h.0, h.1, e ∙ (ap mend h.2 ∙ mended_text (cond omit (managed h.0) h.0) (left_tokens omit h.0 (has_tokens text h.0 h.1))))

names_all : (path : List ℕ) → ¬ (path ≡ []) → names_from path 0 ≡ names path
names_all [] h = absurd (h refl)
names_all (b ∷ bs) h = names_within (b ∷ bs) 0 (omega arith)

some_bytes : (bytes : List ℕ) (empty : Bool) → empty ≡ (length bytes == 0) → empty ≡ false → ¬ (bytes ≡ [])
some_bytes bytes empty is e none = let test : (length bytes == 0) ≡ true = ap (λ l. length l == 0) none in true≢false (sym test ∙ (sym is ∙ e))

pub leaves_out : (text whole seen path bytes out : List ℕ) (none : ℕ) (empty : Bool) → Compacts whole text → seen ≡ whole → bytes ≡ path → empty ≡ (length bytes == 0) → empty ≡ false → names_from bytes none ≡ [] →
    ((v : Value) → seen ≡ flat v → HasTokens v → out ≡ flat (prune_both (names_from bytes 0) (names_from bytes none) v)) → LeavesOut (names path) out text
leaves_out text whole seen path bytes out none empty c same is test e no_second f = (
  c.0,
  c.1,
  f c.0 (same ∙ c.2) (has_tokens text c.0 c.1)
      ∙ (ap (λ q. flat (prune_both (names_from bytes 0) q c.0)) no_second
      ∙ (ap (λ p. flat (prune p c.0)) (names_all bytes (some_bytes bytes empty test e)) ∙ ap (λ p. flat (prune (names p) c.0)) is)),
)

pub leaves_managed : (text whole rows seen path out : List ℕ) → Compacts whole text
    → ((v : Value) → StandsFor whole v → whole ≡ flat v → rows ≡ flat (rows_pruned v)) → seen ≡ rows → path ≡ codes "items/*/metadata/managedFields" →
    ((v : Value) → seen ≡ flat v → HasTokens v → out ≡ flat (prune_both (names_from path 8) (names_from path 0) v)) → LeavesManaged true out text
unfolding managed
leaves_managed text whole rows seen path out c left same e f =
    let has = has_tokens text c.0 c.1 in
    let stands = subst (λ t. StandsFor t c.0) (sym c.2) (tokens_stand c.0 has c.1.1) in (
      c.0,
      c.1,
      f (rows_pruned c.0) (same ∙ left c.0 stands c.2) (rows_tokens c.0 has)
          ∙ ap (λ p. flat (prune_both (names_from p 8) (names_from p 0) (rows_pruned c.0))) e,
    )
