use Rattle.std.proofs.Common.{◌≡◌, false, arith, List, [], ◌∷◌, length, refl, ap, ◌∙◌}
use Rattle.std.proofs.lemmas.Bool.Decides.{nat_tests}
use Rattle.std.specs.Prelude.{◌==◌, not}
use Rattle.serde_json.specs.View.{items_view}
use Rattle.serde_json.specs.declared.value.Value.{Value}
use Rattle.write_bodies.specs.Deletion.{is_filled}
use Rattle.write_bodies.proofs.deletion.is_filled.Goals as goal

filled : (items : List Value) → not (length items == 0) ≡ is_filled (items_view items)
filled [] = refl
filled (item ∷ rest) = let some : (length (item ∷ rest) == 0) ≡ false = grind (arith, nat_tests) in ap not some

pub returns : goal.returns
returns c =
    let items = c.args.items.now in
    ap not (c.is_empty.ensures ∙ ap (λ n. n == 0) items.ok.0) ∙ filled items.items
