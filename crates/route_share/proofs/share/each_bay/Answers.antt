use Rattle.std.proofs.Common.{◌≡◌, ◌+◌, ◌∷◌, ◌++◌, [], ℕ, List, length, ap, sym, subst, ◌∙◌, arith}
use Rattle.std.proofs.lemmas.List.{length_push}
use Rattle.shared_routes.specs.Shared.{Shared, IsNew, AreNew}
use Rattle.route_share.proofs.NewLemmas.{new_push}
use Rattle.route_share.proofs.share.each_bay.Goals as goal

pub loop-preserved : goal.loop-preserved
loop-preserved g c =
    let before : List Shared = c.loop.all.items in
    let one : Shared = c.in_ok-one_bay.field-0 in
    let items = c.in_ok-push.ensures.items in
    let i = c.loop.invariant in
    let number : c.len-bay.result ≡ 0 + length before = omega (arith, c.len-bay.ensures) in
    let new = subst (λ (k : ℕ). IsNew g.P.Prefix.home g.P.Prefix.opening k one) number c.in_ok-one_bay.ensures in
    let more : length (before ++ one ∷ []) ≡ c.loop.counter + 1 = omega (arith, i.count, length_push before one) in
    record {
      room = omega (arith, c.loop-test.true);
      count = ap (λ (l : List Shared). length l) items ∙ more;
      fresh = subst (λ (l : List Shared). AreNew g.P.Prefix.home g.P.Prefix.opening 0 l) (sym {A = List Shared} items)
          (new_push g.P.Prefix.home g.P.Prefix.opening 0 before one i.fresh new);
      parts = omega (arith, i.parts, c.split_off-share.ensures.parts_left);
      none = omega (arith, i.none, c.split_off-share.ensures.amount_left);
    }
