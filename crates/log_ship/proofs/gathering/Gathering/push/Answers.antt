use Rattle.std.proofs.Common.{◌≡◌, ◌≤◌, ◌∷◌, [], true, arith, length, length-append, ap, ◌∙◌, sym, subst}
use Rattle.front_base.specs.Line.{Line}
use Rattle.truncate_backend.specs.Tries.{bytes_of}
use Rattle.batch_backend.specs.Batches.{IsBatch}
use Rattle.log_ship.specs.Cuts.{Gathered, could_take}
use Rattle.log_ship.proofs.CutLemmas.{as_batch, bytes_more, taken_within}
use Rattle.log_ship.proofs.gathering.Gathering.push.Goals as goal

pub push_reserved-requires : goal.push_reserved-requires
push_reserved-requires c =
    let i = c.self.inside in
    let v = c.self.invariant in
    let e : could_take i.limits i.lines.items (length c.args.line.bytes) ≡ true =
    subst (λ (k : Gathered). could_take k.limits k.lines (length c.args.line.bytes) ≡ true) (sym c.self.view_is) c.requires in
    let w = taken_within i.limits i.lines.items c.args.line v.2 e in
    let f = w.lines_fit in
    let n = length-append i.lines.items (c.args.line ∷ []) in
    omega (arith, v, f, n)

pub invariant_of-self : goal.invariant_of-self
invariant_of-self c =
    let i = c.self.inside in
    let v = c.self.invariant in
    let u : length c.line.inside.bytes ≤ 4194304 = c.line.invariant in
    let e : could_take i.limits i.lines.items (length c.args.line.bytes) ≡ true =
    subst (λ (k : Gathered). could_take k.limits k.lines (length c.args.line.bytes) ≡ true) (sym c.self.view_is) c.requires in
    let w = taken_within i.limits i.lines.items c.args.line v.2 e in
    let f = w.lines_fit in
    let z = ap length c.as_slice.ensures in
    let n = ap length c.as_slice.ensures ∙ ap (λ (l : Line). length l.bytes) c.line.view_is in
    let p = c.push_reserved.ensures.items in
    let b = ap bytes_of p ∙ bytes_more i.lines.items c.args.line in
    let k = length-append i.lines.items (c.args.line ∷ []) in
    let l = ap length p ∙ k in (
      omega (arith, v, n, b),
      subst (IsBatch i.limits) (sym p) (as_batch i.limits _ w),
      v.2,
      omega (arith, v),
      omega (arith, l, f, k),
      omega (arith, v, u, z, l),
      omega (arith, v),
    )
