use Rattle.std.proofs.Common.{vec_len, ◌≡◌, ◌<◌, ◌≤◌, ◌++◌, ◌∷◌, [], arith, length, length-append, ap, ◌∙◌, sym, List, true, false, subst}
use Rattle.front_base.specs.Line.{Line}
use Rattle.truncate_backend.specs.Tries.{bytes_of}
use Rattle.batch_backend.specs.declared.pumped.Pumped.TheVariants.{Took}
use Rattle.batch_backend.specs.Batches.{Drained, is_over, is_whole, since_of}
use Rattle.batch_backend.specs.Pumps.{Takes, Put}
use Rattle.batch_backend.proofs.AddLemmas.{bytes-more, part-whole, whole-lines, whole-bytes, takes-more, takes-whole, since-empty, since-some, empty-len, some-len, same-drained}
use Rattle.batch_backend.proofs.drainer.Drainer.add.Goals as goal
use Rattle.batch_backend.proofs.drainer.Drainer.add.Goals.{then-is_empty, else-is_empty, else-len-self-via-then-len-self+else-bytes-self, else-len-self-via-else-len-self}

pub returns-then-bytes-self : goal.returns-then-bytes-self
returns-then-bytes-self g c =
    let i = c.self.inside in
    let v : Drained = record { limits = i.limits; pending = record { lines = i.pending.items; since = i.since } } in
    let s = g.S.BatchSink.tells c.args.sink.now in
    let n = ap length c.as_slice.ensures ∙ ap (λ (l : Line). length l.bytes) c.line.view_is in
    let e = c.push_reserved.ensures.items in
    let b = bytes-more c.bytes_join.ensures i.pending.items c.args.line in
    let l = length-append i.pending.items (c.args.line ∷ []) in
    let k = ap length e in
    let inv = c.self.invariant in
    let over : is_over i.limits v.pending c.args.line ≡ false = subst (λ (k : Drained). is_over k.limits k.pending c.args.line ≡ false) (sym c.self.view_is) c.requires in
    let since : c.if-is_empty.since ≡ since_of c.args.now v.pending = elim c.if-is_empty.branch [ then-is_empty w ↦ (let y : vec_len i.pending ≡ 0 = empty-len c.is_empty.result (vec_len i.pending) c.is_empty.ensures w.if-is_empty.true in w.since-is ∙ since-empty c.args.now i.since i.pending.items (omega arith)) | else-is_empty w ↦ (let y : 0 < vec_len i.pending = some-len c.is_empty.result (vec_len i.pending) c.is_empty.ensures w.if-is_empty.false in w.since-is ∙ since-some c.args.now i.since i.pending.items (omega arith)) ] in
    subst (λ (d : Drained). Takes d c.args.now c.args.line s Took (record { limits = i.limits; pending = record { lines = c.push_reserved.new.self.items; since = c.if-is_empty.since } }) s) c.self.view_is
    (takes-more v _ c.args.now c.args.line s over (part-whole i.limits (i.pending.items ++ c.args.line ∷ []) (omega arith) (omega arith)) (same-drained i.limits _ _ _ _ e since))

pub returns : goal.returns
returns g c =
    let i = c.self.inside in
    let v : Drained = record { limits = i.limits; pending = record { lines = i.pending.items; since = i.since } } in
    let s = g.S.BatchSink.tells c.args.sink.now in
    let t = g.S.BatchSink.tells c.put_all.new.sink in
    let n = ap length c.as_slice.ensures ∙ ap (λ (l : Line). length l.bytes) c.line.view_is in
    let e = c.push_reserved.ensures.items in
    let b = bytes-more c.bytes_join.ensures i.pending.items c.args.line in
    let l = length-append i.pending.items (c.args.line ∷ []) in
    let k = ap length e in
    let inv = c.self.invariant in
    let over : is_over i.limits v.pending c.args.line ≡ false = subst (λ (k : Drained). is_over k.limits k.pending c.args.line ≡ false) (sym c.self.view_is) c.requires in
    let since : c.if-is_empty.since ≡ since_of c.args.now v.pending = elim c.if-is_empty.branch [ then-is_empty w ↦ (let y : vec_len i.pending ≡ 0 = empty-len c.is_empty.result (vec_len i.pending) c.is_empty.ensures w.if-is_empty.true in w.since-is ∙ since-empty c.args.now i.since i.pending.items (omega arith)) | else-is_empty w ↦ (let y : 0 < vec_len i.pending = some-len c.is_empty.result (vec_len i.pending) c.is_empty.ensures w.if-is_empty.false in w.since-is ∙ since-some c.args.now i.since i.pending.items (omega arith)) ] in
    let whole : is_whole i.limits (i.pending.items ++ c.args.line ∷ []) ≡ true = elim c.else-len-self.branch [ else-len-self-via-then-len-self+else-bytes-self w ↦ (let q = w.if-bytes-self.false in whole-bytes i.limits _ (omega arith)) | else-len-self-via-else-len-self w ↦ (let q = w.if-len-self.false in whole-lines i.limits _ (omega arith)) ] in
    subst (λ (d : Drained). Takes d c.args.now c.args.line s c.put_all.result (record { limits = i.limits; pending = record { lines = c.put_all.new.lines.items; since = c.if-is_empty.since } }) t) c.self.view_is
    (takes-whole c.bytes_join.ensures v _ c.args.now c.args.line s t c.put_all.result over whole (omega arith) (same-drained i.limits _ _ _ _ c.put_all.ensures.none since) (subst (λ (l : List Line). Put s l c.put_all.result t) e c.put_all.ensures.put))

pub invariant_of-self : goal.invariant_of-self
invariant_of-self g c =
    let v = c.self.invariant in
    let w : length c.line.inside.bytes ≤ 4194304 = c.line.invariant in
    let z = ap length c.as_slice.ensures in
    let n = ap length c.as_slice.ensures ∙ ap (λ (l : Line). length l.bytes) c.line.view_is in
    let e = c.push_reserved.ensures.items in
    let b = ap bytes_of e ∙ bytes-more c.bytes_join.ensures c.self.inside.pending.items c.args.line in
    let l = ap length e ∙ length-append c.self.inside.pending.items (c.args.line ∷ []) in
    (omega arith, omega arith, (λ h. omega arith), omega arith, omega arith, omega arith)
