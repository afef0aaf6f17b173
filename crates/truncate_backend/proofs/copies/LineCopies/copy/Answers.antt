use Rattle.std.proofs.Common.{◌≡◌, ◌∷◌, [], length, arith, subst, sym, ap, ◌∙◌, true, refl, ℕ, List}
use Rattle.front_base.specs.Line.{Line}
use Rattle.truncate_backend.specs.Copies.{Copies, copies_fit, lengths_of}
use Rattle.truncate_backend.proofs.CopyLemmas.{room_for, one_more, lengths_more}
use Rattle.truncate_backend.proofs.copies.LineCopies.copy.Goals as goal

pub push_reserved-requires : goal.push_reserved-requires
push_reserved-requires c =
    let i = c.self.inside in
    let v = c.self.invariant in
    let f = subst (λ (k : Copies). copies_fit k (c.args.line.now ∷ []) ≡ true) (sym c.self.view_is) c.requires in
    let r = room_for i.entries.items i.bytes.items i.most_lines i.most_bytes (c.args.line.now ∷ []) v.0 f in
    let a = r.0 in
    omega arith

pub unreachable-requires : goal.unreachable-requires
unreachable-requires c =
    let i = c.self.inside in
    let v = c.self.invariant in
    let f = subst (λ (k : Copies). copies_fit k (c.args.line.now ∷ []) ≡ true) (sym c.self.view_is) c.requires in
    let r = room_for i.entries.items i.bytes.items i.most_lines i.most_bytes (c.args.line.now ∷ []) v.0 f in
    let a = r.1 in
    let n = ap length c.as_slice-bytes.ensures ∙ ap (λ (l : Line). length l.bytes) c.line.view_is in
    let full = c.in-Err.ensures.full in
    omega arith

pub invariant_of-self : goal.invariant_of-self
invariant_of-self c =
    let i = c.self.inside in
    let v = c.self.invariant in
    let f = subst (λ (k : Copies). copies_fit k (c.args.line.now ∷ []) ≡ true) (sym c.self.view_is) c.requires in
    let r = room_for i.entries.items i.bytes.items i.most_lines i.most_bytes (c.args.line.now ∷ []) v.0 f in
    let a = r.0 in
    let b = r.1 in
    let n = ap length c.as_slice-bytes.ensures ∙ ap (λ (l : Line). length l.bytes) c.line.view_is in
    let e = c.in-Ok.ensures in
    let m = lengths_more i.entries.items (record { bay = c.line.inside.bay; number = c.line.inside.number; length = length c.as_slice-bytes.result.now }) in
    let p = ap lengths_of c.push_reserved.ensures.items in
    (omega arith, omega arith, omega arith, omega arith, omega arith)

pub returns : goal.returns
returns c =
    let i = c.self.inside in
    let v = c.self.invariant in
    let e = c.in-Ok.ensures in
    one_more i.entries.items c.push_reserved.new.self.items i.bytes.items c.extend_from_slice.new.self.items c.as_slice-bytes.result.now
    (record { bay = c.line.inside.bay; number = c.line.inside.number; length = length c.as_slice-bytes.result.now })
    c.args.self.now c.args.line.now i.most_lines i.most_bytes c.self.view_is v.0 refl
    (ap (λ (b : List ℕ). record { bay = c.line.inside.bay; number = c.line.inside.number; bytes = b }) c.as_slice-bytes.ensures ∙ c.line.view_is)
    c.push_reserved.ensures.items e.items
