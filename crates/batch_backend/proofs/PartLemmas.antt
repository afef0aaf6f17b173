-- No line is lost on the way or comes twice, and what waits stays within the limits.
use Rattle.std.proofs.Common.{◌≡◌, ◌<◌, ℕ, List, [], ◌∷◌, ◌++◌, length, append_assoc, refl, sym, ap, ◌∙◌, subst, arith, Bool, true, false, nat_le, ◌||◌, ◌&&◌, Some, None, Option, inl, inr, All, IfSome}
use Rattle.std.specs.Prelude.{if◌then◌else◌}
use Rattle.std.proofs.lemmas.Bool.{leb-false}
use Rattle.std.proofs.lemmas.List.Elements.{All-append, All-nil}
use Rattle.front_base.specs.Line.{Line}
use Rattle.truncate_backend.specs.Told.{Joined}
use Rattle.truncate_backend.specs.Tries.{Try, SinkTells, lines_of, bytes_of}
use Rattle.truncate_backend.specs.Outlets.{OutletTells}
use Rattle.batch_backend.specs.declared.limits.Limits.{Limits}
use Rattle.batch_backend.specs.declared.pumped.Pumped.{Pumped}
use Rattle.batch_backend.specs.Batches.{Pending, Move, Drained, WithinLimits, PendsWithin, is_over, is_whole, is_any, since_of, after_pop, add_line}
use Rattle.batch_backend.specs.Pumps.{PumpedAs, Moved, InParts, BatchParts}
use Rattle.batch_backend.proofs.TryLaws.{TryLaws}

kept : TryLaws → (a b : Option (List Try)) (c d : Option (List Line)) (ts : List Try) (xs before after : List Line)
    → Joined a ts b → Joined c xs d → lines_of ts ++ after ≡ before ++ xs → InParts a before c → InParts b after d
kept law a None c d ts xs before after g h e i = tt
kept law a (Some ys) c None ts xs before after g h e i = tt
kept law None (Some ys) c (Some zs) ts xs before after g h e i = let q = g.grows in cc
kept law (Some vs) (Some ys) None (Some zs) ts xs before after g h e i = let q = h.grows in cc
kept law (Some vs) (Some ys) (Some cs) (Some zs) ts xs before after g h e i =
    h.grows ∙ ap (λ z. z ++ xs) i ∙ append_assoc (lines_of vs) before xs ∙ ap (λ z. lines_of vs ++ z) (sym e)
    ∙ sym (append_assoc (lines_of vs) (lines_of ts) after) ∙ ap (λ z. z ++ after) (sym (law.lines vs ts))
    ∙ ap (λ z. lines_of z ++ after) (sym g.grows)

each_kept : (P : Try → Type 0) (a b : Option (List Try)) (ts : List Try) → Joined a ts b → All P ts → IfSome a (All P)
    → IfSome b (All P)
each_kept P a None ts g w h = tt
each_kept P None (Some ys) ts g w h = let q = g.grows in cc
each_kept P (Some vs) (Some ys) ts g w h = subst (All P) (sym g.grows) (All-append P vs ts h w)

pub parts-moved : TryLaws → (d e : Drained) (o n : OutletTells) (s t : SinkTells) (w l : ℕ) → Moved d o s w l e n t
    → (PendsWithin d.limits d.pending.lines → PendsWithin e.limits e.pending.lines)
    → BatchParts d s.tries o.taken → BatchParts e t.tries n.taken
parts-moved law d e o n s t w l m p b =
    record {
      joined = kept law s.tries t.tries o.taken n.taken m.tries m.popped d.pending.lines e.pending.lines
          m.joined m.taken m.all b.joined;
      each = subst (λ (z : Limits). IfSome t.tries (All (λ (t : Try). WithinLimits z t.lines))) (sym m.limits)
          (each_kept (λ (t : Try). WithinLimits d.limits t.lines) s.tries t.tries m.tries m.joined m.within b.each);
      pending = p b.pending;
    }

-- ---- what waits

pub none-pends : (limits : Limits) (lines : List Line) → PendsWithin limits lines → PendsWithin limits []
none-pends limits lines p = let a = p.lines_fit in record { lines_fit = omega arith; bytes_fit = λ h. omega arith }

or_false : (a b : Bool) → (a || b) ≡ false → (a ≡ false) × (b ≡ false)
or_false true b h = cc
or_false false b h = (refl, h)

not_whole : (limits : Limits) (lines : List Line) → is_whole limits lines ≡ false → PendsWithin limits lines
not_whole limits lines h =
    let o = or_false (nat_le limits.lines (length lines)) (nat_le limits.bytes (bytes_of lines)) h in
    let a = leb-false limits.lines (length lines) o.0 in
    let b = leb-false limits.bytes (bytes_of lines) o.1 in
    record { lines_fit = a; bytes_fit = λ k. omega arith }

abbrev whole_move : ℕ → Pending → Line → Move
whole_move now p x = record { put = p.lines ++ x ∷ []; left = record { lines = []; since = since_of now p } }

abbrev part_move : ℕ → Pending → Line → Move
part_move now p x = record { put = []; left = record { lines = p.lines ++ x ∷ []; since = since_of now p } }

abbrev alone_move : ℕ → Pending → Line → Move
alone_move now p x = record { put = p.lines; left = record { lines = x ∷ []; since = now } }

added_pends : (limits : Limits) (now : ℕ) (p : Pending) (x : Line) (b : Bool) → is_whole limits (p.lines ++ x ∷ []) ≡ b
    → PendsWithin limits p.lines → PendsWithin limits (if b then whole_move now p x else part_move now p x).left.lines
added_pends limits now p x true e h = none-pends limits p.lines h
added_pends limits now p x false e h = not_whole limits (p.lines ++ x ∷ []) e

and_first : (a b : Bool) → (a && b) ≡ true → a ≡ true
and_first true b h = refl
and_first false b h = cc

some_lines : (lines : List Line) → is_any lines ≡ true → 0 < length lines
some_lines [] h = cc
some_lines (l ∷ ls) h = omega arith

over_pends : (limits : Limits) (now : ℕ) (p : Pending) (x : Line) (b : Bool) → is_over limits p x ≡ b
    → PendsWithin limits p.lines → PendsWithin limits (if b then alone_move now p x else add_line limits now p x).left.lines
over_pends limits now p x true e h =
    let s = some_lines p.lines (and_first (is_any p.lines) _ e) in
    let f = h.lines_fit in
    record { lines_fit = omega arith; bytes_fit = λ k. omega arith }
over_pends limits now p x false e h = added_pends limits now p x (is_whole limits (p.lines ++ x ∷ [])) refl h

popped_pends : (limits : Limits) (now : ℕ) (p : Pending) (line : Option Line) → PendsWithin limits p.lines
    → PendsWithin limits (after_pop limits now p line).left.lines
popped_pends limits now p None h = h
popped_pends limits now p (Some x) h = over_pends limits now p x (is_over limits p x) refl h

pub pends-on : (d e : Drained) (now : ℕ) (o n : OutletTells) (s t : SinkTells) (answer : Pumped)
    → PumpedAs d now o s answer e n t → PendsWithin d.limits d.pending.lines → PendsWithin e.limits e.pending.lines
pends-on d e now o n s t answer (inl r) h =
    subst (λ (z : Limits). PendsWithin z e.pending.lines) (sym r.limits)
    (subst (λ (z : Pending). PendsWithin d.limits z.lines) (sym r.left) (none-pends d.limits d.pending.lines h))
pends-on d e now o n s t answer (inr r) h =
    subst (λ (z : Limits). PendsWithin z e.pending.lines) (sym r.limits)
    (subst (λ (z : Pending). PendsWithin d.limits z.lines) (sym r.left) (popped_pends d.limits now d.pending r.line h))

pub parts-new : (limits : Limits) → 0 < limits.lines
    → BatchParts (record { limits = limits; pending = record { lines = []; since = 0 } }) (Some []) (Some [])
parts-new limits h =
    record { joined = refl; each = All-nil (λ (t : Try). WithinLimits limits t.lines); pending = record { lines_fit = h; bytes_fit = λ k. omega arith } }
