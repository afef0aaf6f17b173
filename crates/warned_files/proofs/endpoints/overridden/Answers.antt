use Rattle.std.proofs.Common.{◌≡◌, ℕ, ◌-◌, arith, true, false, cond, List, [], ◌∷◌, ◌++◌, drop, reverse, Bor, sym, ap, ◌∙◌}
use Rattle.std.proofs.lemmas.Map.Text.{is_eq-slice_cmp}
use Rattle.std.specs.BTreeSet.{contains}
use Rattle.std.specs.Cmp.Lexicographic.{slice_cmp}
use Rattle.std.specs.Ordering.{nat_cmp}
use Rattle.std.specs.Str.{bytes_eq}
use Rattle.std.specs.declared.cmp.Ordering.{Ordering}
use Rattle.apiservice_rows.specs.RowList.{is_among}
use Rattle.warned_files.specs.Endpoints.{overridden}
use Rattle.warned_files.specs.Places.{record_place}
use Rattle.warned_files.proofs.KeyLemmas.{key_here, among_cons, again, once, from_not, to_not}
use Rattle.warned_files.proofs.endpoints.overridden.Goals as goal

abbrev by_text : Bor (List ℕ) → Bor (List ℕ) → Ordering
by_text x y = slice_cmp nat_cmp x.now y.now

pub loop-i-preserved-in_ok-push : goal.loop-i-preserved-in_ok-push
loop-i-preserved-in_ok-push c =
    let keys = c.args.keys.now in
    let i = c.loop-i.i in
    let x = c.index-keys-i.result in
    let rest = drop i keys in
    let inv = c.loop-i.invariant in
    let key : c.as_str.result.now ≡ x = c.as_str.ensures in
    let is : drop (i - 1) keys ≡ x ∷ rest = key_here keys i x c.loop-i-test.true inv.within c.index-keys-i.is in
    let old = from_not _ (sym c.in_ok-insert.ensures.added ∙ c.if-not-branch.true) in
    let among : is_among x rest ≡ true = ap (λ q. is_among q rest) (sym key) ∙ sym (inv.held c.as_str.result) ∙ old in
    record {
      held = λ (q : Bor (List ℕ)).
          c.in_ok-insert.ensures.updates.0 q
          ∙ ap (λ b. cond b true (contains by_text c.loop-i.later q)) (is_eq-slice_cmp c.as_str.result.now q.now ∙ ap (λ y. bytes_eq y q.now) key)
          ∙ ap (λ b. cond (bytes_eq x q.now) true b) (inv.held q)
          ∙ sym (among_cons q.now x rest)
          ∙ ap (is_among q.now) (sym is);
      within = omega (arith, inv.within);
      found =
          c.in_ok-push.ensures.items ∙ ap (λ l. l ++ c.in_ok-record_place.field-0 ∷ []) inv.found
          ∙ ap (λ p. reverse (overridden i rest) ++ p ∷ []) c.in_ok-record_place.ensures
          ∙ sym (again i x rest c.loop-i-test.true among) ∙ ap (λ l. reverse (overridden (i - 1) l)) (sym is);
    }

pub loop-i-preserved : goal.loop-i-preserved
loop-i-preserved c =
    let keys = c.args.keys.now in
    let i = c.loop-i.i in
    let x = c.index-keys-i.result in
    let rest = drop i keys in
    let inv = c.loop-i.invariant in
    let key : c.as_str.result.now ≡ x = c.as_str.ensures in
    let is : drop (i - 1) keys ≡ x ∷ rest = key_here keys i x c.loop-i-test.true inv.within c.index-keys-i.is in
    let new = to_not _ (sym c.in_ok-insert.ensures.added ∙ c.if-not-branch.false) in
    let among : is_among x rest ≡ false = ap (λ q. is_among q rest) (sym key) ∙ sym (inv.held c.as_str.result) ∙ new in
    record {
      held = λ (q : Bor (List ℕ)).
          c.in_ok-insert.ensures.updates.0 q
          ∙ ap (λ b. cond b true (contains by_text c.loop-i.later q)) (is_eq-slice_cmp c.as_str.result.now q.now ∙ ap (λ y. bytes_eq y q.now) key)
          ∙ ap (λ b. cond (bytes_eq x q.now) true b) (inv.held q)
          ∙ sym (among_cons q.now x rest)
          ∙ ap (is_among q.now) (sym is);
      within = omega (arith, inv.within);
      found = inv.found ∙ sym (once i x rest c.loop-i-test.true among) ∙ ap (λ l. reverse (overridden (i - 1) l)) (sym is);
    }
