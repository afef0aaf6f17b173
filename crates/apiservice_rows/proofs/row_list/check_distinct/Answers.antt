use Rattle.std.proofs.Common.{◌≡◌, ℕ, ◌+◌, ◌<◌, ◌≤◌, arith, length, get_or, true, false, cond, List, [], ◌∷◌, ◌++◌, take, drop, Some, Bor, sym, ap, subst, ◌∙◌}
use Rattle.std.proofs.lemmas.List.{drop_more, drop_all, take_more, length-map, length-take-le}
use Rattle.std.proofs.lemmas.Map.Text.{is_eq-slice_cmp}
use Rattle.std.specs.BTreeSet.{contains}
use Rattle.std.specs.Cmp.Lexicographic.{slice_cmp}
use Rattle.std.specs.Ordering.{nat_cmp}
use Rattle.std.specs.Str.{bytes_eq}
use Rattle.std.specs.declared.cmp.Ordering.{Ordering}
use Rattle.json_value.specs.Results.{fault_of}
use Rattle.apiservice_rows.specs.Fault.{Fails}
use Rattle.apiservice_rows.specs.Row.{Row}
use Rattle.apiservice_rows.specs.RowList.{is_among, names_of, repeated, distinct}
use Rattle.apiservice_rows.specs.declared.fault.RowFault.{RowFault}
use Rattle.apiservice_rows.specs.declared.fault.RowFault.TheVariants.{Repeated}
use Rattle.apiservice_rows.proofs.NameLemmas.{among-push, names-push, repeated_more, repeated_here, repeated_end, distinct_stops, distinct_ends, from_not, to_not}
use Rattle.apiservice_rows.proofs.row_list.check_distinct.Goals as goal

abbrev by_text : Bor (List ℕ) → Bor (List ℕ) → Ordering
by_text x y = slice_cmp nat_cmp x.now y.now

-- the rows from the i-th on are that one and those after it
here : (rows : List Row) (i : ℕ) (x : Row) → i < length rows → x ≡ get_or rows i x → drop i rows ≡ x ∷ drop (i + 1) rows
here rows i x lt is = drop_more rows i x lt ∙ ap (λ y. y ∷ drop (i + 1) rows) (sym is)

-- the names up to it are those before and its own
names_upto : (rows : List Row) (i : ℕ) (x : Row) → i < length rows → x ≡ get_or rows i x
    → names_of (take (i + 1) rows) ≡ names_of (take i rows) ++ x.name ∷ []
names_upto rows i x lt is =
    ap names_of (take_more rows i x lt ∙ ap (λ y. take i rows ++ y ∷ []) (sym is)) ∙ names-push (take i rows) x

stops : (f due : RowFault) (names : List (List ℕ)) → Fails f (Some due) → repeated [] names ≡ Some due
    → Fails f (fault_of (distinct names))
stops f due names fails is = subst (λ own. Fails f own) (sym (distinct_stops names due is)) fails

-- so many names stand before the i-th
count : (rows : List Row) (i : ℕ) → i ≤ length rows → length (names_of (take i rows)) ≡ i
count rows i le = length-map (take i rows) (λ (r : Row). r.name) ∙ length-take-le i rows le

pub returns-then-not-branch : goal.returns-then-not-branch
returns-then-not-branch c =
    let rows = c.args.rows.now in
    let i = c.loop-place.place in
    let x = c.index-rows-place.result in
    let before = names_of (take i rows) in
    let key : c.as_str.result.now ≡ x.name = c.as_str.ensures ∙ ap (λ (r : Row). r.name) c.row.view_is in
    let is : drop i rows ≡ x ∷ drop (i + 1) rows = here rows i x c.loop-place-test.true c.index-rows-place.is in
    let old = from_not _ (sym c.in_ok-insert.ensures.added ∙ c.if-not-branch.true) in
    let among : is_among x.name before ≡ true =
    ap (λ q. is_among q before) (sym key) ∙ sym (c.loop-place.invariant.held c.as_str.result) ∙ old in
    let first : repeated before (names_of (drop i rows)) ≡ Some (Repeated i x.name) =
    ap (λ ys. repeated before (names_of ys)) is ∙ repeated_here before x.name (names_of (drop (i + 1) rows)) among
    ∙ ap (λ n. Some (Repeated n x.name)) (count rows i (omega (arith, c.loop-place-test.true))) in
    let again : c.as_str-then-not-branch.result.now ≡ x.name =
    c.as_str-then-not-branch.ensures ∙ ap (λ (r : Row). r.name) c.row.view_is in
    stops c.repeated.result (Repeated i x.name) (names_of rows) (rw again at c.repeated.ensures) (sym c.loop-place.invariant.rest ∙ first)

pub loop-place-preserved : goal.loop-place-preserved
loop-place-preserved c =
    let rows = c.args.rows.now in
    let i = c.loop-place.place in
    let x = c.index-rows-place.result in
    let before = names_of (take i rows) in
    let key : c.as_str.result.now ≡ x.name = c.as_str.ensures ∙ ap (λ (r : Row). r.name) c.row.view_is in
    let is : drop i rows ≡ x ∷ drop (i + 1) rows = here rows i x c.loop-place-test.true c.index-rows-place.is in
    let upto : names_of (take (i + 1) rows) ≡ before ++ x.name ∷ [] = names_upto rows i x c.loop-place-test.true c.index-rows-place.is in
    let new = to_not _ (sym c.in_ok-insert.ensures.added ∙ c.if-not-branch.false) in
    let among : is_among x.name before ≡ false =
    ap (λ q. is_among q before) (sym key) ∙ sym (c.loop-place.invariant.held c.as_str.result) ∙ new in
    record {
      held = λ (q : Bor (List ℕ)).
          c.in_ok-insert.ensures.updates.0 q
          ∙ ap (λ b. cond b true (contains by_text c.loop-place.names q)) (is_eq-slice_cmp c.as_str.result.now q.now ∙ ap (λ y. bytes_eq y q.now) key)
          ∙ ap (λ b. cond (bytes_eq x.name q.now) true b) (c.loop-place.invariant.held q)
          ∙ sym (among-push q.now x.name before)
          ∙ ap (λ ys. is_among q.now ys) (sym upto);
      rest =
          ap (λ ys. repeated ys (names_of (drop (i + 1) rows))) upto
          ∙ repeated_more before x.name (names_of (drop (i + 1) rows)) among
          ∙ ap (λ ys. repeated before (names_of ys)) (sym is)
          ∙ c.loop-place.invariant.rest;
    }

pub returns : goal.returns
returns c =
    let rows = c.args.rows.now in
    let i = c.loop-place.place in
    let none = drop_all i rows c.loop-place-test.false in
    distinct_ends (names_of rows)
    (sym c.loop-place.invariant.rest ∙ ap (λ ys. repeated (names_of (take i rows)) (names_of ys)) none ∙ repeated_end _)
