use Rattle.std.proofs.Common.{◌≡◌, ◌+◌, ◌∷◌, drop, map, sym, ap, ◌∙◌}
use Rattle.std.proofs.lemmas.List.{append-nil, drop_more, drop_all}
use Rattle.std.proofs.lemmas.Result.{err_from_is_err_and}
use Rattle.csv.specs.Records.{fields_of}
use Rattle.service_endpoints.specs.File.{records_from}
use Rattle.service_endpoints.proofs.FileLemmas.{with_records, records_more, records_end, fault_stops}
use Rattle.service_endpoints.proofs.FindLemmas.{short_more}
use Rattle.service_endpoints.proofs.rows.records_of.Goals as goal

pub returns-in_err-record_of-clause-value : goal.returns-in_err-record_of-clause-value
returns-in_err-record_of-clause-value c =
    let rows = c.args.rows.now in
    let i = c.loop-i.i in
    let row = c.index-rows-i.result in
    let p = err_from_is_err_and c.from_residual.result c.from_residual.ensures.1 in
    let here : drop i rows ≡ row ∷ drop (i + 1) rows = drop_more rows i row c.loop-i-test.true ∙ ap (λ y. y ∷ drop (i + 1) rows) (sym c.index-rows-i.is) in
    let invariant = ap (λ ys. with_records c.loop-i.records.items (records_from i (map fields_of ys))) (sym here) ∙ c.loop-i.invariant.value in
    rw (p.1, p.2) (fault_stops c.loop-i.records.items i (fields_of row) (map fields_of (drop (i + 1) rows)) _ c.in_err-record_of.field-0.0 c.in_err-record_of.ensures.value invariant)

pub loop-i-preserved : goal.loop-i-preserved
loop-i-preserved c =
    let rows = c.args.rows.now in
    let i = c.loop-i.i in
    let row = c.index-rows-i.result in
    let done = c.loop-i.records.items in
    let r = c.in_ok-record_of.field-0 in
    let here : drop i rows ≡ row ∷ drop (i + 1) rows = drop_more rows i row c.loop-i-test.true ∙ ap (λ y. y ∷ drop (i + 1) rows) (sym c.index-rows-i.is) in
    let invariant = ap (λ ys. with_records done (records_from i (map fields_of ys))) (sym here) ∙ c.loop-i.invariant.value in
    rw c.in_ok-push.ensures.items (record {
      value = records_more done i (fields_of row) (map fields_of (drop (i + 1) rows)) r c.in_ok-record_of.ensures.value ∙ invariant;
      short = short_more done r c.loop-i.invariant.short c.in_ok-record_of.ensures.short;
    })

pub returns-clause-value : goal.returns-clause-value
returns-clause-value c =
    sym c.loop-i.invariant.value ∙ rw (drop_all c.loop-i.i c.args.rows.now c.loop-i-test.false) (records_end c.loop-i.records.items c.loop-i.i ∙ simp append-nil)
