use Rattle.std.proofs.Common.{◌≡◌, ◌+◌, ◌∷◌, drop, map, sym, ap, ◌∙◌}
use Rattle.std.proofs.lemmas.List.{append-nil, drop_more, drop_all}
use Rattle.std.proofs.lemmas.Result.{err_from_is_err_and}
use Rattle.csv.specs.Records.{fields_of}
use Rattle.token_users.specs.File.{records_from}
use Rattle.token_users.proofs.FileLemmas.{with_records, records_more, records_end, fault_stops}
use Rattle.token_users.proofs.rows.records_of.Goals as goal

pub returns-in_err-record_of : goal.returns-in_err-record_of
returns-in_err-record_of c =
    let rows = c.args.rows.now in
    let i = c.loop-i.i in
    let row = c.index-rows-i.result in
    let p = err_from_is_err_and c.from_residual.result c.from_residual.ensures.1 in
    let here : drop i rows ≡ row ∷ drop (i + 1) rows = drop_more rows i row c.loop-i-test.true ∙ ap (λ y. y ∷ drop (i + 1) rows) (sym c.index-rows-i.is) in
    let invariant = ap (λ ys. with_records c.loop-i.records.items (records_from i (map fields_of ys))) (sym here) ∙ c.loop-i.invariant in
    rw (p.1, p.2) (fault_stops c.loop-i.records.items i (fields_of row) (map fields_of (drop (i + 1) rows)) _ c.in_err-record_of.field-0.0 c.in_err-record_of.ensures invariant)

pub loop-i-preserved : goal.loop-i-preserved
loop-i-preserved c =
    let rows = c.args.rows.now in
    let i = c.loop-i.i in
    let row = c.index-rows-i.result in
    let done = c.loop-i.records.items in
    let here : drop i rows ≡ row ∷ drop (i + 1) rows = drop_more rows i row c.loop-i-test.true ∙ ap (λ y. y ∷ drop (i + 1) rows) (sym c.index-rows-i.is) in
    let invariant = ap (λ ys. with_records done (records_from i (map fields_of ys))) (sym here) ∙ c.loop-i.invariant in
    records_more done c.add_record.new.records.items i (fields_of row) (map fields_of (drop (i + 1) rows)) c.in_ok-record_of.field-0 c.in_ok-record_of.ensures c.in_ok-add_record.ensures ∙ invariant

pub returns : goal.returns
returns c =
    sym c.loop-i.invariant ∙ rw (drop_all c.loop-i.i c.args.rows.now c.loop-i-test.false) (records_end c.loop-i.records.items c.loop-i.i ∙ simp append-nil)
