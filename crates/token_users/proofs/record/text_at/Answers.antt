use Rattle.csv.specs.Records.{fields_of}
use Rattle.token_users.proofs.RecordLemmas.{text_found, text_refused}
use Rattle.token_users.proofs.record.text_at.Goals as goal

pub returns-in-Ok : goal.returns-in-Ok
returns-in-Ok c = text_found (fields_of c.args.row.now) c.args.i c.in_ok-get.field-0.now c.in-Ok.text.now c.in_ok-get.ensures.value c.in-Ok.ensures.cases.0 c.in-Ok.ensures.cases.1

pub returns-in-Err : goal.returns-in-Err
returns-in-Err c = text_refused (fields_of c.args.row.now) c.args.i c.in_ok-get.field-0.now c.in_ok-get.ensures.value c.in-Err.ensures.cases.0
