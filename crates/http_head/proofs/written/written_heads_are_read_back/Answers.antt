use Rattle.http_head.proofs.WrittenLemmas.{request_read_back, reply_read_back}
use Rattle.http_head.proofs.written.written_heads_are_read_back.Goals as goal

pub returns-clause-request : goal.returns-clause-request
returns-clause-request c = request_read_back

pub returns-clause-reply : goal.returns-clause-reply
returns-clause-reply c = reply_read_back
