use Rattle.http_head.proofs.StreamLemmas.{block_in-within}
use Rattle.http_head.proofs.EmptyLineLemmas.{block_ends_first, first_ends_block}
use Rattle.http_head.proofs.block.heads_end_after_an_empty_line.Goals as goal

pub returns-clause-ends : goal.returns-clause-ends
returns-clause-ends c = λ bytes len e. block_ends_first bytes len (block_in-within bytes len e).1 e

pub returns-clause-found : goal.returns-clause-found
returns-clause-found c = λ bytes len e h. first_ends_block bytes len h e
