-- Whether a block is a head.
use Rattle.std.proofs.Common.{ℕ, ◌⊎◌, inl, inr, List, [], ◌∷◌}
use Rattle.httparse.specs.Grammar.{RequestHead, ReadsRequest, ResponseHead, ReadsResponse}
use Rattle.httparse.specs.Pieces.{Then, RequestStart, ResponseStart, Section}
use Rattle.httparse.proofs.PieceLemmas.{RequestStart_deterministic, ResponseStart_deterministic}
use Rattle.httparse.proofs.GrammarLemmas.{request_head, request_tree, request_pieces, request_from_pieces, request_unique, response_head, response_pieces, response_from_pieces, response_unique}
use Rattle.request_lists.proofs.PieceLemmas.{Decided, then_decides}
use Rattle.request_lists.proofs.SectionLemmas.{section_decides}
use Rattle.request_lists.proofs.StartLineLemmas.{request_line_decides, status_line_decides}

abbrev DecidedRequest : List ℕ → Type 0
DecidedRequest block = ((h : RequestHead) × ReadsRequest block h []) ⊎ ((h : RequestHead) → ReadsRequest block h [] → ⊥)

-- a head that ends before the block
request_ends : (block : List ℕ) (h : RequestHead) (rest : List ℕ) → ReadsRequest block h rest → DecidedRequest block
request_ends block h [] x = inl (h, x)
request_ends block h (b ∷ rest) x = inr (λ k y. let same = (request_unique block h k (b ∷ rest) [] x y).1 in absurd (cc same))

request_by : (block : List ℕ) → Decided (Then RequestStart Section) block → DecidedRequest block
request_by block (inl t) = request_ends block (request_head t.0) t.1 (request_from_pieces block t.0 t.1 t.2)
request_by block (inr none) = inr (λ h x. none (request_tree h, [], request_pieces block h [] x))

pub request_decides : (block : List ℕ) → DecidedRequest block
request_decides block = request_by block (then_decides RequestStart Section RequestStart_deterministic request_line_decides section_decides block)

abbrev DecidedReply : List ℕ → Type 0
DecidedReply block = ((h : ResponseHead) × ReadsResponse block h []) ⊎ ((h : ResponseHead) → ReadsResponse block h [] → ⊥)

reply_ends : (block : List ℕ) (h : ResponseHead) (rest : List ℕ) → ReadsResponse block h rest → DecidedReply block
reply_ends block h [] x = inl (h, x)
reply_ends block h (b ∷ rest) x = inr (λ k y. let same = (response_unique block h k (b ∷ rest) [] x y).1 in absurd (cc same))

reply_by : (block : List ℕ) → Decided (Then ResponseStart Section) block → DecidedReply block
reply_by block (inl t) = reply_ends block (response_head t.0) t.1 (response_from_pieces block t.0 t.1 t.2)
reply_by block (inr none) = inr (λ h x. let p = response_pieces block h [] x in none (p.0, [], p.2))

pub reply_decides : (block : List ℕ) → DecidedReply block
reply_decides block = reply_by block (then_decides ResponseStart Section ResponseStart_deterministic status_line_decides section_decides block)
