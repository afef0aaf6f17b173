use Rattle.std.proofs.Common.{◌≡◌, ℕ, sym, ap, inl, inr}
use Rattle.std.specs.Fmt.{digits}
use Rattle.http_head.specs.Written.{header_lines, line, phrase}
use Rattle.local_replies.specs.Status.{cause_of, status_text}
use Rattle.exchange_replies.specs.Own.{IsUnread, own_head_text, refusal_text}
use Rattle.exchange_replies.proofs.refusals.refusal_text.Goals as goal

-- the third code
only : (code : ℕ) → IsUnread code → (code ≡ 413 → ⊥) → (code ≡ 431 → ⊥) → code ≡ 400
only code (inl e) f g = e
only code (inr (inl e)) f g = absurd (f e)
only code (inr (inr e)) f g = absurd (g e)

pub returns-then-code-eq413 : goal.returns-then-code-eq413
unfolding own_head_text header_lines line phrase cause_of status_text digits
returns-then-code-eq413 c = ap refusal_text (sym c.if-code-eq413.true)

pub returns-then-code-eq431 : goal.returns-then-code-eq431
unfolding own_head_text header_lines line phrase cause_of status_text digits
returns-then-code-eq431 c = ap refusal_text (sym c.if-code-eq431.true)

pub returns-else-code-eq431 : goal.returns-else-code-eq431
unfolding own_head_text header_lines line phrase cause_of status_text digits
returns-else-code-eq431 c = ap refusal_text (sym (only c.args.code c.requires c.if-code-eq413.false c.if-code-eq431.false))
