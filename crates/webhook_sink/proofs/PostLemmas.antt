-- The head of a post is what stands before its length, the length, and what stands after it.
use Rattle.std.proofs.Common.{◌≡◌, ℕ, List, [], ◌++◌, length, sym, ap, ◌∙◌, append_assoc, append-nil, codes, decimal}
use Rattle.front_base.specs.Line.{Line}
use Rattle.http_head.specs.Written.{line, header_lines, request_line}
use Rattle.webhook_sink.specs.Lists.{list_text}
use Rattle.webhook_sink.specs.Posts.{host_header, type_header, post_head, post_text, post_from, before_length, after_length}
use Rattle.webhook_sink.specs.declared.hook_url.HookUrl.{HookUrl}

regroup : (r a b k n x e : List ℕ) → r ++ ((a ++ (b ++ ((k ++ (n ++ e)) ++ (x ++ [])))) ++ e) ≡ (((r ++ (a ++ [])) ++ (b ++ [])) ++ k) ++ (n ++ (e ++ (x ++ e)))
regroup r a b k n x e = simp (append_assoc, append-nil)

split_head : (hook : HookUrl) (n : ℕ) → post_head hook n ≡ before_length hook ++ (decimal n ++ after_length)
unfolding post_head before_length after_length header_lines line
split_head hook n =
    regroup (request_line (codes "POST") hook.target) (line (host_header hook)) (line type_header) (codes "Content-Length: ")
    (decimal n) (codes "Connection: close\r\n") (codes "\r\n")

pub post-is : (hook : HookUrl) (before : List ℕ) (lines : List Line) → before ≡ before_length hook → post_from before lines ≡ post_text hook lines
unfolding post_text
post-is hook before lines e =
    ap (λ z. post_from z lines) e ∙ ap (λ z. z ++ list_text lines) (sym (split_head hook (length (list_text lines))))
