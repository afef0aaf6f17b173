use Rattle.std.proofs.Common.{[], ◌∷◌, ◌++◌, ◌∙◌, ap, codes, decimal, length}
use Rattle.forward_link.specs.Client.{close_header}
use Rattle.http_head.specs.Written.{named, header_lines, status_line}
use Rattle.local_replies.specs.Content.{media_type}
use Rattle.exchange_replies.specs.Own.{id_header, own_head_text}
use Rattle.exchange_replies.proofs.HeadLemmas.{head_text}
use Rattle.exchange_replies.proofs.own.own_head.Goals as goal

pub returns : goal.returns
unfolding own_head_text
returns c =
    let reply = c.args.reply.now in
    head_text (status_line reply.status) (codes "\r\n") c.new-out.result.items c.push_status_line.new.out.items
    c.push_header.new.out.items c.push_id.new.out.items c.push_length.new.out.items c.push_close.new.out.items c.push_end.new.out.items
    (named (codes "Content-Type") (media_type reply.content)) (named (codes "Content-Length") (decimal (length reply.body)))
    (id_header c.args.id) (close_header c.args.closing)
    c.new-out.ensures.items
    c.in_ok-push_status_line.ensures
    (c.in_ok-push_header.ensures
    ∙ ap (λ v. c.push_status_line.new.out.items ++ header_lines (named (codes "Content-Type") v ∷ []))
    (c.as_bytes.ensures.value ∙ c.media_type.ensures))
    c.in_ok-push_id.ensures
    (c.in_ok-push_length.ensures
    ∙ ap (λ n. c.push_id.new.out.items ++ header_lines (named (codes "Content-Length") (decimal n) ∷ []))
    (ap length c.as_slice.ensures))
    c.in_ok-push_close.ensures
    c.in_ok-push_end.ensures
