use Rattle.std.proofs.Common.{refl}
use Rattle.webhook_sink.specs.Posts.{before_length}
use Rattle.webhook_sink.proofs.post.before_length.Goals as goal

pub returns : goal.returns
unfolding before_length
returns c =
    rw (c.new.ensures, c.in_ok-extend_from_slice.ensures.items, c.in_ok-push_header-2.ensures, c.in_ok-push_header.ensures, c.in_ok-push_request_line.ensures, c.new-text.ensures.items, c.as_bytes.ensures.value, c.in_ok-host.ensures, c.as_str.ensures) refl
