-- The media types of local replies (RFC 9110, section 8.3.1).
use Rattle.std.specs.Prelude.{ℕ, List, codes}
use Rattle.local_replies.specs.declared.reply.Content.{Content}
use Rattle.local_replies.specs.declared.reply.Content.TheVariants.{Json, Plain}

abbrev pub media_type : Content → List ℕ
media_type Json = codes "application/json"
media_type Plain = codes "text/plain"
