-- What a head of a reply is to its reader (RFC 9110, section 15; RFC 9112, section 6.3).
use Rattle.std.specs.Prelude.{ℕ, ◌==◌, ◌||◌, not, ◌&&◌, nat_lt, Bool, true, false, if◌then◌else◌, Option, None, Some}
use Rattle.body_frames.specs.declared.frame.Frame.{Frame}
use Rattle.body_frames.specs.declared.frame.Frame.TheVariants.{NoBody, Length, Chunked, Close}
use Rattle.http_head.specs.Framing.{framing}
use Rattle.http_head.specs.declared.body.Framing.{Framing}
use Rattle.http_head.specs.declared.body.Framing.TheVariants as framing_case
use Rattle.http_head.specs.declared.reply.ReplyHead.{ReplyHead}
use Rattle.forward_link.specs.declared.kind.TheConstants.{MOST_WHOLE_BYTES}
use Rattle.forward_link.specs.declared.kind.HeadKind.{HeadKind}
use Rattle.forward_link.specs.declared.kind.HeadKind.TheVariants.{Interim, Refused, Final}

-- the frame of a reply's body, or none where its head can be taken in two ways. Where no length is said, it ends with the
-- link
abbrev pub frame_by : Framing → Option Frame
frame_by framing_case.NoBody = Some Close
frame_by (framing_case.Length size) = Some (Length size)
frame_by framing_case.Chunked = Some Chunked
frame_by framing_case.Bad = None

-- replies to HEAD, 204 and 304 have no body, whatever their headers say
abbrev pub is_bare : Bool → ℕ → Bool
is_bare is_head status = is_head || (status == 204 || status == 304)

abbrev pub final_kind : Bool → Option Frame → HeadKind
final_kind bare None = Refused
final_kind bare (Some frame) = Final (if bare then NoBody else frame)

-- a status below 100, 101 (which switches protocols) and one above 999 are refused, and the rest below 200 is interim
abbrev pub kind_of : Bool → ReplyHead → HeadKind
kind_of is_head head =
    if nat_lt head.status 100 || (head.status == 101 || nat_lt 999 head.status) then Refused
    else if nat_lt head.status 200 then Interim
    else final_kind (is_bare is_head head.status) (frame_by (framing head.headers head.minor))

-- how many bytes a body has that is read whole: none, or a length within the limit, where the request isn't long-running
abbrev pub whole_size : Bool → Frame → Option ℕ
whole_size streamed NoBody = if streamed then None else Some 0
whole_size streamed (Length size) = if streamed || nat_lt MOST_WHOLE_BYTES size then None else Some size
whole_size streamed _ = None

-- the frame of a reply that is whole, whose body has so many bytes
abbrev pub whole_frame : Bool → ℕ → ℕ → Frame
whole_frame is_head status size = if is_bare is_head status then NoBody else Length size
