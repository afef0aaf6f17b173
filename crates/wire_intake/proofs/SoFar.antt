-- What calls saw of an input, one after the other.
use Rattle.std.proofs.Common.{◌≡◌, ℕ, ◌≤◌, ◌⊎◌, ◌++◌, ◌-◌, List, [], ◌∷◌, length, take, drop, Option, Some, Bool}
use Rattle.std.proofs.Common.{true, false, refl, sym, ap, ◌∙◌, subst, arith, append_assoc, append-nil, inl, inr}
use Rattle.std.proofs.lemmas.List.{take-append-drop}
use Rattle.std.proofs.KnownBytes.{Consumes-nil, Consumes-trans}
use Rattle.front_ports.specs.Cause.{Rose}
use Rattle.http_head.specs.Answer.{AwaitsBlock, IsBlockAnswer}
use Rattle.http_head.specs.Block.{IsSearched}
use Rattle.http_head.specs.declared.block.Search.{Search}
use Rattle.http_head.specs.declared.answer.BlockAnswer.{BlockAnswer}
use Rattle.body_frames.specs.declared.frame.BodyFault.{BodyFault}
use Rattle.body_frames.specs.declared.frame.Frame.{Frame}
use Rattle.body_frames.specs.declared.frame.Frame.TheVariants.{NoBody, Length, Chunked, Close}
use Rattle.body_frames.specs.declared.place.Place.{Place}
use Rattle.body_frames.specs.Body.{IsBody, IsPart, IsRefused, ends_itself}
use Rattle.body_frames.specs.Decoded.{Decoded, Feeds}
use Rattle.body_frames.specs.Progress.{is_done, is_open, ends_here, fault_of}
use Rattle.wire_intake.specs.declared.block.BlockStop.TheVariants as block_stop
use Rattle.wire_intake.specs.declared.body.BodyStop.{BodyStop}
use Rattle.wire_intake.specs.declared.body.BodyStop.TheVariants as body_stop
use Rattle.wire_intake.specs.declared.intake.ReadStop.{ReadStop}
use Rattle.wire_intake.specs.declared.intake.ReadStop.TheVariants as read_stop
use Rattle.wire_intake.specs.Seen.{Seen, NotRead}
use Rattle.wire_intake.specs.Blocks.{NoBlock}
use Rattle.wire_intake.specs.Bodies.{FedInto, BodySoFar, GotBody, NotFed, NoBodyCame, PartOfBody, NotFilled, EndsInput, ends_at}

pub seen_join : (a b c : Option (List ℕ)) (x y z : List ℕ) → Seen a b x y → Seen b c y z → Seen a c x z
seen_join a b c x y z p q = record {
  taken = p.taken ++ q.taken;
  consumed = Consumes-trans a b c p.taken q.taken p.consumed q.consumed;
  all = q.all ∙ ap (λ l. l ++ q.taken) p.all ∙ append_assoc x p.taken q.taken;
}

pub rose_earlier : (a b c : ℕ) → a ≤ b → Rose b c → Rose a c
rose_earlier a b c h r = omega arith

pub searched_at : (bytes held : List ℕ) (search : Search) → bytes ≡ held → IsSearched bytes search
    → IsSearched held search
searched_at bytes held search e h = subst (λ l. IsSearched l search) e h

pub answer_at : (bytes held : List ℕ) (a : BlockAnswer) → bytes ≡ held → IsBlockAnswer bytes a → IsBlockAnswer held a
answer_at bytes held a e h = subst (λ l. IsBlockAnswer l a) e h

pub block_not_read : (a b c : Option (List ℕ)) (x y z : List ℕ) (rose0 rose : Type 0) (stop : ReadStop)
    → (rose0 → rose) → Seen a b x y → AwaitsBlock y → NotRead b c y z rose0 stop
    → NoBlock a c x z rose (block_stop.Input stop)
block_not_read a b c x y z rose0 rose read_stop.AtEnd f s more r =
    (seen_join a b c x y z s r.0.seen, subst AwaitsBlock (sym r.0.same) more, r.1)
block_not_read a b c x y z rose0 rose read_stop.ReadFault f s more r =
    (seen_join a b c x y z s r.0.seen, subst AwaitsBlock (sym r.0.same) more, f r.1)
block_not_read a b c x y z rose0 rose read_stop.NoMemory f s more r = tt

-- ---- a body as far as it came

pub so_far_start : (a : Option (List ℕ)) (x : List ℕ) (f : Frame) (limit : ℕ) (p : Place) → Decoded f limit [] [] p
    → BodySoFar a a x x f limit p []
so_far_start a x f limit p d =
    record { taken = []; text = []; consumed = Consumes-nil a; split = append-nil x; decoded = d }

pub so_far_fed : (a b : Option (List ℕ)) (x y z : List ℕ) (f : Frame) (limit : ℕ) (p q : Place) (body more : List ℕ)
    → BodySoFar a b x y f limit p body → FedInto p q y z body more → BodySoFar a b x z f limit q more
so_far_fed a b x y z f limit p q body more s k = record {
  taken = s.taken;
  text = s.text ++ k.text;
  consumed = s.consumed;
  split = s.split ∙ ap (λ l. s.text ++ l) k.split ∙ sym (append_assoc s.text k.text z);
  decoded =
      subst (λ l. Decoded f limit (s.text ++ k.text) l q) (sym k.grown)
      (k.moved f limit s.text body s.decoded);
}

pub so_far_seen : (a b c : Option (List ℕ)) (x y z : List ℕ) (f : Frame) (limit : ℕ) (p : Place) (body : List ℕ)
    → BodySoFar a b x y f limit p body → Seen b c y z → BodySoFar a c x z f limit p body
so_far_seen a b c x y z f limit p body s r = record {
  taken = s.taken ++ r.taken;
  text = s.text;
  consumed = Consumes-trans a b c s.taken r.taken s.consumed r.consumed;
  split = sym (append_assoc x s.taken r.taken) ∙ ap (λ l. l ++ r.taken) s.split ∙ append_assoc s.text y r.taken
      ∙ ap (λ l. s.text ++ l) (sym r.all);
  decoded = s.decoded;
}

-- ---- the laws of bodies

abbrev pub DoneLaw : Type 0
DoneLaw = (f : Frame) (limit : ℕ) (text body : List ℕ) (p : Place) → Decoded f limit text body p → is_done p ≡ true
    → IsBody f limit text body × (ends_itself f ≡ true)

abbrev pub EndsLaw : Type 0
EndsLaw = (f : Frame) (limit : ℕ) (text body : List ℕ) (p : Place) → Decoded f limit text body p → ends_here p ≡ true
    → IsBody f limit text body

abbrev pub WholeLaw : Type 0
WholeLaw = (f : Frame) (limit : ℕ) (text body gave : List ℕ) (p : Place) → IsBody f limit text body
    → Decoded f limit text gave p → (ends_here p ≡ true) × (gave ≡ body)

abbrev pub AwaitsLaw : Type 0
AwaitsLaw = (f : Frame) (limit : ℕ) (text body : List ℕ) (p : Place) → Decoded f limit text body p → is_open p ≡ true
    → IsPart f limit text

abbrev pub RefusedLaw : Type 0
RefusedLaw = (f : Frame) (limit : ℕ) (text body : List ℕ) (p : Place) (fault : BodyFault)
    → Decoded f limit text body p → fault_of p ≡ Some fault → IsRefused f limit text fault

abbrev pub StaysLaw : Type 0
StaysLaw = (f : Frame) (limit : ℕ) (bytes more : List ℕ) (fault : BodyFault) → IsRefused f limit bytes fault
    → IsRefused f limit (bytes ++ more) fault

-- ---- where a body came

pub got_body : DoneLaw → (a b : Option (List ℕ)) (x y : List ℕ) (f : Frame) (limit : ℕ) (p : Place) (body : List ℕ)
    → BodySoFar a b x y f limit p body → is_done p ≡ true → GotBody a b x y f limit body
got_body law a b x y f limit p body s done =
    let is = law f limit s.text body p s.decoded done in
    record {
      bytes = x ++ s.taken;
      seen = record { taken = s.taken; consumed = s.consumed; all = refl };
      text = s.text;
      split = s.split;
      is = is.0;
      ends = itself (ends_itself f) is.1;
    }
  where
    itself : (t : Bool) → t ≡ true → EndsInput t b y
    itself true e = tt
    itself false e = absurd (cc e)

pub body_at_end : EndsLaw → (a b c : Option (List ℕ)) (x y z : List ℕ) (f : Frame) (limit : ℕ) (p : Place)
    (body : List ℕ) (rose : Type 0) (stop : ReadStop) → BodySoFar a b x y f limit p body
    → ends_at (ends_here p) stop ≡ true → NotFilled b c y z rose stop → GotBody a c x z f limit body
body_at_end law a b c x y z f limit p body rose read_stop.AtEnd s ends k =
    let t = so_far_seen a b c x y [] f limit p body s k.0 in
    record {
      bytes = x ++ t.taken;
      seen = record { taken = t.taken; consumed = t.consumed; all = refl };
      text = t.text;
      split = subst (λ l. x ++ t.taken ≡ t.text ++ l) (sym k.1) t.split;
      is = law f limit t.text body p t.decoded ends;
      ends = all (ends_itself f);
    }
  where
    all : (t : Bool) → EndsInput t c z
    all true = tt
    all false = (k.1, k.2)
body_at_end law a b c x y z f limit p body rose read_stop.ReadFault s ends k = absurd (cc ends)
body_at_end law a b c x y z f limit p body rose read_stop.NoMemory s ends k = absurd (cc ends)

-- ---- where none came

pub body_breaks : RefusedLaw → StaysLaw → (a b : Option (List ℕ)) (x y : List ℕ) (f : Frame) (limit : ℕ) (p : Place)
    (body : List ℕ) (rose : Type 0) (stop : BodyStop) → BodySoFar a b x y f limit p body → NotFed p y stop
    → NoBodyCame a b x f limit rose stop
body_breaks refused stays a b x y f limit p body rose (body_stop.Fault fault) s (q, k) =
    let text = s.text ++ take k.taken y in
    let is = refused f limit text body q fault (k.moved f limit s.text body s.decoded) k.broken in
    let all : text ++ drop k.taken y ≡ x ++ s.taken =
    append_assoc s.text (take k.taken y) (drop k.taken y) ∙ ap (λ l. s.text ++ l) (take-append-drop k.taken y)
    ∙ sym s.split in
    record {
      bytes = x ++ s.taken;
      seen = record { taken = s.taken; consumed = s.consumed; all = refl };
      refused = subst (λ l. IsRefused f limit l fault) all (stays f limit text (drop k.taken y) fault is);
    }
body_breaks refused stays a b x y f limit p body rose (body_stop.Input read_stop.AtEnd) s k = absurd k
body_breaks refused stays a b x y f limit p body rose (body_stop.Input read_stop.ReadFault) s k = absurd k
body_breaks refused stays a b x y f limit p body rose (body_stop.Input read_stop.NoMemory) s k = tt

part_of_body : AwaitsLaw → (a b c : Option (List ℕ)) (x y : List ℕ) (f : Frame) (limit : ℕ) (p : Place)
    (body : List ℕ) → BodySoFar a b x y f limit p body → is_open p ≡ true → Seen b c y [] → PartOfBody a c x f limit
part_of_body law a b c x y f limit p body s awaits r =
    let t = so_far_seen a b c x y [] f limit p body s r in
    record {
      bytes = x ++ t.taken;
      seen = record { taken = t.taken; consumed = t.consumed; all = refl };
      part =
          subst (λ l. IsPart f limit l) (sym (t.split ∙ append-nil t.text))
          (law f limit t.text body p t.decoded awaits);
    }

-- a body that isn't whole at the end of its input ends by itself
cut_itself : AwaitsLaw → WholeLaw → (f : Frame) (limit : ℕ) (text body : List ℕ) (p : Place)
    → Decoded f limit text body p → is_open p ≡ true → ends_here p ≡ false → ends_itself f ≡ true
cut_itself awaits whole NoBody limit text body p d o e = refl
cut_itself awaits whole (Length n) limit text body p d o e = refl
cut_itself awaits whole Chunked limit text body p d o e = refl
cut_itself awaits whole Close limit text body p d o e =
    absurd (cc ((whole Close limit text text body p (refl, awaits Close limit text body p d o) d).0, e))

pub body_not_filled : AwaitsLaw → WholeLaw → (a b c : Option (List ℕ)) (x y z : List ℕ) (f : Frame) (limit : ℕ)
    (p : Place) (body : List ℕ) (rose0 rose : Type 0) (stop : ReadStop) → (rose0 → rose)
    → BodySoFar a b x y f limit p body → is_open p ≡ true → ends_at (ends_here p) stop ≡ false
    → NotFilled b c y z rose0 stop → NoBodyCame a c x f limit rose (body_stop.Input stop)
body_not_filled law whole a b c x y z f limit p body rose0 rose read_stop.AtEnd g s o e k = (
  part_of_body law a b c x y f limit p body s o k.0,
  k.2,
  cut_itself law whole f limit s.text body p s.decoded o e,
)
body_not_filled law whole a b c x y z f limit p body rose0 rose read_stop.ReadFault g s o e k =
    (part_of_body law a b c x y f limit p body s o k.0, g k.1)
body_not_filled law whole a b c x y z f limit p body rose0 rose read_stop.NoMemory g s o e k = tt

pub not_filled : (a b : Option (List ℕ)) (x y : List ℕ) (rose : Type 0) (stop : ReadStop) → x ≡ []
    → NotRead a b x y rose stop → NotFilled a b x y rose stop
not_filled a b x y rose read_stop.AtEnd e k =
    (subst (λ l. Seen a b x l) (k.0.same ∙ e) k.0.seen, k.0.same ∙ e, k.1)
not_filled a b x y rose read_stop.ReadFault e k = (subst (λ l. Seen a b x l) (k.0.same ∙ e) k.0.seen, k.1)
not_filled a b x y rose read_stop.NoMemory e k = tt

pub awaits_not_done : (p : Place) → (is_done p ≡ true) ⊎ (is_open p ≡ true) → is_done p ≡ false → is_open p ≡ true
awaits_not_done p (inl e) f = absurd (cc (e, f))
awaits_not_done p (inr e) f = e

pub empty_list : (x : List ℕ) → length x ≡ 0 → x ≡ []
empty_list [] e = refl
empty_list (b ∷ bs) e = absurd (omega arith)

-- a feed, from what is held
pub fed_into : (old new : Place) (held rest body more out : List ℕ) (taken from to : ℕ)
    → Feeds old new held taken from to → rest ≡ drop taken held → out ≡ take (to - from) (drop from held)
    → more ≡ body ++ out → FedInto old new held rest body more
fed_into old new held rest body more out taken from to k e o g = record {
  text = take taken held;
  more = out;
  split = sym (take-append-drop taken held) ∙ ap (λ l. take taken held ++ l) (sym e);
  grown = g;
  moved = λ f limit before gave d.
      subst (λ l. Decoded f limit (before ++ take taken held) (gave ++ l) new) (sym o) (k.moved f limit before gave d);
}
