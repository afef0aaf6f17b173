-- What stands first in bytes.
use Rattle.std.proofs.Common.{◌≡◌, ℕ, ◌≤◌, ◌⊎◌, inl, inr, ◌∷◌, [], ◌++◌, List, length, true, false}
use Rattle.std.proofs.Common.{take, drop, ◌-◌, append-nil, Some, None, refl, sym, ap, ◌∙◌, subst, arith, append_assoc}
use Rattle.std.specs.Prelude.{IsTrue}
use Rattle.std.proofs.lemmas.Bool.Decides.{nat_tests}
use Rattle.body_frames.specs.declared.frame.BodyFault.{BodyFault}
use Rattle.body_frames.specs.declared.frame.BodyFault.TheVariants.{TooLarge}
use Rattle.body_frames.specs.declared.frame.Frame.{Frame}
use Rattle.body_frames.specs.declared.frame.Frame.TheVariants.{NoBody, Length, Chunked, Close}
use Rattle.body_frames.specs.declared.place.Mode.{Mode}
use Rattle.body_frames.specs.declared.place.Mode.TheVariants.{Done}
use Rattle.body_frames.specs.declared.place.Place.{Place}
use Rattle.body_frames.specs.Machine.{start, step, run, emitted, is_sound, is_open, is_open_mode}
use Rattle.body_frames.specs.Machine.{is_done, is_done_mode, fault_of, fault_mode, ends_here, Took, BreaksIn}
use Rattle.body_frames.specs.Body.{IsBody, IsRefused, IsPart, StartsWithBody, First, whole, refused, part, StandsFirst}
use Rattle.body_frames.specs.Body.{ends_itself}
use Rattle.body_frames.specs.Decoded.{Decoded, Feeds, Refuses}
use Rattle.body_frames.proofs.MachineLemmas.{run-append, emitted-append, run_nothing, emitted_nothing, broken_run}
use Rattle.body_frames.proofs.ChunkSound.{either}
use Rattle.body_frames.proofs.BreakLemmas.{closed_stays, none_past, fault_or}
use Rattle.body_frames.proofs.BodyLemmas.{means, Ended, ended, past_mode, past_after, not_done_past, open_no_fault}

pub body_fits : (f : Frame) (limit : ℕ) (text body : List ℕ) → IsBody f limit text body → length body ≤ limit
body_fits NoBody limit text body h = let e = ap length h.1 in omega (arith, e)
body_fits (Length n) limit text body h = let e = ap length h.0 in omega (arith, e, h.1, h.2)
body_fits Chunked limit text body h = h.1
body_fits Close limit text body h = let e = ap length h.0 in omega (arith, e, h.1)

-- ---- one of three

sound_start : (f : Frame) (limit : ℕ) → IsTrue (is_sound (start f limit))
sound_start NoBody limit = grind (arith, nat_tests)
sound_start (Length n) limit = grind (arith, nat_tests)
sound_start Chunked limit = grind (arith, nat_tests)
sound_start Close limit = grind (arith, nat_tests)

pub first_some : (f : Frame) (limit : ℕ) (bytes : List ℕ) → (v : First) × StandsFirst f limit bytes v
first_some f limit bytes = by_open (either (is_open (run p bytes))) (fault_or (run p bytes))
  where
    p : Place
    p = start f limit

    by_end : Ended p bytes → (v : First) × StandsFirst f limit bytes v
    by_end e =
        let m = means f limit e.own in
        let d = m.done e.done in (
          whole (emitted p e.own) e.rest,
          record { text = e.own; itself = d.1; split = e.split; is = d.0 },
        )

    by_open : (is_open (run p bytes) ≡ true) ⊎ (is_open (run p bytes) ≡ false)
        → ((g : BodyFault) × (fault_of (run p bytes) ≡ Some g)) ⊎ (fault_of (run p bytes) ≡ None)
        → (v : First) × StandsFirst f limit bytes v
    by_open (inl o) g = (part, (means f limit bytes).awaits o)
    by_open (inr c) (inl g) = (refused g.0, (means f limit bytes).broken g.0 g.1)
    by_open (inr c) (inr n) = by_end (ended bytes p (sound_start f limit) c n)

-- ---- and only one

done_closed : (m : Mode) → is_done_mode m ≡ true → (is_open_mode m ≡ false) × (fault_mode m ≡ None)
done_closed Done e = (refl, refl)
done_closed _ e = absurd (cc e)

-- after a whole body nothing is awaited, and nothing breaks
after_whole : (f : Frame) (limit : ℕ) (bytes body after : List ℕ) → StartsWithBody f limit bytes body after
    → (is_open (run (start f limit) bytes) ≡ false) × (fault_of (run (start f limit) bytes) ≡ None)
after_whole f limit bytes body after h =
    let p = start f limit in
    let q = run p h.text in
    let d = (means f limit h.text).itself body h.is h.itself in
    let c = done_closed q.mode d in
    let all : run p bytes ≡ run q after = ap (run p) h.split ∙ run-append p h.text after in (
      ap is_open all ∙ closed_stays after q c.0,
      ap fault_of all ∙ none_past after q TooLarge c.0 c.1,
    )

one_text : (p : Place) (f g y z : List ℕ) → f ++ y ≡ g ++ z → is_done (run p f) ≡ true → is_done (run p g) ≡ true
    → f ≡ g
unfolding run
one_text p [] [] y z e a b = refl
one_text p [] (x ∷ g) y z e a b = absurd (not_done_past (run (step p x) g).mode (past_mode g (step p x) (past_after p x a)) b)
one_text p (x ∷ f) [] y z e a b = absurd (not_done_past (run (step p x) f).mode (past_mode f (step p x) (past_after p x b)) a)
one_text p (x ∷ f) (w ∷ g) y z e a b =
    let here : x ≡ w = cc e in
    let there : f ++ y ≡ g ++ z = cc e in
    let same : f ≡ g =
    one_text (step p x) f g y z there a (subst (λ v. is_done (run (step p v) g) ≡ true) (sym here) b) in
    cc

rest_same : (f y z : List ℕ) → f ++ y ≡ f ++ z → y ≡ z
rest_same [] y z e = e
rest_same (x ∷ f) y z e = rest_same f y z (cc e)

one_whole : (f : Frame) (limit : ℕ) (bytes b c y z : List ℕ) → StartsWithBody f limit bytes b y
    → StartsWithBody f limit bytes c z → (b ≡ c) × (y ≡ z)
one_whole f limit bytes b c y z h k =
    let p = start f limit in
    let both : h.text ++ y ≡ k.text ++ z = sym h.split ∙ k.split in
    let m = means f limit h.text in
    let n = means f limit k.text in
    let same : h.text ≡ k.text =
    one_text p h.text k.text y z both (m.itself b h.is h.itself) (n.itself c k.is k.itself) in (
      sym (m.whole b h.is).1 ∙ ap (emitted p) same ∙ (n.whole c k.is).1,
      rest_same k.text y z (subst (λ l. l ++ y ≡ k.text ++ z) same both),
    )

pub first_one : (f : Frame) (limit : ℕ) (bytes : List ℕ) (v w : First) → StandsFirst f limit bytes v
    → StandsFirst f limit bytes w → v ≡ w
first_one f limit bytes (whole b y) (whole c z) h k =
    let e = one_whole f limit bytes b c y z h k in
    cons b c y z e.0 e.1
  where
    cons : (b c y z : List ℕ) → b ≡ c → y ≡ z → whole b y ≡ whole c z
    cons b c y z e f = cc
first_one f limit bytes (whole b y) (refused x) h k =
    absurd (cc ((after_whole f limit bytes b y h).1, (means f limit bytes).refused x k))
first_one f limit bytes (whole b y) part h k =
    absurd (cc ((after_whole f limit bytes b y h).0, (means f limit bytes).part k))
first_one f limit bytes (refused x) (whole b y) h k =
    absurd (cc ((after_whole f limit bytes b y k).1, (means f limit bytes).refused x h))
first_one f limit bytes (refused x) (refused z) h k =
    same (sym ((means f limit bytes).refused x h) ∙ (means f limit bytes).refused z k)
  where
    same : Some x ≡ Some z → refused x ≡ refused z
    same e = cc
first_one f limit bytes (refused x) part h k =
    absurd (open_no_fault (run (start f limit) bytes).mode x ((means f limit bytes).part k)
    ((means f limit bytes).refused x h))
first_one f limit bytes part (whole b y) h k =
    absurd (cc ((after_whole f limit bytes b y k).0, (means f limit bytes).part h))
first_one f limit bytes part (refused x) h k =
    absurd (open_no_fault (run (start f limit) bytes).mode x ((means f limit bytes).part h)
    ((means f limit bytes).refused x k))
first_one f limit bytes part part h k = refl

-- ---- as more bytes come

pub whole_more : (f : Frame) (limit : ℕ) (bytes more body after : List ℕ) → StartsWithBody f limit bytes body after
    → StartsWithBody f limit (bytes ++ more) body (after ++ more)
whole_more f limit bytes more body after h = record {
  text = h.text;
  itself = h.itself;
  split = ap (λ l. l ++ more) h.split ∙ append_assoc h.text after more;
  is = h.is;
}

pub refused_more : (f : Frame) (limit : ℕ) (bytes more : List ℕ) (x : BodyFault) → IsRefused f limit bytes x
    → IsRefused f limit (bytes ++ more) x
refused_more f limit bytes more x h =
    let p = start f limit in
    (means f limit (bytes ++ more)).broken x
    (ap fault_of (run-append p bytes more) ∙ broken_run more (run p bytes) x ((means f limit bytes).refused x h))

-- ---- what a decoder took

pub decoded_start : (f : Frame) (limit : ℕ) (p : Place) → p ≡ start f limit → Decoded f limit [] [] p
decoded_start f limit p e =
    record { at = e ∙ run_nothing (start f limit); gave = sym (emitted_nothing (start f limit)) }

decoded_more : (f : Frame) (limit : ℕ) (text body piece out : List ℕ) (old new : Place) → new ≡ run old piece
    → emitted old piece ≡ out → Decoded f limit text body old → Decoded f limit (text ++ piece) (body ++ out) new
decoded_more f limit text body piece out old new moved gives d =
    let p = start f limit in
    record {
      at = moved ∙ ap (λ q. run q piece) d.at ∙ sym (run-append p text piece);
      gave = ap (λ l. l ++ out) d.gave ∙ ap (λ l. emitted p text ++ l) (sym gives)
          ∙ ap (λ q. emitted p text ++ emitted q piece) d.at ∙ sym (emitted-append p text piece);
    }

pub feeds : (old now new : Place) (piece : List ℕ) (taken from to : ℕ) → old ≡ now → Took old new piece taken from to
    → Feeds now new piece taken from to
feeds old now new piece taken from to e h = record {
  within = h.within;
  range = h.range;
  end = h.end;
  moved = λ f limit text body d.
      decoded_more f limit text body (take taken piece) (take (to - from) (drop from piece)) old new h.moved h.body
      (subst (λ q. Decoded f limit text body q) (sym e) d);
}

pub refuses : (old now new : Place) (piece : List ℕ) (fault : BodyFault) → old ≡ now → BreaksIn old new piece fault
    → Refuses now new piece fault
refuses old now new piece fault e h = record {
  taken = h.taken;
  within = h.within;
  moved = λ f limit text body d.
      subst (λ l. Decoded f limit (text ++ take h.taken piece) l new) (append-nil body)
      (decoded_more f limit text body (take h.taken piece) [] old new h.moved h.nothing
      (subst (λ q. Decoded f limit text body q) (sym e) d));
  broken = h.broken;
}

module _ (f : Frame) (limit : ℕ) (text body : List ℕ) (decoder : Place) (h : Decoded f limit text body decoder) where
  pub decoded_done : is_done decoder ≡ true → IsBody f limit text body × (ends_itself f ≡ true)
  decoded_done d =
      let k = (means f limit text).done (subst (λ q. is_done q ≡ true) h.at d) in
      (subst (λ b. IsBody f limit text b) (sym h.gave) k.0, k.1)

  pub decoded_ends : ends_here decoder ≡ true → IsBody f limit text body
  decoded_ends d =
      subst (λ b. IsBody f limit text b) (sym h.gave)
      ((means f limit text).ends (subst (λ q. ends_here q ≡ true) h.at d))

  pub decoded_itself : (own : List ℕ) → IsBody f limit text own → ends_itself f ≡ true → is_done decoder ≡ true
  decoded_itself own k i = subst (λ q. is_done q ≡ true) (sym h.at) ((means f limit text).itself own k i)

  pub decoded_whole : (own : List ℕ) → IsBody f limit text own → (ends_here decoder ≡ true) × (body ≡ own)
  decoded_whole own k =
      let w = (means f limit text).whole own k in
      (subst (λ q. ends_here q ≡ true) (sym h.at) w.0, h.gave ∙ w.1)

  pub decoded_awaits : is_open decoder ≡ true → IsPart f limit text
  decoded_awaits o = (means f limit text).awaits (subst (λ q. is_open q ≡ true) h.at o)

  pub decoded_broken : (x : BodyFault) → fault_of decoder ≡ Some x → IsRefused f limit text x
  decoded_broken x e = (means f limit text).broken x (subst (λ q. fault_of q ≡ Some x) h.at e)

  pub decoded_refused : (x : BodyFault) → IsRefused f limit text x → fault_of decoder ≡ Some x
  decoded_refused x k = subst (λ q. fault_of q ≡ Some x) (sym h.at) ((means f limit text).refused x k)
