-- Bytes are put into a buffer and written.
use Rattle.std.proofs.Common.{◌≡◌, ◌+◌, ◌<◌, ◌≤◌, ℕ, List, [], ◌++◌, length, take, drop, Option, Some, None, refl, sym, ap, ◌∙◌, subst, arith, append-nil, append_assoc, length-append}
use Rattle.std.specs.Prelude.{Result, Ok, Err, OnErr}
use Rattle.std.proofs.KnownBytes.{Appends-trans}
use Rattle.std.proofs.Math.Seq.{take-add, take-append_seam, take-length}
use Rattle.std.proofs.lemmas.List.{take-append-drop, length-take}
use Rattle.std.specs.Io.KnownBytes.{Appends}
use Rattle.webhook_sink.specs.Buffered.{Buffered, Stopped, Follows, Stops}

pub buffered-none : (a : Option (List ℕ)) → Buffered a a [] 0 []
buffered-none None = record { prefix = []; written = tt; rest = refl; count = refl }
buffered-none (Some xs) = record { prefix = []; written = sym (append-nil xs); rest = refl; count = refl }

-- what was put into the buffer in all
pub buffered-length : (old a : Option (List ℕ)) (text buffer : List ℕ) (sent : ℕ) → Buffered old a text sent buffer → sent + length buffer ≡ length text
buffered-length old a text buffer sent g =
    let l = length-append g.prefix buffer in
    let c = g.count in
    let r = ap length g.rest in
    omega arith

-- the first bytes of the buffer are written
writes_some : (old a b : Option (List ℕ)) (text buffer : List ℕ) (sent n : ℕ) → Buffered old a text sent buffer → Appends a b (take n buffer) → n ≤ length buffer → Buffered old b text (sent + n) (drop n buffer)
writes_some old a b text buffer sent n g w h =
    let l = length-append g.prefix (take n buffer) in
    let t = length-take n buffer in
    let c = g.count in
    record {
      prefix = g.prefix ++ take n buffer;
      written = Appends-trans old a b g.prefix (take n buffer) g.written w;
      rest = append_assoc g.prefix (take n buffer) (drop n buffer) ∙ ap (λ z. g.prefix ++ z) (take-append-drop n buffer) ∙ g.rest;
      count = omega arith;
    }

-- all of the buffer is written
pub flushes : (a b : Option (List ℕ)) (buffer : List ℕ) (sent : ℕ) → Appends a b buffer → Follows a sent buffer [] b (sent + length buffer) []
flushes a b buffer sent w = λ old text g.
    let l = length-append g.prefix buffer in
    let c = g.count in
    record {
      prefix = g.prefix ++ buffer;
      written = Appends-trans old a b g.prefix buffer g.written w;
      rest = append-nil (g.prefix ++ buffer) ∙ g.rest ∙ sym (append-nil text);
      count = omega arith;
    }

pub flush-stops : (a b : Option (List ℕ)) (buffer : List ℕ) (sent n : ℕ) → n < length buffer → Appends a b (take n buffer) → Stops a sent buffer [] b (sent + n)
flush-stops a b buffer sent n h w = λ old text g.
    subst (λ (z : List ℕ). Stopped old b z (sent + n)) (sym (append-nil text))
    (record { unwritten = drop n buffer; buffered = writes_some old a b text buffer sent n g w (omega (arith, h)) })

-- a piece is kept
pub keeps : (a b : Option (List ℕ)) (buffer buffer' piece : List ℕ) (sent sent' : ℕ) → b ≡ a → sent' ≡ sent → buffer' ≡ buffer ++ piece → Follows a sent buffer piece b sent' buffer'
keeps a b buffer buffer' piece sent sent' e f h = λ old text g.
    record {
      prefix = g.prefix;
      written = subst (λ (z : Option (List ℕ)). Appends old z g.prefix) (sym e) g.written;
      rest = ap (λ z. g.prefix ++ z) h ∙ sym (append_assoc g.prefix buffer piece) ∙ ap (λ z. z ++ piece) g.rest;
      count = f ∙ g.count;
    }

-- ---- one after another

pub then-follows : (a b c : Option (List ℕ)) (s1 s2 s3 : ℕ) (b1 b2 b3 x y : List ℕ) → Follows a s1 b1 x b s2 b2 → Follows b s2 b2 y c s3 b3 → Follows a s1 b1 (x ++ y) c s3 b3
then-follows a b c s1 s2 s3 b1 b2 b3 x y f g = λ old text k.
    subst (λ (z : List ℕ). Buffered old c z s3 b3) (append_assoc text x y) (g old (text ++ x) (f old text k))

pub then-stops : (a b c : Option (List ℕ)) (s1 s2 s3 : ℕ) (b1 b2 x y : List ℕ) → Follows a s1 b1 x b s2 b2 → Stops b s2 b2 y c s3 → Stops a s1 b1 (x ++ y) c s3
then-stops a b c s1 s2 s3 b1 b2 x y f g = λ old text k.
    subst (λ (z : List ℕ). Stopped old c z s3) (append_assoc text x y) (g old (text ++ x) (f old text k))

stopped_more : (old b : Option (List ℕ)) (text more : List ℕ) (sent : ℕ) → Stopped old b text sent → Stopped old b (text ++ more) sent
stopped_more old b text more sent s =
    let g = s.buffered in
    record {
      unwritten = s.unwritten ++ more;
      buffered = record {
        prefix = g.prefix;
        written = g.written;
        rest = sym (append_assoc g.prefix s.unwritten more) ∙ ap (λ z. z ++ more) g.rest;
        count = g.count;
      };
    }

-- what stopped writes no more
pub stays-stopped : (a b : Option (List ℕ)) (s1 s2 : ℕ) (b1 x y : List ℕ) → Stops a s1 b1 x b s2 → Stops a s1 b1 (x ++ y) b s2
stays-stopped a b s1 s2 b1 x y f = λ old text k.
    subst (λ (z : List ℕ). Stopped old b z s2) (append_assoc text x y) (stopped_more old b (text ++ x) y s2 (f old text k))

-- a buffer that a piece has filled is written
pub fills : (a b c : Option (List ℕ)) (s1 s2 s3 : ℕ) (b1 b2 x : List ℕ) → Follows a s1 b1 x b s2 b2 → Follows b s2 b2 [] c s3 [] → Follows a s1 b1 x c s3 []
fills a b c s1 s2 s3 b1 b2 x f g = λ old text k.
    subst (λ (z : List ℕ). Buffered old c z s3 []) (append-nil (text ++ x)) (g old (text ++ x) (f old text k))

pub fill-stops : (a b c : Option (List ℕ)) (s1 s2 s3 : ℕ) (b1 b2 x y : List ℕ) → Follows a s1 b1 x b s2 b2 → Stops b s2 b2 [] c s3 → Stops a s1 b1 (x ++ y) c s3
fill-stops a b c s1 s2 s3 b1 b2 x y f g = λ old text k.
    let s = subst (λ (z : List ℕ). Stopped old c z s3) (append-nil (text ++ x)) (g old (text ++ x) (f old text k)) in
    subst (λ (z : List ℕ). Stopped old c z s3) (append_assoc text x y) (stopped_more old c (text ++ x) y s3 s)

-- a part of a text, and all that stands before it
pub part-follows : (a b c : Option (List ℕ)) (s1 s2 s3 at n : ℕ) (b1 b2 b3 piece : List ℕ) → Follows a s1 b1 (take at piece) b s2 b2 → Follows b s2 b2 (take n (drop at piece)) c s3 b3 → Follows a s1 b1 (take (at + n) piece) c s3 b3
part-follows a b c s1 s2 s3 at n b1 b2 b3 piece f g =
    subst (λ (z : List ℕ). Follows a s1 b1 z c s3 b3) (sym (take-add at n piece))
    (then-follows a b c s1 s2 s3 b1 b2 b3 (take at piece) (take n (drop at piece)) f g)

pub rest-follows : (a b c : Option (List ℕ)) (s1 s2 s3 at : ℕ) (b1 b2 b3 piece : List ℕ) → Follows a s1 b1 (take at piece) b s2 b2 → Follows b s2 b2 (drop at piece) c s3 b3 → Follows a s1 b1 piece c s3 b3
rest-follows a b c s1 s2 s3 at b1 b2 b3 piece f g =
    subst (λ (z : List ℕ). Follows a s1 b1 z c s3 b3) (take-append-drop at piece)
    (then-follows a b c s1 s2 s3 b1 b2 b3 (take at piece) (drop at piece) f g)

pub rest-stops : (a b c : Option (List ℕ)) (s1 s2 s3 at : ℕ) (b1 b2 piece : List ℕ) → Follows a s1 b1 (take at piece) b s2 b2 → Stops b s2 b2 (drop at piece) c s3 → Stops a s1 b1 piece c s3
rest-stops a b c s1 s2 s3 at b1 b2 piece f g =
    subst (λ (z : List ℕ). Stops a s1 b1 z c s3) (take-append-drop at piece)
    (then-stops a b c s1 s2 s3 b1 b2 (take at piece) (drop at piece) f g)

-- a last call's fault, and what it means for the calls before
pub err-maps : {T E : Type 0} (r : Result T E) (P Q : Type 0) → (P → Q) → OnErr r P → OnErr r Q
err-maps (Ok u) P Q f h = tt
err-maps (Err e) P Q f h = f h

pub stopped-in : (old b : Option (List ℕ)) (text more whole : List ℕ) (sent : ℕ) → text ++ more ≡ whole → Stopped old b text sent → Stopped old b whole sent
stopped-in old b text more whole sent e s =
    subst (λ (z : List ℕ). Stopped old b z sent) e (stopped_more old b text more sent s)

-- ---- what is written of a text

pub buffered-wrote : (old b : Option (List ℕ)) (text : List ℕ) (sent : ℕ) → Buffered old b text sent [] → (sent ≡ length text) × Appends old b (take sent text)
buffered-wrote old b text sent g =
    let p : text ≡ g.prefix = sym g.rest ∙ append-nil g.prefix in
    let c : sent ≡ length text = g.count ∙ ap length (sym p) in
    let t : take sent text ≡ g.prefix = rw (c, take-length text) p in
    (c, subst (Appends old b) (sym t) g.written)

pub stopped-wrote : (old b : Option (List ℕ)) (text : List ℕ) (sent : ℕ) → Stopped old b text sent → (sent ≤ length text) × Appends old b (take sent text)
stopped-wrote old b text sent s =
    let g = s.buffered in
    let l = buffered-length old b text s.unwritten sent g in
    let t : take sent text ≡ g.prefix = rw (← g.rest, g.count) (take-append_seam g.prefix s.unwritten) in
    (omega arith, subst (Appends old b) (sym t) g.written)

-- a part of the text stopped, and so did the text
pub stops-in : (a b : Option (List ℕ)) (s1 s2 : ℕ) (b1 x y whole : List ℕ) → x ++ y ≡ whole → Stops a s1 b1 x b s2 → Stops a s1 b1 whole b s2
stops-in a b s1 s2 b1 x y whole e f = subst (λ (z : List ℕ). Stops a s1 b1 z b s2) e (stays-stopped a b s1 s2 b1 x y f)

-- nothing was added
pub follows-none : (a : Option (List ℕ)) (s : ℕ) (b : List ℕ) → Follows a s b [] a s b
follows-none a s b = λ old text k. subst (λ (z : List ℕ). Buffered old a z s b) (sym (append-nil text)) k

-- ---- a text that was put into an empty buffer

fresh : (a : Option (List ℕ)) (s : ℕ) (b : List ℕ) → s ≡ 0 → b ≡ [] → Buffered a a [] s b
fresh a s b e f = subst (λ (n : ℕ). Buffered a a [] n b) (sym e) (subst (λ (z : List ℕ). Buffered a a [] 0 z) (sym f) (buffered-none a))

pub wrote-all : (a b c : Option (List ℕ)) (s0 s1 s2 : ℕ) (b0 b1 text : List ℕ) → s0 ≡ 0 → b0 ≡ [] → Follows a s0 b0 text b s1 b1 → Follows b s1 b1 [] c s2 [] → (s2 ≡ length text) × Appends a c (take s2 text)
wrote-all a b c s0 s1 s2 b0 b1 text e f x y =
    buffered-wrote a c text s2 (subst (λ (z : List ℕ). Buffered a c z s2 []) (append-nil text) (y a text (x a [] (fresh a s0 b0 e f))))

pub wrote-part : (a b c : Option (List ℕ)) (s0 s1 s2 : ℕ) (b0 b1 text : List ℕ) → s0 ≡ 0 → b0 ≡ [] → Follows a s0 b0 text b s1 b1 → Stops b s1 b1 [] c s2 → (s2 ≤ length text) × Appends a c (take s2 text)
wrote-part a b c s0 s1 s2 b0 b1 text e f x y =
    stopped-wrote a c text s2 (subst (λ (z : List ℕ). Stopped a c z s2) (append-nil text) (y a text (x a [] (fresh a s0 b0 e f))))

pub wrote-stopped : (a b : Option (List ℕ)) (s0 s1 : ℕ) (b0 text : List ℕ) → s0 ≡ 0 → b0 ≡ [] → Stops a s0 b0 text b s1 → (s1 ≤ length text) × Appends a b (take s1 text)
wrote-stopped a b s0 s1 b0 text e f x = stopped-wrote a b text s1 (x a [] (fresh a s0 b0 e f))
