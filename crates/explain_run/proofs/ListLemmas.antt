-- Lists of requests, and the bytes and lines that belong to them.
use Rattle.std.proofs.Common.{◌≡◌, ℕ, ◌+◌, Bool, true, false, List, [], ◌∷◌, ◌++◌, length, refl, sym, ap, ◌∙◌, subst, append_assoc, append-nil, arith}
use Rattle.http_edge.specs.Requests.{StartsWith, asks, on_asks, IsRequests, IsStop, IsRefused, ReadsTo, needs_end}
use Rattle.http_edge.specs.declared.request.End.{End}
use Rattle.http_edge.specs.declared.request.End.TheVariants as end
use Rattle.http_edge.specs.declared.request.Request.{Request}
use Rattle.apiservice_rows.specs.Row.{Row}
use Rattle.explain_run.specs.Lines.{AreLines, IsLines, rows_after, rows_after_all}
use Rattle.explain_run.specs.Serving.{FirstOf}
use Rattle.explain_run.specs.declared.setup.Setup.{Setup}

on_false : (t : Bool) (P Q : Type 0) → t ≡ false → Q → on_asks t P Q
on_false t P Q e q = subst (λ s. on_asks s P Q) (sym e) q

on_true : (t : Bool) (P Q : Type 0) → t ≡ true → P → on_asks t P Q
on_true t P Q e p = subst (λ s. on_asks s P Q) (sym e) p

on_any : (t : Bool) (P Q : Type 0) → P → Q → on_asks t P Q
on_any true P Q p q = p
on_any false P Q p q = q

-- what the law on longer inputs says
abbrev pub StartsStay : Type 0
StartsStay = (bytes more after : List ℕ) (r : Request) → StartsWith bytes r after → StartsWith (bytes ++ more) r (after ++ more)

abbrev pub RefusalsStay : Type 0
RefusalsStay = (bytes more : List ℕ) (e : End) → IsRefused bytes e → IsRefused (bytes ++ more) e

pub reads_more : StartsStay → (bytes more after : List ℕ) (rs : List Request) → ReadsTo bytes rs after → ReadsTo (bytes ++ more) rs (after ++ more)
reads_more law bytes more after [] h = ap (λ l. l ++ more) h
reads_more law bytes more after (r ∷ rs) h =
    (h.0 ++ more, law bytes more h.0 r h.1, h.2, reads_more law h.0 more after rs h.3)

pub reads_one : (bytes held after : List ℕ) (rs : List Request) (r : Request) → ReadsTo bytes rs held → StartsWith held r after
    → asks r ≡ false → ReadsTo bytes (rs ++ r ∷ []) after
reads_one bytes held after [] r h s e = (after, subst (λ l. StartsWith l r after) (sym h) s, e, refl)
reads_one bytes held after (q ∷ rs) r h s e = (h.0, h.1, h.2, reads_one h.0 held after rs r h.3 s e)

pub list_stop : (bytes held : List ℕ) (rs : List Request) (e : End) → ReadsTo bytes rs held → IsStop held e → IsRequests bytes rs e
list_stop bytes held [] e h s = subst (λ l. IsStop l e) (sym h) s
list_stop bytes held (r ∷ rs) e h s =
    (h.0, h.1, on_false (asks r) ((rs ≡ []) × (e ≡ end.Asked)) (IsRequests h.0 rs e) h.2 (list_stop h.0 held rs e h.3 s))

pub list_asked : (bytes held after : List ℕ) (rs : List Request) (r : Request) → ReadsTo bytes rs held → StartsWith held r after
    → asks r ≡ true → IsRequests bytes (rs ++ r ∷ []) end.Asked
list_asked bytes held after [] r h s e = (
  after,
  subst (λ l. StartsWith l r after) (sym h) s,
  on_true (asks r) (([] ≡ []) × (end.Asked ≡ end.Asked)) (IsRequests after [] end.Asked) e (refl, refl),
)
list_asked bytes held after (q ∷ rs) r h s e = (
  h.0,
  h.1,
  on_false
      (asks q) ((rs ++ r ∷ [] ≡ []) × (end.Asked ≡ end.Asked)) (IsRequests h.0 (rs ++ r ∷ []) end.Asked)
      h.2 (list_asked h.0 held after rs r h.3 s e),
)

pub first_of : (bytes held : List ℕ) (rs : List Request) → ReadsTo bytes rs held → FirstOf bytes rs
first_of bytes held [] h = tt
first_of bytes held (r ∷ rs) h = (h.0, h.1, on_false (asks r) (rs ≡ []) (FirstOf h.0 rs) h.2 (first_of h.0 held rs h.3))

pub first_one : (bytes held after : List ℕ) (rs : List Request) (r : Request) → ReadsTo bytes rs held → StartsWith held r after
    → FirstOf bytes (rs ++ r ∷ [])
first_one bytes held after [] r h s =
    (after, subst (λ l. StartsWith l r after) (sym h) s, on_any (asks r) ([] ≡ []) (Unit {0}) refl tt)
first_one bytes held after (q ∷ rs) r h s = (
  h.0,
  h.1,
  on_false (asks q) (rs ++ r ∷ [] ≡ []) (FirstOf h.0 (rs ++ r ∷ [])) h.2 (first_one h.0 held after rs r h.3 s),
)

-- a stop of the bytes taken is one of all the input
pub stop_whole : RefusalsStay → (bytes ys : List ℕ) (e : End) (P : Type 0) → IsStop bytes e → needs_end e P → (P → ys ≡ [])
    → IsStop (bytes ++ ys) e
stop_whole law bytes ys end.Ended P s n f =
    subst (λ l. IsStop l end.Ended) (sym (ap (λ l. bytes ++ l) (f n) ∙ append-nil bytes)) s
stop_whole law bytes ys end.CutShort P s n f =
    subst (λ l. IsStop l end.CutShort) (sym (ap (λ l. bytes ++ l) (f n) ∙ append-nil bytes)) s
stop_whole law bytes ys end.Asked P s n f = law bytes ys end.Asked s
stop_whole law bytes ys end.BadHead P s n f = law bytes ys end.BadHead s
stop_whole law bytes ys end.HeadTooLarge P s n f = law bytes ys end.HeadTooLarge s
stop_whole law bytes ys end.BadFraming P s n f = law bytes ys end.BadFraming s
stop_whole law bytes ys end.BodyTooLarge P s n f = law bytes ys end.BodyTooLarge s

-- ---- their lines

pub rows_after_one : (set : Setup) (rows : List Row) (rs : List Request) (r : Request)
    → rows_after_all set rows (rs ++ r ∷ []) ≡ rows_after set (rows_after_all set rows rs) r
rows_after_one set rows [] r = refl
rows_after_one set rows (q ∷ rs) r = rows_after_one set (rows_after set rows q) rs r

pub lines_one : (set : Setup) (n m : ℕ) (rows : List Row) (rs : List Request) (r : Request) (text own : List ℕ) (large few : ℕ)
    → n + length rs ≡ m → AreLines set n rows rs text large → IsLines set (rows_after_all set rows rs) m r own few
    → AreLines set n rows (rs ++ r ∷ []) (text ++ own) (large + few)
lines_one set n m rows [] r text own large few e h is =
    let place : m ≡ n = sym e ∙ omega arith in (
      own,
      [],
      few,
      0,
      subst (λ k. IsLines set rows k r own few) place is,
      (refl, refl),
      ap (λ l. l ++ own) h.0 ∙ sym (append-nil own),
      omega (arith, h.1),
    )
lines_one set n m rows (q ∷ rs) r text own large few e h is =
    let place : (n + 1) + length rs ≡ m = omega arith in (
      h.0,
      h.1 ++ own,
      h.2,
      h.3 + few,
      h.4,
      lines_one set (n + 1) m (rows_after set rows q) rs r h.1 own h.3 few place h.5 is,
      ap (λ l. l ++ own) h.6 ∙ append_assoc h.0 h.1 own,
      omega (arith, h.7),
    )

pub length_one : (rs : List Request) (r : Request) → length (rs ++ r ∷ []) ≡ length rs + 1
length_one [] r = refl
length_one (q ∷ rs) r = let ih = length_one rs r in omega arith
