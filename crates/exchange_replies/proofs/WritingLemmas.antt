-- Prefixes of texts.
use Rattle.std.proofs.Common.{◌≡◌, ℕ, ◌+◌, ◌≤◌, min, List, ◌++◌, length, take, Option, sym, subst, ◌∙◌, arith}
use Rattle.std.proofs.KnownBytes.{Appends-trans}
use Rattle.std.proofs.Math.Seq.{take-append-le, take-append-add}
use Rattle.std.proofs.lemmas.List.{take_min}
use Rattle.std.specs.Io.KnownBytes.{Appends}
use Rattle.exchange_replies.specs.Writing.{Writes}
use Rattle.exchange_replies.specs.declared.writing.Wrote.{Wrote}
use Rattle.exchange_replies.specs.declared.writing.Wrote.TheVariants.{Whole, Cut}
use Rattle.front_ports.specs.Cause.{Rose}
use Rattle.front_ports.specs.Written.{AppendsFront}

-- a prefix of the first text is one of both
pub front_of_first : (w0 w : Option (List ℕ)) (head body : List ℕ) → AppendsFront w0 w head → AppendsFront w0 w (head ++ body)
front_of_first w0 w head body p =
    let k = min p.0 (length head) in
    let e : take k (head ++ body) ≡ take p.0 head = take-append-le k head body (omega arith) ∙ take_min p.0 head in
    (k, subst (λ l. Appends w0 w l) (sym e) p.1)

-- the first text and a prefix of the second are a prefix of both
front_of_second : (w0 w v : Option (List ℕ)) (head body : List ℕ) → Appends w0 w head → AppendsFront w v body
    → AppendsFront w0 v (head ++ body)
front_of_second w0 w v head body p q = (
  length head + q.0,
  subst (λ l. Appends w0 v l) (sym (take-append-add head body q.0)) (Appends-trans w0 w v head (take q.0 body) p q.1),
)

pub cut_first : (w0 w : Option (List ℕ)) (head body : List ℕ) (f g : ℕ) → Writes w0 w head (Rose f g) Cut
    → Writes w0 w (head ++ body) (Rose f g) Cut
cut_first w0 w head body f g h = (front_of_first w0 w head body h.0, h.1)

pub second : (w0 w v : Option (List ℕ)) (head body : List ℕ) (e f g : ℕ) (wrote : Wrote) → e ≤ f → Appends w0 w head
    → Writes w v body (Rose f g) wrote → Writes w0 v (head ++ body) (Rose e g) wrote
second w0 w v head body e f g Whole le p h = Appends-trans w0 w v head body p h
second w0 w v head body e f g Cut le p h = (front_of_second w0 w v head body p h.0, omega (arith, h.1))
