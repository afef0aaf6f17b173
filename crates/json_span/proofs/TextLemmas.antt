-- What a run of the machine says of the text.
use Rattle.std.proofs.Common.{◌≡◌, ℕ, ◌≤◌, ◌<◌, List, length, take, get_or, true, false, Some, None, ap, ◌∙◌, subst}
use Rattle.std.proofs.lemmas.List.{take_all}
use Rattle.json_span.specs.Value.{IsText, Compacts}
use Rattle.json_span.specs.Fault.{FaultAt}
use Rattle.json_span.specs.Machine.{place_step, place_ends, keeps, start}
use Rattle.json_span.specs.declared.place.Place.{Place}
use Rattle.json_span.proofs.RunLemmas.{run, run_accepted, stops_at, ends_early, output}
use Rattle.json_span.proofs.SoundLemmas.{text_taken}
use Rattle.json_span.proofs.CompleteLemmas.{text_goes, text_gives, place_completion, place_completes}

-- the place that the bytes lead to
abbrev pub Leads : List ℕ → Place → Type 0
Leads text p = run place_step place_ends start text ≡ Some p

pub whole : (text : List ℕ) (i : ℕ) (p : Place) → length text ≤ i → Leads (take i text) p → Leads text p
whole text i p past e = subst (λ l. Leads l p) (take_all i text past) e

pub accepted : (text : List ℕ) (p : Place) → Leads text p → place_ends p ≡ true → IsText text
accepted text p e ends = text_taken text (run_accepted place_step place_ends start p text e ends)

pub stopped : (text : List ℕ) (i : ℕ) (p : Place) → i < length text → Leads (take i text) p → place_step p (get_or text i 0) ≡ None → FaultAt IsText text i
stopped = stops_at place_step place_ends IsText start text_taken text_goes place_completion place_completes

pub unended : (text : List ℕ) (p : Place) → Leads text p → place_ends p ≡ false → FaultAt IsText text (length text)
unended = ends_early place_step place_ends IsText start text_taken text_goes place_completion place_completes

-- what is kept of a text is its tokens joined
pub compacted : (text out : List ℕ) (p : Place) → Leads text p → place_ends p ≡ true → out ≡ output place_step place_ends keeps start text → Compacts out text
compacted text out p e ends kept =
    let t = accepted text p e ends in
    (t.0, t.1, kept ∙ (text_gives text t.0 t.1).1)

pub whole_output : (text : List ℕ) (i : ℕ) → length text ≤ i → output place_step place_ends keeps start (take i text) ≡ output place_step place_ends keeps start text
whole_output text i past = ap (output place_step place_ends keeps start) (take_all i text past)
