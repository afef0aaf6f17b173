-- Steps of a run, one after another.
use Rattle.std.proofs.Common.{◌≡◌, ℕ, List, [], ◌∷◌, ◌++◌, Option, None, Some, refl, sym, ap, subst, ◌∙◌, append_assoc, append-nil, inl, inr}
use Rattle.service_calls.specs.Calls.{DialState, Due}
use Rattle.std.specs.Io.KnownBytes.{Appends}
use Rattle.front_ports.specs.Cause.{Rose}
use Rattle.service_calls.specs.Contacts.{Asks, Contact, Makes, MakesPart, answers, dues, left_dues}
use Rattle.probe_rounds.specs.Rounds.{Course, called, next_answer}
use Rattle.probe_rounds.specs.Standing.{Begins, BeginsSo, Breaks, Extends, Goes, OutTells, Stand, StopsAsking, StopsBy, course, stand}
use Rattle.probe_rounds.specs.declared.stop.ProbeStop.{ProbeStop}
use Rattle.probe_rounds.specs.declared.stop.ProbeStop.TheVariants.{WriteFault, NoMemory}
use Rattle.probe_rounds.proofs.JoinLemmas.{answers_join, dues_join, makes_join, makes_none, makes_part, part_of}

-- ---- what is written

pub appends_none : (a : Option (List ℕ)) → Appends a a []
appends_none None = tt
appends_none (Some a) = sym (append-nil a)

appends_join : (a b c : Option (List ℕ)) (xs ys : List ℕ) → Appends a b xs → Appends b c ys → Appends a c (xs ++ ys)
appends_join None b c xs ys h k = tt
appends_join (Some first) None c xs ys h k = absurd h
appends_join (Some first) (Some second) None xs ys h k = absurd k
appends_join (Some first) (Some second) (Some third) xs ys h k = k ∙ ap (λ l. l ++ ys) h ∙ append_assoc first xs ys

-- ---- fronts of a course

begins_as : {T : Type 0} → (front other whole : List T) → front ≡ other → Begins front whole → Begins other whole
begins_as front other whole same h = subst (λ l. Begins l whole) same h

so_same : (calls : List Due) (text : List ℕ) (c d : Course) → d ≡ c → BeginsSo calls text c → BeginsSo calls text d
so_same calls text c d same h = subst (λ x. BeginsSo calls text x) (sym same) h

so_as : (calls others : List Due) (text more : List ℕ) (c : Course) → calls ≡ others → text ≡ more → BeginsSo calls text c → BeginsSo others more c
so_as calls others text more c e f h = (begins_as calls others c.calls e h.0, begins_as text more c.text f h.1)

-- ---- a step that does the same

pub goes_same : (f g : Course → Course) (p q : Stand) → ((c : Course) → g c ≡ f c) → Goes f p q → Goes g p q
goes_same f g p q same h = record {
  contacts = h.contacts;
  text = h.text;
  steps = λ others calls before. same (course p.rows (answers h.contacts ++ others) calls before) ∙ h.steps others calls before;
  makes = h.makes;
  written = h.written;
  sound = h.sound;
}

pub breaks_same : (f g : Course → Course) (p : Stand) (stop : ProbeStop) (d : DialState) (o : OutTells) → ((c : Course) → g c ≡ f c)
    → Breaks f p stop d o → Breaks g p stop d o
breaks_same f g p stop d o same h = record {
  contacts = h.contacts;
  left = h.left;
  text = h.text;
  begins = λ others calls before.
      let c = course p.rows (answers h.contacts ++ others) calls before in
      so_same (calls ++ (dues h.contacts ++ left_dues h.left)) (before ++ h.text) (f c) (g c) (same c) (h.begins others calls before);
  makes = h.makes;
  written = h.written;
  stops = h.stops;
}

pub goes_nowhere : (p : Stand) → Goes (λ c. c) p p
goes_nowhere p = record {
  contacts = [];
  text = [];
  steps = λ others calls before. ap (λ l. course p.rows others l before) (sym (append-nil calls))
      ∙ ap (course p.rows others (calls ++ [])) (sym (append-nil before));
  makes = makes_none p.dial;
  written = appends_none p.out.written;
  sound = refl;
}

-- ---- one after another

-- no write failed before
stops_by : (stop : ProbeStop) (a b c : OutTells) → b.faults ≡ a.faults → StopsBy stop b c → StopsBy stop a c
stops_by WriteFault a b c same h = subst (λ n. Rose n c.faults) same h
stops_by NoMemory a b c same h = h ∙ same

module _ (f g : Course → Course) (p q : Stand) (h : Goes f p q) where
  -- the answers of the calls of two steps
  answers_of_both : (ys : List Contact) (others : List (Option ℕ)) → answers (h.contacts ++ ys) ++ others ≡ answers h.contacts ++ (answers ys ++ others)
  answers_of_both ys others = ap (λ l. l ++ others) (answers_join h.contacts ys) ∙ append_assoc (answers h.contacts) (answers ys) others

  dues_of_both : (calls : List Due) (ys : List Contact) → (calls ++ dues h.contacts) ++ dues ys ≡ calls ++ dues (h.contacts ++ ys)
  dues_of_both calls ys = append_assoc calls (dues h.contacts) (dues ys) ∙ ap (λ l. calls ++ l) (sym (dues_join h.contacts ys))

  first : (ys : List Contact) (others : List (Option ℕ)) (calls : List Due) (before : List ℕ)
      → f (course p.rows (answers (h.contacts ++ ys) ++ others) calls before)
      ≡ course q.rows (answers ys ++ others) (calls ++ dues h.contacts) (before ++ h.text)
  first ys others calls before =
      ap (λ l. f (course p.rows l calls before)) (answers_of_both ys others) ∙ h.steps (answers ys ++ others) calls before

  pub goes_then : (r : Stand) → Goes g q r → Goes (λ c. g (f c)) p r
  goes_then r k = record {
    contacts = h.contacts ++ k.contacts;
    text = h.text ++ k.text;
    steps = λ others calls before. ap g (first k.contacts others calls before)
        ∙ k.steps others (calls ++ dues h.contacts) (before ++ h.text)
        ∙ ap (λ l. course r.rows others l ((before ++ h.text) ++ k.text)) (dues_of_both calls k.contacts)
        ∙ ap (course r.rows others (calls ++ dues (h.contacts ++ k.contacts))) (append_assoc before h.text k.text);
    makes = makes_join h.contacts k.contacts p.dial q.dial r.dial h.makes k.makes;
    written = appends_join p.out.written q.out.written r.out.written h.text k.text h.written k.written;
    sound = k.sound ∙ h.sound;
  }

  pub breaks_then : (stop : ProbeStop) (d : DialState) (o : OutTells) → Breaks g q stop d o → Breaks (λ c. g (f c)) p stop d o
  breaks_then stop d o k = record {
    contacts = h.contacts ++ k.contacts;
    left = k.left;
    text = h.text ++ k.text;
    begins = λ others calls before.
        let c = course p.rows (answers (h.contacts ++ k.contacts) ++ others) calls before in
        let d = course q.rows (answers k.contacts ++ others) (calls ++ dues h.contacts) (before ++ h.text) in
        let there : BeginsSo ((calls ++ dues h.contacts) ++ (dues k.contacts ++ left_dues k.left)) ((before ++ h.text) ++ k.text) (g (f c)) =
        so_same _ _ (g d) (g (f c)) (ap g (first k.contacts others calls before)) (k.begins others (calls ++ dues h.contacts) (before ++ h.text)) in
        let list : (calls ++ dues h.contacts) ++ (dues k.contacts ++ left_dues k.left) ≡ calls ++ (dues (h.contacts ++ k.contacts) ++ left_dues k.left) =
        sym (append_assoc (calls ++ dues h.contacts) (dues k.contacts) (left_dues k.left))
        ∙ ap (λ l. l ++ left_dues k.left) (dues_of_both calls k.contacts)
        ∙ append_assoc calls (dues (h.contacts ++ k.contacts)) (left_dues k.left) in
        so_as _ _ _ _ (g (f c)) list (append_assoc before h.text k.text) there;
    makes = makes_part h.contacts k.contacts k.left p.dial q.dial d h.makes k.makes;
    written = appends_join p.out.written q.out.written o.written h.text k.text h.written k.written;
    stops = stops_by stop p.out q.out o h.sound k.stops;
  }

-- ---- a part of a step

begins_more : {T : Type 0} → (front xs ys : List T) → Begins front xs → Begins xs ys → Begins front ys
begins_more front xs ys h k = (h.0 ++ k.0, k.1 ∙ ap (λ l. l ++ k.0) h.1 ∙ append_assoc front h.0 k.0)

-- a step that broke off is a part of what it is with another step after it
pub breaks_before : (f g : Course → Course) (p : Stand) (stop : ProbeStop) (d : DialState) (o : OutTells) → Extends g → Breaks f p stop d o
    → Breaks (λ c. g (f c)) p stop d o
breaks_before f g p stop d o more h = record {
  contacts = h.contacts;
  left = h.left;
  text = h.text;
  begins = λ others calls before.
      let c = f (course p.rows (answers h.contacts ++ others) calls before) in
      let here = h.begins others calls before in
      let there = more c in
      (begins_more _ c.calls (g c).calls here.0 there.0, begins_more _ c.text (g c).text here.1 there.1);
  makes = h.makes;
  written = h.written;
  stops = h.stops;
}

-- the same of its calls and its text alone
pub begins_before : (f g : Course → Course) (p : Stand) (stop : ProbeStop) (d : DialState) (o : OutTells) → Extends g → (h : Breaks f p stop d o)
    → (others : List (Option ℕ)) (calls : List Due) (before : List ℕ)
    → BeginsSo (calls ++ (dues h.contacts ++ left_dues h.left)) (before ++ h.text) (g (f (course p.rows (answers h.contacts ++ others) calls before)))
begins_before f g p stop d o more h others calls before =
    let c = f (course p.rows (answers h.contacts ++ others) calls before) in
    let here = h.begins others calls before in
    let there = more c in
    (begins_more _ c.calls (g c).calls here.0 there.0, begins_more _ c.text (g c).text here.1 there.1)

-- ---- a call

-- a call, and then a step by its answer
pub asks_then : (due : Due) (answer : Option ℕ) (k : Option ℕ → Course → Course) (p q : Stand) (d : DialState) → Asks due answer p.dial d
    → Goes (k answer) (stand p.rows d p.out) q → Goes (λ c. k (next_answer c.answers) (called due c)) p q
asks_then due answer k p q d a h =
    let made : Makes (a.contact ∷ h.contacts) p.dial q.dial =
    makes_join (a.contact ∷ []) h.contacts p.dial d q.dial a.makes h.makes in
    record {
      contacts = a.contact ∷ h.contacts;
      text = h.text;
      steps = λ others calls before.
          ap (λ n. k n (course p.rows (answers h.contacts ++ others) (calls ++ due ∷ []) before)) a.answer_is
          ∙ h.steps others (calls ++ due ∷ []) before
          ∙ ap (λ l. course q.rows others l (before ++ h.text)) (append_assoc calls (due ∷ []) (dues h.contacts))
          ∙ ap (λ x. course q.rows others (calls ++ x ∷ dues h.contacts) (before ++ h.text)) (sym a.due_is);
      makes = made;
      written = h.written;
      sound = h.sound;
    }

pub asks_breaks : (due : Due) (answer : Option ℕ) (k : Option ℕ → Course → Course) (p : Stand) (d e : DialState) (stop : ProbeStop) (o : OutTells)
    → Asks due answer p.dial d → Breaks (k answer) (stand p.rows d p.out) stop e o
    → Breaks (λ c. k (next_answer c.answers) (called due c)) p stop e o
asks_breaks due answer k p d e stop o a h = record {
  contacts = a.contact ∷ h.contacts;
  left = h.left;
  text = h.text;
  begins = λ others calls before.
      let here = h.begins others (calls ++ due ∷ []) before in
      let c = course p.rows (answers h.contacts ++ others) (calls ++ due ∷ []) before in
      let there : BeginsSo ((calls ++ due ∷ []) ++ (dues h.contacts ++ left_dues h.left)) (before ++ h.text) (k a.contact.answer c) =
      so_same _ _ (k answer c) (k a.contact.answer c) (ap (λ n. k n c) a.answer_is) here in
      let list : (calls ++ due ∷ []) ++ (dues h.contacts ++ left_dues h.left) ≡ calls ++ (a.contact.due ∷ (dues h.contacts ++ left_dues h.left)) =
      append_assoc calls (due ∷ []) (dues h.contacts ++ left_dues h.left)
      ∙ ap (λ x. calls ++ (x ∷ (dues h.contacts ++ left_dues h.left))) (sym a.due_is) in
      so_as _ _ _ _ (k a.contact.answer c) list refl there;
  makes = makes_part (a.contact ∷ []) h.contacts h.left p.dial d e a.makes h.makes;
  written = h.written;
  stops = h.stops;
}

-- memory ran out before the answer
pub asking_breaks : (due : Due) (k : Option ℕ → Course → Course) (p : Stand) (d : DialState) → ((answer : Option ℕ) → Extends (k answer))
    → StopsAsking due p.dial d → Breaks (λ c. k (next_answer c.answers) (called due c)) p NoMemory d p.out
asking_breaks due k p d more (inl same) = record {
  contacts = [];
  left = None;
  text = [];
  begins = λ others calls before.
      let there = more (next_answer others) (called due (course p.rows others calls before)) in (
        begins_more (calls ++ []) (calls ++ due ∷ []) _ (due ∷ [], ap (λ l. l ++ due ∷ []) (sym (append-nil calls))) there.0,
        begins_more (before ++ []) before _ ([], sym (append-nil before) ∙ sym (append-nil (before ++ []))) there.1,
      );
  makes = subst (λ q. MakesPart [] None p.dial q) (sym same) (part_of [] p.dial p.dial (makes_none p.dial));
  written = appends_none p.out.written;
  stops = refl;
}
asking_breaks due k p d more (inr left) = record {
  contacts = [];
  left = Some left.left;
  text = [];
  begins = λ others calls before.
      let there = more (next_answer others) (called due (course p.rows others calls before)) in (
        begins_more (calls ++ left.left.due ∷ []) (calls ++ due ∷ []) _ ([], ap (λ x. calls ++ x ∷ []) (sym left.due_is) ∙ sym (append-nil (calls ++ left.left.due ∷ []))) there.0,
        begins_more (before ++ []) before _ ([], sym (append-nil before) ∙ sym (append-nil (before ++ []))) there.1,
      );
  makes = left.makes;
  written = appends_none p.out.written;
  stops = refl;
}
