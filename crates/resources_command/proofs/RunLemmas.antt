-- Group versions asked for one after another, and the lines that were written.
use Rattle.std.proofs.Common.{◌≡◌, ℕ, Bool, true, false, ◌||◌, ◌+◌, ◌<◌, ◌≤◌, ◌⊎◌, List, [], ◌∷◌, ◌++◌, length, take, drop, get_or, Option, Some, None, refl, sym, ap, subst, ◌∙◌, append_assoc, append-nil, inl, inr}
use Rattle.std.proofs.KnownBytes.{Appends-trans}
use Rattle.std.proofs.Math.Seq.{take-append-add, take-length}
use Rattle.std.proofs.lemmas.List.{drop_more, take_all, take_more}
use Rattle.std.specs.Io.KnownBytes.{Appends}
use Rattle.front_ports.specs.Told.{Adds}
use Rattle.front_ports.specs.Written.{AppendsFront}
use Rattle.group_resources.specs.Lines.{document}
use Rattle.command_ends.specs.Ports.{HasFailed, IsSound, Port}
use Rattle.resource_fetch.specs.Fetched.{Asking}
use Rattle.resource_fetch.specs.declared.listing.Listing.{Listing}
use Rattle.service_calls.specs.Calls.{DialState}
use Rattle.resources_command.specs.Notes.{Unlisted, any_listed, is_listed, note_of}
use Rattle.resources_command.specs.Order.{asked_of}
use Rattle.resources_command.specs.Run.{CutsOne, FetchesAll, FetchesIf, Merges, MergesPart, MergesTo, NotWritten, NotesState, StopsAt, StopsIf, WritesOne, asked, end_of, line_for, merged, status_of, unlisted}
use Rattle.resources_command.specs.declared.group_versions.GroupVersion.{GroupVersion}
use Rattle.resources_command.specs.declared.run.LineStop.{LineStop}
use Rattle.resources_command.specs.declared.run.LineStop.TheVariants as stop
use Rattle.resources_command.specs.declared.settings.Settings.{Settings}

fetches_more : (owns : List (Option Asking)) (own : Option Asking) (m k n : DialState) (gots : List Listing) (got : Listing)
    → FetchesAll owns m k gots → FetchesIf own k n got → FetchesAll (owns ++ own ∷ []) m n (gots ++ got ∷ [])
fetches_more [] own m k n [] got h f = (n, subst (λ (s : DialState). FetchesIf own s n got) h f, refl)
fetches_more [] own m k n (g ∷ gs) got h f = absurd h
fetches_more (o ∷ os) own m k n [] got h f = absurd h
fetches_more (o ∷ os) own m k n (g ∷ gs) got h f = (h.0, h.1, fetches_more os own h.0 k n gs got h.2 f)

asked_more : (settings : Settings) (all : List GroupVersion) (own : GroupVersion)
    → asked settings (all ++ own ∷ []) ≡ asked settings all ++ asked_of settings.table.rows settings.endpoints own ∷ []
asked_more settings [] own = refl
asked_more settings (a ∷ all) own =
    ap (λ (rest : List (Option Asking)). asked_of settings.table.rows settings.endpoints a ∷ rest) (asked_more settings all own)

merged_more : (settings : Settings) (all : List GroupVersion) (own : GroupVersion) (m k : DialState) (gots : List Listing) (got : Listing)
    → FetchesAll (asked settings all) m k gots
    → document (merged settings.previous (all ++ own ∷ []) (gots ++ got ∷ [])) ≡ document (merged settings.previous all gots) ++ line_for settings own got
merged_more settings [] own m k [] got h = append-nil (line_for settings own got)
merged_more settings [] own m k (g ∷ gs) got h = absurd h
merged_more settings (a ∷ all) own m k [] got h = absurd h
merged_more settings (a ∷ all) own m k (g ∷ gs) got h =
    ap (λ (rest : List ℕ). line_for settings a g ++ rest) (merged_more settings all own h.0 k gs got h.2)
    ∙ sym (append_assoc (line_for settings a g) (document (merged settings.previous all gs)) (line_for settings own got))

unlisted_more : (settings : Settings) (all : List GroupVersion) (own : GroupVersion) (m k : DialState) (gots : List Listing) (got : Listing)
    → FetchesAll (asked settings all) m k gots → unlisted (all ++ own ∷ []) (gots ++ got ∷ []) ≡ unlisted all gots ++ note_of own got
unlisted_more settings [] own m k [] got h = append-nil (note_of own got)
unlisted_more settings [] own m k (g ∷ gs) got h = absurd h
unlisted_more settings (a ∷ all) own m k [] got h = absurd h
unlisted_more settings (a ∷ all) own m k (g ∷ gs) got h =
    ap (λ (rest : List Unlisted). note_of a g ++ rest) (unlisted_more settings all own h.0 k gs got h.2)
    ∙ sym (append_assoc (note_of a g) (unlisted all gs) (note_of own got))

or_false : (b : Bool) → (b || false) ≡ b
or_false true = refl
or_false false = refl

or_assoc : (a b c : Bool) → (a || (b || c)) ≡ ((a || b) || c)
or_assoc true b c = refl
or_assoc false b c = refl

listed_more : (gots : List Listing) (got : Listing) → any_listed (gots ++ got ∷ []) ≡ (any_listed gots || is_listed got)
listed_more [] got = or_false (is_listed got)
listed_more (g ∷ gs) got =
    ap (λ (b : Bool). is_listed g || b) (listed_more gs got) ∙ or_assoc (is_listed g) (any_listed gs) (is_listed got)

adds_more : (a b c : Option (List Unlisted)) (xs ys : List Unlisted) → Adds a b xs → Adds b c ys → Adds a c (xs ++ ys)
adds_more None b c xs ys h k = subst (λ (o : Option (List Unlisted)). Adds o c ys) h k
adds_more (Some zs) b c xs ys h k =
    subst (λ (o : Option (List Unlisted)). Adds o c ys) h k ∙ ap (λ (l : List Unlisted). Some l) (append_assoc zs xs ys)

adds_none : (a : Option (List Unlisted)) → Adds a a []
adds_none None = refl
adds_none (Some zs) = ap (λ (l : List Unlisted). Some l) (sym (append-nil zs))

-- ---- how far a run has come

-- so many group versions were asked for, and their lines were written
pub record SoFar (settings : Settings) (all : List GroupVersion) (m n : DialState) (w0 w1 : Option (List ℕ)) (o0 o1 : Option (List Unlisted))
    (listed : Bool) : Type 0 where
  pub gots : List Listing
  pub fetches : FetchesAll (asked settings all) m n gots
  pub writes : Appends w0 w1 (document (merged settings.previous all gots))
  pub noted : Adds o0 o1 (unlisted all gots)
  pub listed_is : any_listed gots ≡ listed

module _ (settings : Settings) (all : List GroupVersion) (own : GroupVersion) (m k n : DialState) (w0 w1 w2 : Option (List ℕ))
    (o0 o1 o2 : Option (List Unlisted)) (listed : Bool) where
  asks : (gots : List Listing) (got : Listing) → FetchesAll (asked settings all) m k gots
      → FetchesIf (asked_of settings.table.rows settings.endpoints own) k n got → FetchesAll (asked settings (all ++ own ∷ [])) m n (gots ++ got ∷ [])
  asks gots got h f =
      subst (λ (owns : List (Option Asking)). FetchesAll owns m n (gots ++ got ∷ [])) (sym (asked_more settings all own))
      (fetches_more (asked settings all) (asked_of settings.table.rows settings.endpoints own) m k n gots got h f)

  pub one_more : (one : Bool) → SoFar settings all m k w0 w1 o0 o1 listed → WritesOne settings own k n w1 w2 o1 o2 one
      → SoFar settings (all ++ own ∷ []) m n w0 w2 o0 o2 (listed || one)
  one_more one s w = record {
    gots = s.gots ++ w.got ∷ [];
    fetches = asks s.gots w.got s.fetches w.fetches;
    writes = subst (λ (text : List ℕ). Appends w0 w2 text) (sym (merged_more settings all own m k s.gots w.got s.fetches))
        (Appends-trans w0 w1 w2 (document (merged settings.previous all s.gots)) (line_for settings own w.got) s.writes w.writes);
    noted = subst (Adds o0 o2) (sym (unlisted_more settings all own m k s.gots w.got s.fetches))
        (adds_more o0 o1 o2 (unlisted all s.gots) (note_of own w.got) s.noted w.noted);
    listed_is = listed_more s.gots w.got ∙ ap (λ (b : Bool). b || is_listed w.got) s.listed_is ∙ ap (λ (b : Bool). listed || b) w.listed_is;
  }

  -- the next line was cut
  pub record SoFarCut : Type 0 where
    pub gots : List Listing
    pub fetches : FetchesAll (asked settings (all ++ own ∷ [])) m n gots
    pub writes : AppendsFront w0 w2 (document (merged settings.previous (all ++ own ∷ []) gots))

  pub one_cut : SoFar settings all m k w0 w1 o0 o1 listed → CutsOne settings own k n w1 w2 → SoFarCut
  one_cut s c =
      let before = document (merged settings.previous all s.gots) in
      let line = line_for settings own c.got in
      let whole : List ℕ = document (merged settings.previous (all ++ own ∷ []) (s.gots ++ c.got ∷ [])) in
      let is : whole ≡ before ++ line = merged_more settings all own m k s.gots c.got s.fetches in
      record {
        gots = s.gots ++ c.got ∷ [];
        fetches = asks s.gots c.got s.fetches c.fetches;
        writes = (
          length before + c.writes.0,
          subst (λ (text : List ℕ). Appends w0 w2 text)
              (sym (ap (take (length before + c.writes.0)) is ∙ take-append-add before line c.writes.0))
              (Appends-trans w0 w1 w2 before (take c.writes.0 line) s.writes c.writes.1),
        );
      }

stops_none : (owns : List (Option Asking)) (n : DialState) → StopsAt owns n n
stops_none [] n = refl
stops_none (None ∷ owns) n = refl
stops_none (Some own ∷ owns) n = inl (inl refl)

all_of : (w0 w1 : Option (List ℕ)) (text : List ℕ) → Appends w0 w1 text → AppendsFront w0 w1 text
all_of w0 w1 text h = (length text, subst (Appends w0 w1) (sym (take-length text)) h)

-- it ends in the line of the next group version
pub cut_at : (settings : Settings) (all : List GroupVersion) (i : ℕ) (own : GroupVersion) (m k n : DialState) (output : Port) (w1 : Option (List ℕ))
    (o0 o1 : Option (List Unlisted)) (listed : Bool) → take (i + 1) all ≡ take i all ++ own ∷ []
    → SoFar settings (take i all) m k output.before.told w1 o0 o1 listed
    → CutsOne settings own k n w1 output.after.told → MergesPart settings all m n output
cut_at settings all i own m k n output w1 o0 o1 listed e s c =
    let cut = one_cut settings (take i all) own m k n output.before.told w1 output.after.told o0 o1 o1 listed s c in
    record {
      count = i + 1;
      gots = cut.gots;
      reached = n;
      fetches = subst (λ (some : List GroupVersion). FetchesAll (asked settings some) m n cut.gots) (sym e) cut.fetches;
      stops = stops_none (asked settings (drop (i + 1) all)) n;
      writes = subst (λ (some : List GroupVersion). AppendsFront output.before.told output.after.told (document (merged settings.previous some cut.gots)))
          (sym e) cut.writes;
    }

-- it ends before the line of the next group version
pub stopped_at : (settings : Settings) (all : List GroupVersion) (i : ℕ) (own : GroupVersion) (others : List GroupVersion) (m k n : DialState) (output : Port)
    (o0 o1 : Option (List Unlisted)) (listed : Bool) → drop i all ≡ own ∷ others
    → SoFar settings (take i all) m k output.before.told output.after.told o0 o1 listed
    → StopsIf (asked_of settings.table.rows settings.endpoints own) k n → MergesPart settings all m n output
stopped_at settings all i own others m k n output o0 o1 listed e s h = record {
  count = i;
  gots = s.gots;
  reached = k;
  fetches = s.fetches;
  stops = subst (λ (rest : List GroupVersion). StopsAt (asked settings rest) k n) (sym e) h;
  writes = all_of output.before.told output.after.told (document (merged settings.previous (take i all) s.gots)) s.writes;
}

-- nothing was asked for yet
pub nothing_yet : (settings : Settings) (m : DialState) (w : Option (List ℕ)) (o : Option (List Unlisted)) → Appends w w []
    → SoFar settings [] m m w w o o false
nothing_yet settings m w o h = record { gots = []; fetches = refl; writes = h; noted = adds_none o; listed_is = refl }

pub none_asked : (settings : Settings) (all : List GroupVersion) (m : DialState) (output : Port) → Appends output.before.told output.after.told []
    → MergesPart settings all m m output
none_asked settings all m output h = record {
  count = 0;
  gots = [];
  reached = m;
  fetches = refl;
  stops = stops_none (asked settings all) m;
  writes = (0, h);
}

-- the group versions up to one, and those from it on
upto : (all : List GroupVersion) (i : ℕ) (own : GroupVersion) → i < length all → own ≡ get_or all i own → take (i + 1) all ≡ take i all ++ own ∷ []
upto all i own lt is = take_more all i own lt ∙ ap (λ (x : GroupVersion). take i all ++ x ∷ []) (sym is)

here : (all : List GroupVersion) (i : ℕ) (own : GroupVersion) → i < length all → own ≡ get_or all i own → drop i all ≡ own ∷ drop (i + 1) all
here all i own lt is = drop_more all i own lt ∙ ap (λ (x : GroupVersion). x ∷ drop (i + 1) all) (sym is)

pub more_written : (settings : Settings) (all : List GroupVersion) (i : ℕ) (own : GroupVersion) (m k n : DialState) (w0 w1 w2 : Option (List ℕ))
    (o0 o1 o2 : Option (List Unlisted)) (listed one : Bool) → i < length all → own ≡ get_or all i own
    → SoFar settings (take i all) m k w0 w1 o0 o1 listed → WritesOne settings own k n w1 w2 o1 o2 one
    → SoFar settings (take (i + 1) all) m n w0 w2 o0 o2 (listed || one)
more_written settings all i own m k n w0 w1 w2 o0 o1 o2 listed one lt is s w =
    subst (λ (some : List GroupVersion). SoFar settings some m n w0 w2 o0 o2 (listed || one)) (sym (upto all i own lt is))
    (one_more settings (take i all) own m k n w0 w1 w2 o0 o1 o2 listed one s w)

module _ (settings : Settings) (all : List GroupVersion) (i : ℕ) (own : GroupVersion) (m k n : DialState) (output : Port) (w1 : Option (List ℕ))
    (o0 o1 : Option (List Unlisted)) (notes : NotesState) (listed : Bool) (lt : i < length all) (is : own ≡ get_or all i own)
    (s : SoFar settings (take i all) m k output.before.told w1 o0 o1 listed) where
  cut_here : CutsOne settings own k n w1 output.after.told → MergesPart settings all m n output
  cut_here c = cut_at settings all i own m k n output w1 o0 o1 listed (upto all i own lt is) s c

  stopped_here : output.after.told ≡ w1 → StopsIf (asked_of settings.table.rows settings.endpoints own) k n → MergesPart settings all m n output
  stopped_here e f =
      stopped_at settings all i own (drop (i + 1) all) m k n output o0 o1 listed (here all i own lt is)
      (subst (λ (w : Option (List ℕ)). SoFar settings (take i all) m k output.before.told w o0 o1 listed) (sym e) s) f

  stopped_or_cut : output.after.told ≡ w1
      → StopsIf (asked_of settings.table.rows settings.endpoints own) k n ⊎ CutsOne settings own k n w1 output.after.told → MergesPart settings all m n output
  stopped_or_cut e (inl f) = stopped_here e f
  stopped_or_cut e (inr c) = cut_here c

  pub not_written : (rose : Type 0) (stop : LineStop) → (rose → HasFailed output) → NotWritten settings own k n w1 output.after.told rose stop
      → MergesTo settings all m n output notes (status_of stop)
  not_written rose stop.WriteFault go h = (go h.1, cut_here h.0)
  not_written rose stop.NoMemory go h = stopped_or_cut h.0 h.1

-- all were asked for
pub all_written : (settings : Settings) (all : List GroupVersion) (i : ℕ) (m n : DialState) (output : Port) (notes : NotesState) (listed : Bool)
    → length all ≤ i → SoFar settings (take i all) m n output.before.told output.after.told notes.before notes.after listed → IsSound output
    → Merges settings all listed m n output notes
all_written settings all i m n output notes listed le s sound =
    let whole : SoFar settings all m n output.before.told output.after.told notes.before notes.after listed =
    subst (λ (some : List GroupVersion). SoFar settings some m n output.before.told output.after.told notes.before notes.after listed) (take_all i all le) s in
    record { gots = whole.gots; fetches = whole.fetches; writes = whole.writes; noted = whole.noted; listed_is = whole.listed_is; sound = sound }

-- the status says whether one was listed
pub all_ended : (settings : Settings) (all : List GroupVersion) (m n : DialState) (output : Port) (notes : NotesState) (listed : Bool)
    → Merges settings all listed m n output notes → MergesTo settings all m n output notes (end_of listed)
all_ended settings all m n output notes true h = h
all_ended settings all m n output notes false h = h
