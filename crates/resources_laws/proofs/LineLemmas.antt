-- What a run merges may stand in a document.
use Rattle.std.proofs.Common.{◌≡◌, ℕ, ◌≤◌, Bool, true, false, ◌||◌, List, [], ◌∷◌, ◌++◌, length, Option, Some, None, Result, Ok, Err, refl, ap, sym, subst, ◌∙◌}
use Rattle.std.proofs.lemmas.List.Folds.{list_any-append}
use Rattle.std.proofs.lemmas.Slice.Eq.{bytes_eq-Decides}
use Rattle.std.specs.List.{AllByRecursion}
use Rattle.std.specs.Prelude.{bytes_eq, IfSome}
use Rattle.std.specs.Str.{is_utf8}
use Rattle.json_value.specs.Results.{◌>>=◌}
use Rattle.apiservice_rows.specs.Row.{Row}
use Rattle.apiservice_rows.specs.RowList.{read_rows}
use Rattle.apiservice_rows.specs.declared.fault.RowFault.{RowFault}
use Rattle.apiservice_rows.specs.declared.fault.RowFault.TheVariants as row_fault
use Rattle.apiservice_rows.specs.declared.row_list.TheConstants.{MOST_ROWS}
use Rattle.apiservice_table.specs.Table.{HasDistinctNames, Table, with_rows}
use Rattle.command_ends.specs.Ports.{Told}
use Rattle.front_config.specs.Load.{Reads, bytes_in, endpoints_of, load_of, opened, policy_of, rows_answer, table_in, table_of, tokens_of}
use Rattle.front_config.specs.declared.fault.LoadFault.{LoadFault}
use Rattle.front_config.specs.declared.fault.Which.TheVariants as file
use Rattle.front_config.specs.declared.files.Loaded.{Loaded}
use Rattle.command_options.specs.declared.files.FileNames.{FileNames}
use Rattle.group_resources.specs.Lines.{AreLines, AreNew, IsArray, IsLine, has_version}
use Rattle.group_resources.specs.Lists.{Lists}
use Rattle.group_resources.specs.Merged.{kept_of, merged_by, merged_of}
use Rattle.group_resources.specs.declared.line.MergedLine.{MergedLine}
use Rattle.resource_fetch.specs.Fetched.{Asking, Fetches, IsListing, IsLong, listed_in}
use Rattle.resource_fetch.specs.Fetched as fetched_spec
use Rattle.resource_fetch.specs.declared.listing.Listing.{Listing}
use Rattle.resource_fetch.specs.declared.listing.Listing.TheVariants as listing
use Rattle.service_calls.specs.Calls.{DialState}
use Rattle.service_calls.specs.declared.reply.Fetched.{Fetched}
use Rattle.service_calls.specs.declared.reply.Fetched.TheVariants as fetched
use Rattle.resources_command.specs.Config.{Configures, HasPrevious}
use Rattle.resources_command.specs.Order.{asked_of, name_of}
use Rattle.resources_command.specs.Run.{FetchesAll, FetchesIf, asked, merged, order}
use Rattle.resources_command.specs.declared.group_versions.GroupVersion.{GroupVersion}
use Rattle.resources_command.specs.declared.settings.Settings.{Settings}
use Rattle.resources_laws.proofs.ListLemmas.{Apart, all_both, all_weaker}
use Rattle.resources_laws.proofs.OrderLemmas.{IsText, NamesApart, order_apart, order_is_text}
use Rattle.resources_laws.proofs.RowLemmas.{AreSpelled, NamesDiffer, apart_with_rows, from_none, names_apart, read_are, spelled_with}

-- ---- the laws of lower crates

abbrev pub RowsLaw : Type 0
RowsLaw = (bytes : List ℕ) (rows : List Row) → read_rows bytes ≡ Ok rows → (length rows ≤ MOST_ROWS) × HasDistinctNames rows

abbrev pub ArrayLaw : Type 0
ArrayLaw = (version : List ℕ) (status : ℕ) (body resources : List ℕ) → Lists version status body resources → IsArray resources

abbrev pub LineLaw : Type 0
LineLaw = (version : List ℕ) (fetched : Option (List ℕ)) (previous : List MergedLine) → is_utf8 version ≡ true → IfSome fetched IsArray
    → AreLines previous → IsLine (merged_of version fetched previous)

-- ---- the table of a configuration

pub record AreRows (rows : List Row) : Type 0 where
  pub spelled : AreSpelled rows
  pub apart : Apart NamesDiffer rows

opened_are : RowsLaw → (bytes : List ℕ) (rows : List Row) → read_rows bytes ≡ Ok rows → AreRows (with_rows rows [])
opened_are law bytes rows e = record {
  spelled = spelled_with rows [] (read_are bytes rows e) tt;
  apart = apart_with_rows rows [] (names_apart rows (law bytes rows e).1) (from_none rows) tt;
}

none_are : AreRows (with_rows [] [])
none_are = record { spelled = tt; apart = tt }

table_from : (table : Table) (rows : List Row) → AreRows (with_rows rows []) → ◌≡◌ {A = Result Table LoadFault} (Ok (opened rows)) (Ok table)
    → AreRows table.rows
table_from table rows h e =
    let same : opened rows ≡ table = cc e in
    subst (λ (t : Table). AreRows t.rows) same h

answered : RowsLaw → (bytes : List ℕ) (answer : Result (List Row) RowFault) (table : Table) → read_rows bytes ≡ answer
    → (rows_answer bytes answer >>= (λ rows. Ok (opened rows))) ≡ Ok table → AreRows table.rows
answered law bytes (Ok rows) table is e = table_from table rows (opened_are law bytes rows is) e
answered law bytes (Err row_fault.NoMemory) table is e = absurd (cc e)
answered law bytes (Err row_fault.NotJson) table is e = absurd (cc e)
answered law bytes (Err fault) table is e = absurd (cc e)

in_table : RowsLaw → (found : Option (List ℕ)) (table : Table) → table_in found ≡ Ok table → AreRows table.rows
in_table law None table e = table_from table [] none_are e
in_table law (Some bytes) table e = answered law bytes (read_rows bytes) table refl e

of_read : RowsLaw → (found : Result (Option (List ℕ)) LoadFault) (table : Table) → (found >>= table_in) ≡ Ok table → AreRows table.rows
of_read law (Ok found) table e = in_table law found table e
of_read law (Err fault) table e = absurd (cc e)

-- ---- what was loaded

abbrev IfLoaded : {A : Type 0} → (A → Type 0) → Result A LoadFault → Type 0
IfLoaded P (Ok a) = P a
IfLoaded P (Err fault) = Unit {0}

after_any : {A B : Type 0} (first : Result A LoadFault) (next : A → Result B LoadFault) (Q : B → Type 0)
    → ((a : A) → first ≡ Ok a → IfLoaded Q (next a)) → IfLoaded Q (first >>= next)
after_any (Ok a) next Q f = f a refl
after_any (Err fault) next Q f = tt

loaded_is : RowsLaw → (names : FileNames) (reads : Reads) → IfLoaded (λ (loaded : Loaded). AreRows loaded.table.rows) (load_of names reads)
unfolding load_of
loaded_is law names reads =
    after_any (tokens_of names.tokens reads.tokens) _ (λ (loaded : Loaded). AreRows loaded.table.rows) (λ records a.
    after_any (policy_of names.policy reads.policy) _ (λ (loaded : Loaded). AreRows loaded.table.rows) (λ rules b.
    after_any (table_of names.services reads.services) _ (λ (loaded : Loaded). AreRows loaded.table.rows) (λ table e.
    after_any (endpoints_of names.endpoints reads.endpoints) _ (λ (loaded : Loaded). AreRows loaded.table.rows) (λ endpoints d.
    of_read law (bytes_in file.Services names.services reads.services) table e))))

rows_are : RowsLaw → (words : List (List ℕ)) (told : Told) (settings : Settings) → Configures words told settings → AreRows settings.table.rows
rows_are law words told settings c =
    let loads = c.says.loads in
    subst (λ (t : Table). AreRows t.rows) (sym c.says.table_is)
    (subst (λ (r : Result Loaded LoadFault). IfLoaded (λ (loaded : Loaded). AreRows loaded.table.rows) r) loads.load
    (loaded_is law c.own.names loads.reads))

previous_by : (told : Told) (name : Option (List ℕ)) (lines : List MergedLine) → HasPrevious told name lines → AreLines lines
previous_by told None lines e = subst AreLines (sym e) (record { each = tt; distinct = tt })
previous_by told (Some name) lines h = h.2.lines_are

-- ---- what came of the servers

replied : ArrayLaw → (version : List ℕ) (reply : Fetched) (resources : List ℕ) → fetched_spec.Reads version reply (listing.Listed resources)
    → IsArray resources
replied law version (fetched.Reply status body) resources h = law version status body resources h
replied law version (fetched.TooLong status) resources h = absurd h
replied law version fetched.NoReply resources h = absurd (cc h)
replied law version fetched.NotDialed resources h = absurd (cc h)
replied law version fetched.LinkFault resources h = absurd (cc h)

asked_array : ArrayLaw → (own : Asking) (m n : DialState) (got : Listing) → Fetches own m n got → IfSome (listed_in got) IsArray
asked_array law own m n (listing.Listed resources) h = replied law own.version h.reply resources h.reads
asked_array law own m n listing.NotAsked h = tt
asked_array law own m n listing.NotDialed h = tt
asked_array law own m n listing.LinkFault h = tt
asked_array law own m n listing.NoReply h = tt
asked_array law own m n (listing.OtherStatus status) h = tt
asked_array law own m n listing.TooLong h = tt
asked_array law own m n listing.NoList h = tt

got_array : ArrayLaw → (own : Option Asking) (m n : DialState) (got : Listing) → FetchesIf own m n got → IfSome (listed_in got) IsArray
got_array law None m n got h = subst (λ (g : Listing). IfSome (listed_in g) IsArray) (sym h.1) tt
got_array law (Some own) m n got h = asked_array law own m n got h

-- ---- the lines

version_is : (version : List ℕ) (fetched kept : Option (List ℕ)) → (merged_by version fetched kept).group_version ≡ version
version_is version (Some own) kept = refl
version_is version None (Some own) = refl
version_is version None None = refl

lines_are : ArrayLaw → LineLaw → (settings : Settings) (all : List GroupVersion) (m n : DialState) (gots : List Listing) → AreLines settings.previous
    → AllByRecursion IsText all → FetchesAll (asked settings all) m n gots → AllByRecursion IsLine (merged settings.previous all gots)
lines_are arrays law settings [] m n gots h texts f = tt
lines_are arrays law settings (own ∷ all) m n [] h texts f = tt
lines_are arrays law settings (own ∷ all) m n (got ∷ gots) h texts f = (
  law (name_of own) (listed_in got) settings.previous texts.0
      (got_array arrays (asked_of settings.table.rows settings.endpoints own) m f.0 got f.1) h,
  lines_are arrays law settings all f.0 n gots h texts.1 f.2,
)

-- no line before has its group version
abbrev IsNewTo : List MergedLine → GroupVersion → Type 0
IsNewTo before own = has_version (name_of own) before ≡ false

not_equal : (a b : List ℕ) → (a ≡ b → ⊥) → bytes_eq a b ≡ false
not_equal a b d = by_test (bytes_eq a b) (bytes_eq-Decides a b).0
  where
    by_test : (t : Bool) → (t ≡ true → a ≡ b) → t ≡ false
    by_test true h = absurd (d (h refl))
    by_test false h = refl

either_false : (a b : Bool) → a ≡ false → b ≡ false → (a || (b || false)) ≡ false
either_false true b e f = absurd (cc e)
either_false false true e f = absurd (cc f)
either_false false false e f = refl

new_to_more : (before : List MergedLine) (line : MergedLine) (own other : GroupVersion) → line.group_version ≡ name_of own → NamesApart own other
    → IsNewTo before other → IsNewTo (before ++ line ∷ []) other
new_to_more before line own other is d new =
    list_any-append (λ (l : MergedLine). bytes_eq l.group_version (name_of other)) before (line ∷ [])
    ∙ either_false (has_version (name_of other) before) (bytes_eq line.group_version (name_of other)) new
    (not_equal line.group_version (name_of other) (λ e. d (sym is ∙ e)))

new_lines : (before previous : List MergedLine) (all : List GroupVersion) (gots : List Listing) → AllByRecursion (IsNewTo before) all
    → Apart NamesApart all → AreNew before (merged previous all gots)
new_lines before previous [] gots new a = tt
new_lines before previous (own ∷ all) [] new a = tt
new_lines before previous (own ∷ all) (got ∷ gots) new a =
    let line = merged_of (name_of own) (listed_in got) previous in
    let is : line.group_version ≡ name_of own = version_is (name_of own) (listed_in got) (kept_of (name_of own) previous) in (
      ap (λ (v : List ℕ). has_version v before) is ∙ new.0,
      new_lines (before ++ line ∷ []) previous all gots
          (all_weaker (λ other. NamesApart own other × IsNewTo before other) (IsNewTo (before ++ line ∷ []))
          (λ other h. new_to_more before line own other is h.0 h.1) all (all_both (NamesApart own) (IsNewTo before) all a.0 new.1))
          a.1,
    )

none_before : (all : List GroupVersion) → AllByRecursion (IsNewTo []) all
none_before [] = tt
none_before (own ∷ all) = (refl, none_before all)

pub merged_are : RowsLaw → ArrayLaw → LineLaw → (words : List (List ℕ)) (told : Told) (settings : Settings) (m n : DialState) (gots : List Listing)
    → Configures words told settings → FetchesAll (asked settings (order settings)) m n gots → AreLines (merged settings.previous (order settings) gots)
merged_are rows arrays law words told settings m n gots c f =
    let own = rows_are rows words told settings c in
    let texts = order_is_text settings.table.rows own.spelled own.apart in
    record {
      each = lines_are arrays law settings (order settings) m n gots (previous_by told c.own.previous settings.previous c.says.previous_is) texts f;
      distinct = new_lines [] settings.previous (order settings) gots (none_before (order settings))
          (order_apart settings.table.rows own.spelled own.apart);
    }
