-- From what is planned for the files that are read to what is written.
use Rattle.std.proofs.Common.{◌≡◌, List, [], ◌∷◌, ◌++◌, ℕ, suc, ◌<◌, Bool, true, false, ◌||◌, cond, map, filter, refl, ap, sym, subst, ◌∙◌, arith}
use Rattle.std.specs.Prelude.{Option, Some, None, IfSome, All, bytes_eq, find, if◌then◌else◌}
use Rattle.std.specs.Option.{option_map}
use Rattle.std.proofs.lemmas.Bool.Decides.{same_from_decides, Decides-like}
use Rattle.std.proofs.lemmas.List.{map-append}
use Rattle.std.proofs.lemmas.List.Elements.{All-cons, All-head, All-tail}
use Rattle.std.proofs.lemmas.Slice.Eq.{bytes_eq-Decides}
use Rattle.fix_io.specs.Files.{HeldFile, IsAscending, paths}
use Rattle.fix_io.specs.Writes.{writes_from}
use Rattle.fix_io.specs.Writes as written
use Rattle.folder_reading.specs.Limits.{AreFew, AreRead, AreWithin, first_too_long}
use Rattle.folder_reading.specs.Sources.{AreOctets, sources_in, source_at}
use Rattle.module_texts.specs.Files.{sources_of}
use Rattle.pkg_graph.specs.ModuleFiles.PathLists.{has_path}
use Rattle.pkg_graph.specs.ModuleFiles.Selected.{is_selected, module_file, selected}
use Rattle.pkg_graph.specs.Reads.{Source, is_at}
use Rattle.run_plans.specs.PlannedFiles.Changes.{files_differing}
use Rattle.run_plans.specs.PlannedFiles.Texts.{text_with_path}
use Rattle.run_plans.specs.declared.planned_files.changed_files.changed.ChangedFile.{ChangedFile}
use Rattle.run_plans.proofs.PlannedFiles.KeptTexts as kept
use Rattle.run_plans.specs.PlannedModules.Folders.{AreFolder, AreOfFolder}
use Rattle.run_plans.specs.PlannedModules.Laws.{TakenModulesPassLimits}
use Rattle.run_plans.specs.PlannedModules.Planned.{IsModulePlan}
use Rattle.run_plans.specs.PlannedModules.Unplanned.{IsUnplanned}
use Rattle.run_plans.specs.declared.planned_modules.plan.Plan.{Plan}
use Rattle.refusals.specs.declared.refusal.Refusal.{Refusal}
use Rattle.run_rules.specs.Marks.{text_at}
use Rattle.run_rules.specs.Run.{bytes_of}
use Rattle.run_rules.specs.Texts.{FileText}
use Rattle.source_files.specs.declared.files.SourceFile.{SourceFile}
use Rattle.fix_run.specs.Files.{AreWritesOf, folder_of, source_of, text_after, texts_of, writes_of}
use Rattle.fix_run.specs.Listed.{lists_module}
use Rattle.fix_run.specs.Refusals.{AreRefused, unplanned}
use Rattle.fix_run.proofs.AfterLemmas.{OnlyRead, only_read, same_text, with_text}
use Rattle.fix_run.proofs.OrderLemmas.{held_folder, paths_selected}
use Rattle.fix_run.proofs.ReadLemmas.{numbered_file, sources_are, sources_from}

-- ---- writes

bytes_eq-sym : (x y : List ℕ) → bytes_eq x y ≡ bytes_eq y x
bytes_eq-sym x y = same_from_decides (bytes_eq x y) (bytes_eq y x) (bytes_eq-Decides x y) (Decides-like (bytes_eq y x) (λ e. sym e) (λ e. sym e) (bytes_eq-Decides y x))

write_same : (k : ℕ) (t : List ℕ) → written.write_of k t t ≡ []
write_same k t = ap (λ b. cond b [] ((k, t) ∷ [])) ((bytes_eq-Decides t t).1 refl)

-- a file that was read, with these bytes, if these are others
abbrev change : SourceFile → Option (List ℕ) → List ChangedFile
change f o = elim o [ None ↦ [] | Some b ↦ if bytes_eq f.bytes b then [] else record { index = f.index; bytes = b } ∷ [] ]

change_writes : (k : ℕ) (f : HeldFile) (o : Option FileText) → writes_of (change (numbered_file k f) (option_map (λ t. t.text) o)) ≡ written.write_of k f.bytes (with_text (source_of f) o).text
change_writes k f None = sym (write_same k f.bytes)
change_writes k f (Some t) = by (bytes_eq f.bytes t.text) (bytes_eq t.text f.bytes) (bytes_eq-sym f.bytes t.text)
  where
    by : (b c : Bool) → b ≡ c → writes_of (cond b [] (record { index = k; bytes = t.text } ∷ [])) ≡ cond c [] ((k, t.text) ∷ [])
    by true true same = refl
    by false false same = refl
    by true false same = absurd cc
    by false true same = absurd cc

changed_writes : (all : List (List ℕ)) (after : List (List ℕ × FileText)) → OnlyRead all after → (k : ℕ) (fs : List HeldFile)
    → writes_of (files_differing (bytes_of after) (sources_from all k fs)) ≡ writes_from k (texts_of fs) (map (text_after after) fs)
changed_writes all after only k [] = refl
changed_writes all after only k (f ∷ fs) = by (is_selected all f.path) refl (changed_writes all after only (suc k) fs)
  where
    rest : List SourceFile
    rest = sources_from all (suc k) fs

    others : List (ℕ × List ℕ)
    others = writes_from (suc k) (texts_of fs) (map (text_after after) fs)

    its : writes_of (change (numbered_file k f) (text_with_path (bytes_of after) f.path)) ≡ written.write_of k f.bytes (text_after after f)
    its = ap (λ o. writes_of (change (numbered_file k f) o)) (kept.bytes_at after f.path) ∙ change_writes k f (text_at f.path after)

    by : (b : Bool) → is_selected all f.path ≡ b → writes_of (files_differing (bytes_of after) rest) ≡ others
        → writes_of (files_differing (bytes_of after) (cond b (numbered_file k f ∷ rest) rest)) ≡ written.write_of k f.bytes (text_after after f) ++ others
    by true e more =
        map-append (λ (c : ChangedFile). (c.index, c.bytes)) (change (numbered_file k f) (text_with_path (bytes_of after) f.path)) (files_differing (bytes_of after) rest)
        ∙ (λ v. its v ++ more v)
    by false e more =
        let none : written.write_of k f.bytes (text_after after f) ≡ [] = ap (written.write_of k f.bytes) (same_text all after only f e) ∙ write_same k f.bytes in
        more ∙ sym (ap (λ ws. ws ++ others) none)

change_below : (f : SourceFile) (o : Option (List ℕ)) (ws : List ChangedFile) (m : ℕ) → f.index < m → All (λ w. w.index < m) ws → All (λ w. w.index < m) (change f o ++ ws)
change_below f None ws m first others = others
change_below f (Some b) ws m first others = by (bytes_eq f.bytes b)
  where
    w : ChangedFile
    w = record { index = f.index; bytes = b }

    by : (c : Bool) → All (λ (v : ChangedFile). v.index < m) (cond c [] (w ∷ []) ++ ws)
    by true = others
    by false = All-cons (λ (v : ChangedFile). v.index < m) w ws first others

pub differing_below : (after : List (List ℕ × List ℕ)) (fs : List SourceFile) (m : ℕ) → All (λ f. f.index < m) fs → All (λ w. w.index < m) (files_differing after fs)
differing_below after [] m all = λ k d within. absurd (omega (arith, within))
differing_below after (f ∷ fs) m all =
    change_below f (text_with_path after f.path) (files_differing after fs) m (All-head (λ (g : SourceFile). g.index < m) f fs all)
    (differing_below after fs m (All-tail (λ (g : SourceFile). g.index < m) f fs all))

-- ---- plans

-- what is planned for the files that are read of any folder
abbrev pub PlannedFor : List ℕ → List SourceFile → Plan → Type 0
PlannedFor only sources p = (folder : List Source) → AreOfFolder folder sources → IsModulePlan folder sources only p

-- why nothing is planned for them
abbrev pub RefusedFor : List ℕ → List SourceFile → Refusal → Type 0
RefusedFor only sources r = (folder : List Source) → AreOfFolder folder sources → IsUnplanned folder sources only r

-- what is read of files that are held and listed
pub record IsHeld (files : List HeldFile) (sources : List SourceFile) : Type 0 where
  pub same : sources ≡ sources_in files
  pub within : AreWithin files
  pub folder : AreOfFolder (folder_of files) (sources_in files)

-- what is listed, and read of it
pub record IsListed (held : Option (List HeldFile)) (listed : List (List ℕ)) (sources : List SourceFile) : Type 0 where
  pub exact : IfSome held (λ files. listed ≡ paths files)
  pub order : IsAscending listed
  pub octets : All AreOctets listed
  pub few : AreFew listed
  pub read : AreRead held listed (selected listed) sources

held_files : (files : List HeldFile) (listed : List (List ℕ)) (sources : List SourceFile) → IsListed (Some files) listed sources → IsHeld files sources
held_files files listed sources is =
    let are = is.read.told is.exact in
    let same : sources ≡ sources_in files = are.0 ∙ ap (λ ps. map (source_at files) (selected ps)) is.exact in
    record {
      same = same;
      within = record { few = subst AreFew is.exact is.few; short = ap (first_too_long 0) (sym same) ∙ are.1 };
      folder = held_folder files (subst IsAscending is.exact is.order) (subst (All AreOctets) is.exact is.octets);
    }

planned_writes : (only : List ℕ) (files : List HeldFile) (p : Plan) → AreWithin files → IsModulePlan (folder_of files) (sources_in files) only p → AreWritesOf only files p
planned_writes only files p within is =
    let t = is.planned.taken in
    record {
      within = within;
      after = is.after;
      planned = is.planned;
      writes = ap writes_of is.writes ∙ ap (λ ss. writes_of (files_differing (bytes_of is.after) ss)) (sources_are files)
          ∙ changed_writes (paths files) is.after (only_read files t.packages t.texts only is.after p.report is.planned.inlining) 0 files;
    }

pub told_writes : (only : List ℕ) (held : Option (List HeldFile)) (listed : List (List ℕ)) (sources : List SourceFile) (p : Plan) → IsListed held listed sources → PlannedFor only sources p
    → IfSome held (λ files. AreWritesOf only files p)
told_writes only None listed sources p is plan = tt
told_writes only (Some files) listed sources p is plan =
    let h = held_files files listed sources is in
    planned_writes only files p h.within ((subst (λ ss. PlannedFor only ss p) h.same plan) (folder_of files) h.folder)

pub told_refused : TakenModulesPassLimits → (only : List ℕ) (held : Option (List HeldFile)) (listed : List (List ℕ)) (sources : List SourceFile) (r : Refusal) → IsListed held listed sources
    → RefusedFor only sources r → IfSome held (λ files. AreRefused only files r)
told_refused law only None listed sources r is why = tt
told_refused law only (Some files) listed sources r is why =
    let h = held_files files listed sources is in
    let u : IsUnplanned (folder_of files) (sources_in files) only r = (subst (λ ss. RefusedFor only ss r) h.same why) (folder_of files) h.folder in
    record { why = unplanned h.within r u; passes = λ t. law (folder_of files) (sources_in files) only r t.taken u }

-- ---- `go.mod`

module_found : (fs : List SourceFile) (t : Source) → find (is_at module_file) (sources_of fs) ≡ Some t → has_path (map (λ (f : SourceFile). f.path) fs) module_file ≡ true
module_found [] t e = absurd cc
module_found (f ∷ fs) t e = by (bytes_eq f.path module_file) (bytes_eq module_file f.path) (bytes_eq-sym f.path module_file) e (module_found fs t)
  where
    first : Source
    first = record { path = f.path; text = f.bytes }

    by : (b c : Bool) → b ≡ c → cond b (Some first) (find (is_at module_file) (sources_of fs)) ≡ Some t
        → (find (is_at module_file) (sources_of fs) ≡ Some t → has_path (map (λ (g : SourceFile). g.path) fs) module_file ≡ true)
        → (c || has_path (map (λ (g : SourceFile). g.path) fs) module_file) ≡ true
    by b true same h more = refl
    by true false same h more = absurd cc
    by false false same h more = more h

among_all : (p : List ℕ → Bool) (ps : List (List ℕ)) (q : List ℕ) → has_path (filter p ps) q ≡ true → has_path ps q ≡ true
among_all p [] q h = h
among_all p (r ∷ ps) q h = by (p r) h (among_all p ps q)
  where
    or_more : (a b c : Bool) → (a || b) ≡ true → (b ≡ true → c ≡ true) → (a || c) ≡ true
    or_more true b c e g = refl
    or_more false b c e g = g e

    or_last : (a c : Bool) → c ≡ true → (a || c) ≡ true
    or_last true c e = refl
    or_last false c e = e

    by : (b : Bool) → has_path (cond b (r ∷ filter p ps) (filter p ps)) q ≡ true → (has_path (filter p ps) q ≡ true → has_path ps q ≡ true) → (bytes_eq q r || has_path ps q) ≡ true
    by true e more = or_more (bytes_eq q r) (has_path (filter p ps) q) (has_path ps q) e more
    by false e more = or_last (bytes_eq q r) (has_path ps q) (more e)

-- files that are planned for are listed with their `go.mod`
pub planned_lists : (only : List ℕ) (held : Option (List HeldFile)) (listed : List (List ℕ)) (sources : List SourceFile) (p : Plan) → AreRead held listed (selected listed) sources
    → AreFolder sources → PlannedFor only sources p → lists_module listed ≡ true
planned_lists only held listed sources p are folder plan =
    let program = (plan (sources_of sources) folder).planned.inlining.read.reads.program in
    let there : has_path (map (λ (f : SourceFile). f.path) sources) module_file ≡ true = module_found sources program.module_text program.module_is in
    among_all (is_selected listed) listed module_file (ap (λ ps. has_path ps module_file) (sym (are.paths_are ∙ paths_selected listed)) ∙ there)

pub planned_below : (only : List ℕ) (sources : List SourceFile) (p : Plan) (m : ℕ) → All (λ f. f.index < m) sources → AreFolder sources → PlannedFor only sources p
    → All (λ w. w.index < m) p.writes.items
planned_below only sources p m all folder plan =
    let is = plan (sources_of sources) folder in
    subst (All (λ (w : ChangedFile). w.index < m)) (sym is.writes) (differing_below (bytes_of is.after) sources m all)
