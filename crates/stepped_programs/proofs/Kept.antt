-- What is kept of the files of a program after a step.
use Rattle.std.proofs.Common.{◌≡◌, ◌∙◌, ◌⊎◌, inl, inr, sym, ap, subst, ℕ, ◌<◌, false, List, length, Some, arith, slice_set}
use Rattle.std.specs.Prelude.{slice_get}
use Rattle.std.proofs.lemmas.List.{length-set}
use Rattle.std.proofs.lemmas.Option.{slice_get_within}
use Rattle.go_tree.specs.declared.spans.Span.{Span}
use Rattle.go_scan.specs.TokenLists.{TokenLists}
use Rattle.pkg_graph.specs.Package.{SourceTree, Package}
use Rattle.pkg_graph.specs.Reads.{Source}
use Rattle.repeated_parts.specs.UseSearch.MarkValues.Tables.{DeclKey}
use Rattle.step_files.specs.declared.file.NewFile.{NewFile}
use Rattle.step_files.specs.Files.{text_of}
use Rattle.programs.specs.Kept.{IsKeptFile, text_with}
use Rattle.programs.specs.Programs.{AreKeptFiles, IsProgramOf}
use Rattle.programs.specs.Users.{Known}
use Rattle.programs.specs.declared.state.PackageFiles.{PackageFiles}
use Rattle.programs.specs.declared.state.Program.{Program}
use Rattle.splice_laws.proofs.RunLaws.RunsRead.{texts_new}
use Rattle.run_rules.specs.Inlining.{ReadsAs}
use Rattle.run_rules.specs.Marks.{text_at}
use Rattle.run_rules.specs.Respanned.{file_with}
use Rattle.run_rules.specs.Run.{Standing, Logged, Next, here_of}
use Rattle.run_rules.specs.Sites.{MarkRef, Site}
use Rattle.run_rules.specs.Steps.{At}
use Rattle.run_rules.specs.Texts.{FileText}
use Rattle.stepped_programs.proofs.SearchedSites.KeptPrograms.Kept.{There, there, set_here, set_else, nat_cases}
use Rattle.stepped_programs.proofs.Lists.{as_many}
use Rattle.stepped_programs.proofs.SearchedSites.SettledFiles.Left.{text_same}
use Rattle.stepped_programs.proofs.SearchedSites.SettledFiles.Packages.{Before, changed}
use Rattle.stepped_programs.specs.declared.place.StepPlace.{StepPlace}
use Rattle.stepped_programs.specs.Texts.{ArePut}
use Rattle.stepped_programs.specs.Flags.{AreUnsettled, IsUnsettled}
use Rattle.stepped_programs.specs.Steps.{IsStepPut}
use Rattle.stepped_programs.specs.Laws.{IsOfStep}
use Rattle.stepped_programs.proofs.Packages.{file_put, home_put, own_file}
use Rattle.stepped_programs.proofs.Files.{standing_at, LeftFile, left_file}

-- ---- a text that is put

module _ (k i : ℕ) (body : List ℕ) (list : TokenLists) (users : Known) (d : DeclKey) (old between new : List PackageFiles) (put : ArePut k i body list old between) (flags : AreUnsettled users d between new) where
  -- what was kept of a package
  pub record Now (j : ℕ) (fs : PackageFiles) : Type 0 where
    pub was : PackageFiles
    pub was_is : slice_get old j ≡ Some was
    pub texts : length fs.texts.items ≡ length was.texts.items
    pub tokens : length fs.tokens.items ≡ length was.tokens.items
    pub settled : length fs.settled.items ≡ length was.settled.items
    pub text_else : (m : ℕ) → ((j ≡ k) × (m ≡ i) → ⊥) → slice_get fs.texts.items m ≡ slice_get was.texts.items m
    pub tokens_else : (m : ℕ) → ((j ≡ k) × (m ≡ i) → ⊥) → slice_get fs.tokens.items m ≡ slice_get was.tokens.items m
    pub text_here : j ≡ k → i < length was.texts.items → slice_get fs.texts.items i ≡ Some body
    pub tokens_here : j ≡ k → i < length was.tokens.items → slice_get fs.tokens.items i ≡ Some list

  pub as_many_files : length new ≡ length old
  as_many_files = flags.size ∙ ap length put.put ∙ length-set old k put.now

  now_here : (j : ℕ) (fs : PackageFiles) → slice_get new j ≡ Some fs → j ≡ k → Now j fs
  now_here j fs h e =
      let middle : slice_get between j ≡ Some put.now =
      ap (slice_get between) e ∙ ap (λ (ks : List PackageFiles). slice_get ks k) put.put ∙ set_here old k put.now (slice_get_within old k put.was put.was_is) in
      let u : IsUnsettled users d j put.now fs = flags.each j put.now fs middle h in
      let texts : fs.texts.items ≡ slice_set put.was.texts.items i body = u.texts ∙ put.file.texts in
      let tokens : fs.tokens.items ≡ slice_set put.was.tokens.items i list = u.tokens ∙ put.file.tokens in
      record {
        was = put.was;
        was_is = ap (slice_get old) e ∙ put.was_is;
        texts = ap length texts ∙ length-set put.was.texts.items i body;
        tokens = ap length tokens ∙ length-set put.was.tokens.items i list;
        settled = u.flags.size ∙ ap length put.file.flags ∙ length-set put.was.settled.items i false;
        text_else = λ m differ. ap (λ (ts : List (List ℕ)). slice_get ts m) texts ∙ set_else put.was.texts.items i m body (λ g. differ (e, g));
        tokens_else = λ m differ. ap (λ (ts : List TokenLists). slice_get ts m) tokens ∙ set_else put.was.tokens.items i m list (λ g. differ (e, g));
        text_here = λ g r. ap (λ (ts : List (List ℕ)). slice_get ts i) texts ∙ set_here put.was.texts.items i body r;
        tokens_here = λ g r. ap (λ (ts : List TokenLists). slice_get ts i) tokens ∙ set_here put.was.tokens.items i list r;
      }

  now_else : (j : ℕ) (fs : PackageFiles) → slice_get new j ≡ Some fs → (j ≡ k → ⊥) → Now j fs
  now_else j fs h ne =
      let t : There old j = there old j (subst (λ (m : ℕ). j < m) as_many_files (slice_get_within new j fs h)) in
      let middle : slice_get between j ≡ Some t.entry = ap (λ (ks : List PackageFiles). slice_get ks j) put.put ∙ set_else old k j put.now ne ∙ t.is in
      let u : IsUnsettled users d j t.entry fs = flags.each j t.entry fs middle h in
      record {
        was = t.entry;
        was_is = t.is;
        texts = ap length u.texts;
        tokens = ap length u.tokens;
        settled = u.flags.size;
        text_else = λ m differ. ap (λ (ts : List (List ℕ)). slice_get ts m) u.texts;
        tokens_else = λ m differ. ap (λ (ts : List TokenLists). slice_get ts m) u.tokens;
        text_here = λ g r. absurd (ne g);
        tokens_here = λ g r. absurd (ne g);
      }

  pub now_at : (j : ℕ) (fs : PackageFiles) → slice_get new j ≡ Some fs → Now j fs
  now_at j fs h = by (nat_cases j k)
    where
      by : (j ≡ k) ⊎ (j ≡ k → ⊥) → Now j fs
      by (inl e) = now_here j fs h e
      by (inr ne) = now_else j fs h ne

-- ---- in a program

module _ (files : List Source) (marks : List MarkRef) (st : Standing) (l : Logged) (after : Standing) (n : Next marks st l after) (at : StepPlace) (os : List Span) (block : List (List ℕ)) (f : NewFile) (old new : Program)
    (is : IsProgramOf files marks st old) (o : IsOfStep n at os block f) (put : IsStepPut at os block f old new) where
  abbrev x : Site At
  x = n.found.site

  pub files_counted : length new.files.items ≡ length old.files.items
  files_counted = as_many_files at.home at.file f.text f.tokens old.users (at.home, (at.file, at.decl)) old.files.items put.between new.files.items put.texts_are put.flags_are

  module _ (k : ℕ) (h : Package At) (fs : PackageFiles) (package_is : slice_get after.packages k ≡ Some h) (there : slice_get new.files.items k ≡ Some fs) where
    now : Now at.home at.file f.text f.tokens old.users (at.home, (at.file, at.decl)) old.files.items put.between new.files.items put.texts_are put.flags_are k fs
    now = now_at at.home at.file f.text f.tokens old.users (at.home, (at.file, at.decl)) old.files.items put.between new.files.items put.texts_are put.flags_are k fs there

    -- the package before the step
    was : Before (home_put marks st l after n) st.packages x.at.number k h
    was = changed (home_put marks st l after n) st.packages x.at.number k h (ap (λ (ps : List (Package At)). slice_get ps k) (sym n.packages_are) ∙ package_is)

    as_many_there : length h.files ≡ length was.old.files
    as_many_there = by was.which
      where
        by : ((k ≡ x.at.number) × (h ≡ home_put marks st l after n was.old)) ⊎ (h ≡ was.old) → length h.files ≡ length was.old.files
        by (inl e) = ap (λ (p : Package At). length p.files) e.1 ∙ as_many (file_put marks st l after n) x.at.file_number was.old.files
        by (inr e) = ap (λ (p : Package At). length p.files) e

    kept_before : AreKeptFiles st was.old now.was
    kept_before = is.kept k was.old now.was was.there now.was_is

    module _ (i : ℕ) (source : SourceTree At) (file_is : slice_get h.files i ≡ Some source) where
      its_own : k ≡ x.at.number → i ≡ x.at.file_number → IsKeptFile after fs i source
      its_own a b =
          let home : k ≡ at.home = a ∙ sym o.place.home in
          let same : i ≡ at.file = b ∙ sym o.place.file in
          let inside : i < length h.files = slice_get_within h.files i source file_is in
          let texts : at.file < length now.was.texts.items = omega (arith, inside, same, as_many_there, kept_before.counted.texts) in
          let tokens : at.file < length now.was.tokens.items = omega (arith, inside, same, as_many_there, kept_before.counted.tokens) in
          let new_file : source ≡ file_put marks st l after n x.at.source = own_file marks st l after n k i h source a b package_is file_is in
          record {
            text = f.text;
            text_is = ap (slice_get fs.texts.items) same ∙ now.text_here home texts;
            tokens = f.tokens;
            tokens_are = ap (slice_get fs.tokens.items) same ∙ now.tokens_here home tokens;
            stands =
                ap (λ (s : SourceTree At). text_at s.path after.texts) new_file ∙ ap (text_at x.at.source.path) n.texts_are
                ∙ texts_new x.at.source.path n.old n.new st.texts n.stands ∙ ap (λ (t : FileText). Some t) o.text_is;
            reads =
                subst (λ (s : SourceTree At). ReadsAs (text_of f) (file_with here_of s.tree)) (sym new_file)
                (subst (λ (t : FileText). ReadsAs t (file_with here_of n.tree)) o.text_is (record { scans = n.scans; spells = n.spells }));
            small = o.small;
          }

      its_old : ((k ≡ x.at.number) × (i ≡ x.at.file_number) → ⊥) → IsKeptFile after fs i source
      its_old differ =
          let left : LeftFile marks st l after n k i h source = left_file marks st l after n k i h source package_is file_is differ in
          let y : IsKeptFile st now.was i left.was.source = (is.kept k left.was.of now.was left.home_is now.was_is).each i left.was.source left.file_is in
          let apart : (k ≡ at.home) × (i ≡ at.file) → ⊥ = λ e. differ (e.0 ∙ o.place.home, e.1 ∙ o.place.file) in
          record {
            text = y.text;
            text_is = now.text_else i apart ∙ y.text_is;
            tokens = y.tokens;
            tokens_are = now.tokens_else i apart ∙ y.tokens_are;
            stands = text_same marks st l after n left.was (standing_at k i h source) left.left is.paths ∙ y.stands;
            reads = subst (λ (s : SourceTree At). ReadsAs (text_with y.text y.tokens) (file_with here_of s.tree)) left.source_is y.reads;
            small = y.small;
          }

      one_kept : IsKeptFile after fs i source
      one_kept = by (nat_cases k x.at.number) (nat_cases i x.at.file_number)
        where
          by : (k ≡ x.at.number) ⊎ (k ≡ x.at.number → ⊥) → (i ≡ x.at.file_number) ⊎ (i ≡ x.at.file_number → ⊥) → IsKeptFile after fs i source
          by (inl a) (inl b) = its_own a b
          by (inl a) (inr b) = its_old (λ e. b e.1)
          by (inr a) g = its_old (λ e. a e.0)

    pub kept_now : AreKeptFiles after h fs
    kept_now =
        record {
          counted =
              record {
                texts = now.texts ∙ kept_before.counted.texts ∙ sym as_many_there;
                tokens = now.tokens ∙ kept_before.counted.tokens ∙ sym as_many_there;
                flags = now.settled ∙ kept_before.counted.flags ∙ sym as_many_there;
              };
          each = one_kept;
        }
