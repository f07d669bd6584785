-- Why a module isn't read.
use Rattle.std.proofs.Common.{◌≡◌, ◌∙◌, ◌+◌, ℕ, Bool, true, false, cond, List, [], ◌∷◌, ◌++◌, length, map, refl, ap, subst, arith, All}
use Rattle.std.proofs.lemmas.List.{get_or-append-add, get_or_append_left, length-append}
use Rattle.std.proofs.lemmas.List.Elements.{All-map}
use Rattle.go_tree.specs.declared.spans.Span.{Span}
use Rattle.go_tree.specs.declared.tokens.Token.{Token}
use Rattle.go_tree.specs.declared.tokens.Comment.{Comment}
use Rattle.pkg_graph.specs.ModuleFiles.ModuleFile.{is_module}
use Rattle.pkg_graph.specs.declared.module_files.faults.GraphError.{GraphError}
use Rattle.pkg_graph.specs.declared.module_files.faults.GraphError.TheVariants.{NoModuleLine, OldGo, MixedPackage, NoPackage, Cycle, Internal, NoMemory}
use Rattle.pkg_graph.specs.Reads.{Source, AreTrees}
use Rattle.pkg_graph.specs.GraphFaults.{IsGraphFault}
use Rattle.pkg_graph.specs.Package as pure
use Rattle.run_rules.specs.Inlining.{IsSourceFile}
use Rattle.module_texts.specs.declared.faults.TextFault.TheVariants.{NotUtf8, BadToken, Unsupported, TooDeep, NotRead}
use Rattle.module_texts.specs.declared.faults.ReadFault.{ReadFault}
use Rattle.module_texts.specs.declared.faults.ReadFault.TheVariants.{Text, Module}
use Rattle.source_files.specs.declared.files.SourceFile.{SourceFile}
use Rattle.module_texts.specs.declared.files.ScannedFile.{ScannedFile}
use Rattle.module_texts.specs.Files.{AreScanned, IsScanned, go_files, is_go_file, source_of, sources_of}
use Rattle.module_texts.specs.Refusals.{Fails, FailsFirst, HasSupportedWords, HasTokens, HasWords, IsShallow, NestsWithin, RefusesScan, RefusesTrees, RefusesWords, SpellsAFile, WithTokens}
use Rattle.module_texts.specs.Modules.{Refuses, RefusesModule, RefusesPackages, go_sources, module_answer}
use Rattle.module_texts.proofs.Lemmas.{fails_map, fails_weaker}

all_left : {A : Type 0} (P : A → Type 0) (xs ys : List A) → All P (xs ++ ys) → All P xs
all_left P xs ys h = λ k d l. subst P (get_or_append_left xs ys d k l) (h k d (let s = length-append xs ys in omega (arith, s, l)))

pub all_at : {A : Type 0} (P : A → Type 0) (xs : List A) (x : A) (ys : List A) → All P (xs ++ x ∷ ys) → P x
all_at P xs x ys h = subst P (get_or-append-add xs (x ∷ ys) 0 x) (h (length xs + 0) x (let s = length-append xs (x ∷ ys) in omega (arith, s)))

-- what holds of all holds of those up to the first that fails
fails_with : {A : Type 0} {P Q : A → Type 0} (R : A → Type 0) (xs : List A) (k : ℕ) → All R xs → FailsFirst P Q xs k → FailsFirst (λ x. R x × P x) (λ x. R x × Q x) xs k
fails_with R xs k h r =
    let all = subst (All R) r.is h in
    record {
      before = r.before;
      of = r.of;
      behind = r.behind;
      is = r.is;
      count = r.count;
      passes = λ j d l. (all_left R r.before (r.of ∷ r.behind) all j d l, r.passes j d l);
      fails = (all_at R r.before r.of r.behind all, r.fails);
    }

-- ---- texts

filter_by : (x : SourceFile) (xs : List SourceFile) (b : Bool) → map source_of (go_files xs) ≡ go_sources (sources_of xs)
    → map source_of (cond b (x ∷ go_files xs) (go_files xs)) ≡ cond b (source_of x ∷ go_sources (sources_of xs)) (go_sources (sources_of xs))
filter_by x xs true h = ap (λ r. source_of x ∷ r) h
filter_by x xs false h = h

-- the files of Go source by their paths and texts
pub go_alike : (files : List SourceFile) → map source_of (go_files files) ≡ go_sources (sources_of files)
go_alike [] = refl
go_alike (x ∷ xs) = filter_by x xs (is_go_file x) (go_alike xs)

mapped : (list : List ScannedFile) → map (λ s. source_of s.file.now) list ≡ map source_of (map (λ s. s.file.now) list)
mapped [] = refl
mapped (s ∷ ss) = ap (λ r. source_of s.file.now ∷ r) (mapped ss)

pub texts_alike : (files : List SourceFile) (list : List ScannedFile) → AreScanned (go_files files) list → map (λ s. source_of s.file.now) list ≡ go_sources (sources_of files)
texts_alike files list h = mapped list ∙ ap (map source_of) h.files_are ∙ go_alike files

to_sources : (P Q : List ℕ → Type 0) (files : List SourceFile) (list : List ScannedFile) (k : ℕ) → AreScanned (go_files files) list
    → FailsFirst (λ s. P s.file.now.bytes) (λ s. Q s.file.now.bytes) list k → FailsFirst (λ f. P f.text) (λ f. Q f.text) (go_sources (sources_of files)) k
to_sources P Q files list k h r = subst (λ fs. FailsFirst (λ f. P f.text) (λ f. Q f.text) fs k) (texts_alike files list h) (fails_map (λ s. source_of s.file.now) (λ f. P f.text) (λ f. Q f.text) list k r)

all_to_sources : (P : List ℕ → Type 0) (files : List SourceFile) (list : List ScannedFile) → AreScanned (go_files files) list
    → All (λ s. P s.file.now.bytes) list → All (λ f. P f.text) (go_sources (sources_of files))
all_to_sources P files list h r = subst (All (λ f. P f.text)) (texts_alike files list h) (All-map (λ f. P f.text) (λ s. source_of s.file.now) list r)

with_tokens : (P : List ℕ → List Token → List Comment → Type 0) (s : ScannedFile) → IsScanned s → P s.file.now.bytes s.tokens.items s.tokens.comments → WithTokens s.file.now.bytes (P s.file.now.bytes)
with_tokens P s h p = record { tokens = s.tokens.items; comments = s.tokens.comments; words = h.words; holds = p }

-- ---- refusals

module _ (files : List SourceFile) (path : List ℕ) (found : module_answer (sources_of files) ≡ is_module path) where
  from_files : (P Q : List ℕ → Type 0) (k : ℕ) → FailsFirst (λ f. P f.bytes) (λ f. Q f.bytes) (go_files files) k → FailsFirst (λ f. P f.text) (λ f. Q f.text) (go_sources (sources_of files)) k
  from_files P Q k r = subst (λ fs. FailsFirst (λ f. P f.text) (λ f. Q f.text) fs k) (go_alike files) (fails_map source_of (λ f. P f.text) (λ f. Q f.text) (go_files files) k r)

  pub scan_refuses : (fault : ReadFault) → RefusesScan (go_files files) fault → Refuses (sources_of files) fault
  scan_refuses (Text k (NotUtf8 at)) r = ((path, found), record { earlier = λ j d l. tt; first = from_files HasTokens (Fails (NotUtf8 at)) k r.1 })
  scan_refuses (Text k (BadToken at)) r = ((path, found), record { earlier = λ j d l. tt; first = from_files HasTokens (Fails (BadToken at)) k r.1 })
  scan_refuses (Text k (Unsupported at)) r = absurd r.0
  scan_refuses (Text k (TooDeep at)) r = absurd r.0
  scan_refuses (Text k (NotRead at)) r = absurd r.0
  scan_refuses (Module NoMemory) r = tt
  scan_refuses (Module NoModuleLine) r = absurd r
  scan_refuses (Module (OldGo v)) r = absurd r
  scan_refuses (Module (MixedPackage f a)) r = absurd r
  scan_refuses (Module (NoPackage f a p)) r = absurd r
  scan_refuses (Module (Cycle p)) r = absurd r
  scan_refuses (Module (Internal f a p)) r = absurd r

  module _ (list : List ScannedFile) (h : AreScanned (go_files files) list) where
    have_tokens : All (λ s. HasTokens s.file.now.bytes) list
    have_tokens = λ j d l. with_tokens (λ t ts cs. Unit {0}) _ (h.scans j d l) tt

    have_words : All HasWords list → All (λ s. HasSupportedWords s.file.now.bytes) list
    have_words w = λ j d l. record { tokens = _; comments = _; words = (h.scans j d l).words; holds = w j d l }

    nest_within : All IsShallow list → All (λ s. NestsWithin s.file.now.bytes) list
    nest_within w = λ j d l. record { tokens = _; comments = _; words = (h.scans j d l).words; holds = w j d l }

    -- the same of the files
    pub words_are : All HasWords list → All (λ f. HasSupportedWords f.text) (go_sources (sources_of files))
    words_are w = all_to_sources HasSupportedWords files list h (have_words w)

    pub shallow_are : All IsShallow list → All (λ f. NestsWithin f.text) (go_sources (sources_of files))
    shallow_are w = all_to_sources NestsWithin files list h (nest_within w)

    pub words_refuse : (fault : ReadFault) → RefusesWords list fault → Refuses (sources_of files) fault
    words_refuse (Text k (Unsupported at)) r = (
      (path, found),
      record {
        earlier = all_to_sources HasTokens files list h have_tokens;
        first = to_sources HasSupportedWords (Fails (Unsupported at)) files list k h (fails_weaker list k
            (λ s p. record { tokens = _; comments = _; words = p.0.words; holds = p.1 })
            (λ s p. record { tokens = _; comments = _; words = p.0.words; holds = p.1 }) (fails_with IsScanned list k h.scans r));
      },
    )
    words_refuse (Text k (TooDeep at)) r = (
      (path, found),
      record {
        earlier = all_to_sources HasSupportedWords files list h (have_words r.0);
        first = to_sources NestsWithin (Fails (TooDeep at)) files list k h (fails_weaker list k
            (λ s p. record { tokens = _; comments = _; words = p.0.words; holds = p.1 })
            (λ s p. record { tokens = _; comments = _; words = p.0.words; holds = p.1 }) (fails_with IsScanned list k h.scans r.1));
      },
    )
    words_refuse (Text k (NotUtf8 at)) r = absurd r
    words_refuse (Text k (BadToken at)) r = absurd r
    words_refuse (Text k (NotRead at)) r = absurd r
    words_refuse (Module e) r = absurd r

    pub trees_refuse : (fault : ReadFault) → All HasWords list → All IsShallow list → RefusesTrees list fault → Refuses (sources_of files) fault
    trees_refuse (Text k (NotRead at)) w n r = (
      (path, found),
      record {
        earlier = all_to_sources (λ t. HasSupportedWords t × NestsWithin t) files list h (λ j d l. (have_words w j d l, nest_within n j d l));
        first = to_sources SpellsAFile (Fails (NotRead at)) files list k h (fails_weaker list k
            (λ s p. record { tokens = _; comments = _; words = p.0.words; holds = p.1 })
            (λ s p. record { tokens = _; comments = _; words = p.0.words; holds = p.1 }) (fails_with IsScanned list k h.scans r));
      },
    )
    trees_refuse (Text k (NotUtf8 at)) w n r = absurd r
    trees_refuse (Text k (BadToken at)) w n r = absurd r
    trees_refuse (Text k (Unsupported at)) w n r = absurd r
    trees_refuse (Text k (TooDeep at)) w n r = absurd r
    trees_refuse (Module NoMemory) w n r = tt
    trees_refuse (Module NoModuleLine) w n r = absurd r
    trees_refuse (Module (OldGo v)) w n r = absurd r
    trees_refuse (Module (MixedPackage f a)) w n r = absurd r
    trees_refuse (Module (NoPackage f a p)) w n r = absurd r
    trees_refuse (Module (Cycle p)) w n r = absurd r
    trees_refuse (Module (Internal f a p)) w n r = absurd r

-- what is wrong with the packages of the trees
module _ (files : List Source) (path : List ℕ) (trees : List (pure.SourceTree Span)) (found : module_answer files ≡ is_module path) (are : AreTrees IsSourceFile (go_sources files) trees)
    (words : All (λ f. HasSupportedWords f.text) (go_sources files)) (shallow : All (λ f. NestsWithin f.text) (go_sources files)) where
  refuses : (error : GraphError) → IsGraphFault path trees error → RefusesPackages files error
  refuses error fault = record { path = path; path_is = found; trees = trees; trees_are = are; words = words; shallow = shallow; fault = fault }

  pub packages_refuse : (error : GraphError) → IsGraphFault path trees error → RefusesModule files error
  packages_refuse NoModuleLine fault = absurd fault
  packages_refuse (OldGo v) fault = absurd fault
  packages_refuse NoMemory fault = tt
  packages_refuse (MixedPackage f a) fault = refuses (MixedPackage f a) fault
  packages_refuse (NoPackage f a p) fault = refuses (NoPackage f a p) fault
  packages_refuse (Cycle p) fault = refuses (Cycle p) fault
  packages_refuse (Internal f a p) fault = refuses (Internal f a p) fault
