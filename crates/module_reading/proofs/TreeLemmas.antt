-- Files and their trees.
use Rattle.std.proofs.Common.{◌≡◌, ◌∙◌, ◌<◌, ◌+◌, ℕ, suc, List, [], ◌∷◌, ◌++◌, length, map, take, refl, sym, ap, subst, arith, slice_index_or, All}
use Rattle.std.proofs.lemmas.List.{take_more}
use Rattle.std.proofs.lemmas.List.Elements.{All-cons, All-nil}
use Rattle.go_tree.specs.FileView.{file_of}
use Rattle.pkg_graph.specs.declared.module_files.faults.GraphError.TheVariants.{NoModuleLine, OldGo, MixedPackage, NoPackage, Cycle, Internal, NoMemory}
use Rattle.pkg_graph.specs.Reads.{Source, AreTrees, file, none}
use Rattle.pkg_graph.specs.Package as pure
use Rattle.pkg_graph.specs.Views as views
use Rattle.pkg_graph.specs.declared.packages.SourceTree.{SourceTree}
use Rattle.go_tree.specs.declared.spans.Span.{Span}
use Rattle.run_rules.specs.Inlining.{IsSourceFile}
use Rattle.module_texts.specs.declared.faults.TextFault.TheVariants.{NotUtf8, BadToken, Unsupported, TooDeep, NotRead}
use Rattle.module_texts.specs.declared.faults.ReadFault.{ReadFault}
use Rattle.module_texts.specs.declared.faults.ReadFault.TheVariants.{Text, Module}
use Rattle.module_texts.specs.declared.files.ScannedFile.{ScannedFile}
use Rattle.module_texts.specs.Files.{AreTreesOf, IsScanned, IsTreeOf, source_of}
use Rattle.module_texts.specs.Refusals.{FailsFirst, HasTree, IsUnread, IsUnreadAt, RefusesTrees}
use Rattle.module_texts.proofs.Lemmas.{fails_at}

trees_push : (ss : List ScannedFile) (ts : List SourceTree) (s : ScannedFile) (t : SourceTree) → AreTreesOf ss ts → IsTreeOf s t → AreTreesOf (ss ++ s ∷ []) (ts ++ t ∷ [])
trees_push [] [] s t h is = (is, tt)
trees_push [] (u ∷ us) s t h is = absurd h
trees_push (r ∷ rs) [] s t h is = absurd h
trees_push (r ∷ rs) (u ∷ us) s t h is = (h.0, trees_push rs us s t h.1 is)

-- one more file has its tree
pub trees_more : (files : List ScannedFile) (i : ℕ) (x : ScannedFile) (ts : List SourceTree) (t : SourceTree) → i < length files → x ≡ slice_index_or files i x
    → AreTreesOf (take i files) ts → IsTreeOf x t → AreTreesOf (take (i + 1) files) (ts ++ t ∷ [])
trees_more files i x ts t l e h is =
    subst (λ fs. AreTreesOf fs (ts ++ t ∷ [])) (ap (λ y. take i files ++ y ∷ []) e ∙ sym (take_more files i x l)) (trees_push (take i files) ts x t h is)

have_trees : (ss : List ScannedFile) (ts : List SourceTree) → AreTreesOf ss ts → All HasTree ss
have_trees [] [] h = All-nil HasTree
have_trees [] (u ∷ us) h = absurd h
have_trees (r ∷ rs) [] h = absurd h
have_trees (r ∷ rs) (u ∷ us) h = All-cons HasTree r rs (file_of u.tree, h.0.spells) (have_trees rs us h.1)

pub trees_length : (ss : List ScannedFile) (ts : List SourceTree) → AreTreesOf ss ts → length ts ≡ length ss
trees_length [] [] h = refl
trees_length [] (u ∷ us) h = absurd h
trees_length (r ∷ rs) [] h = absurd h
trees_length (r ∷ rs) (u ∷ us) h = ap suc (trees_length rs us h.1)

-- the first file without a tree
pub trees_refused : (files : List ScannedFile) (i : ℕ) (x : ScannedFile) (ts : List SourceTree) (n : ℕ) (fault : ReadFault) → i < length files → x ≡ slice_index_or files i x
    → AreTreesOf (take i files) ts → n ≡ i → IsUnread n x fault → RefusesTrees files fault
trees_refused files i x ts n (Text k (NotRead at)) l e h same r =
    subst (FailsFirst HasTree (IsUnreadAt at) files) (sym same ∙ sym r.0) (fails_at HasTree (IsUnreadAt at) files i x l e (have_trees (take i files) ts h) r.1)
trees_refused files i x ts n (Text k (NotUtf8 at)) l e h same r = absurd r
trees_refused files i x ts n (Text k (BadToken at)) l e h same r = absurd r
trees_refused files i x ts n (Text k (Unsupported at)) l e h same r = absurd r
trees_refused files i x ts n (Text k (TooDeep at)) l e h same r = absurd r
trees_refused files i x ts n (Module NoMemory) l e h same r = tt
trees_refused files i x ts n (Module NoModuleLine) l e h same r = absurd r
trees_refused files i x ts n (Module (OldGo v)) l e h same r = absurd r
trees_refused files i x ts n (Module (MixedPackage f a)) l e h same r = absurd r
trees_refused files i x ts n (Module (NoPackage f a p)) l e h same r = absurd r
trees_refused files i x ts n (Module (Cycle p)) l e h same r = absurd r
trees_refused files i x ts n (Module (Internal f a p)) l e h same r = absurd r

tree_here : (s : ScannedFile) (t : SourceTree) (fs : List Source) (ts : List (pure.SourceTree Span)) → IsTreeOf s t → IsScanned s → AreTrees IsSourceFile fs ts
    → AreTrees IsSourceFile (source_of s.file.now ∷ fs) (views.source_of t ∷ ts)
tree_here s t fs ts h is rest =
    subst (λ p. AreTrees IsSourceFile (source_of s.file.now ∷ fs) (record { path = p; tree = file_of t.tree } ∷ ts)) (sym h.path)
    (file (source_of s.file.now) (file_of t.tree) fs ts (record { tokens = s.tokens.items; comments = s.tokens.comments; reads = record { scans = is.words; spells = h.spells } }) rest)

-- each file's text is a source file with its tree
pub trees_of : (ss : List ScannedFile) (ts : List SourceTree) → AreTreesOf ss ts → All IsScanned ss → AreTrees IsSourceFile (map (λ s. source_of s.file.now) ss) (views.sources_of ts)
trees_of [] [] h all = none
trees_of [] (u ∷ us) h all = absurd h
trees_of (r ∷ rs) [] h all = absurd h
trees_of (r ∷ rs) (u ∷ us) h all = tree_here r u (map (λ s. source_of s.file.now) rs) (views.sources_of us) h.0 (all 0 r (omega arith)) (trees_of rs us h.1 (λ k d l. all (suc k) d (omega (arith, l))))
