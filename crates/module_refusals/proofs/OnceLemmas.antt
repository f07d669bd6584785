-- Files have one refusal at most.
use Rattle.std.proofs.Common.{◌≡◌, ◌∙◌, ◌<◌, ◌≤◌, ◌⊎◌, inl, inr, ℕ, zero, suc, List, [], ◌∷◌, ◌++◌, length, take, refl, sym, ap, subst, arith, All, slice_index}
use Rattle.std.specs.Prelude.{Contains, Some, None}
use Rattle.std.specs.List.{slice_get}
use Rattle.std.specs.Str.{IsUtf8, IsValidUpTo}
use Rattle.std.proofs.lemmas.List.{take_all}
use Rattle.std.proofs.lemmas.List.Elements.{All-contains}
use Rattle.go_tree.specs.declared.spans.Span.{Span}
use Rattle.go_tree.specs.declared.tokens.Token.{Token}
use Rattle.go_tree.specs.GoWords.Terminals.{lexemes}
use Rattle.go_tree.specs.GoWords.Tokens.{StopsAt}
use Rattle.go_scan.proofs.Cuts.{stops_once}
use Rattle.go_scan.specs.Unsupported.{IsFirst, unsupported_spans}
use Rattle.go_nesting.specs.declared.counts.TheConstants.{MAX_LIMIT}
use Rattle.go_nesting.specs.Over.{IsFirstOver, IsOverAt}
use Rattle.go_read.specs.SpellsWeight.{weights_of}
use Rattle.go_read.specs.Fronts.{IsRefusedAt}
use Rattle.go_read.proofs.Whole.{refused_once, refused_spells_none}
use Rattle.pkg_graph.specs.ModuleFiles.ModuleFile.{is_module, no_module_line, old_go}
use Rattle.pkg_graph.specs.declared.module_files.faults.GraphError.{GraphError}
use Rattle.pkg_graph.specs.declared.module_files.faults.GraphError.TheVariants.{NoModuleLine, OldGo, MixedPackage, NoPackage, Cycle, Internal, NoMemory}
use Rattle.pkg_graph.specs.Graph.{GraphFault, IsFault, mixed_package, no_package, cycle, internal_package}
use Rattle.pkg_graph.specs.GraphFaults.{IsGraphFault}
use Rattle.pkg_graph.specs.Reads.{Source}
use Rattle.pkg_graph.specs.Package.{SourceTree}
use Rattle.pkg_graph.specs.GraphLaws.{FaultsAreUnique}
use Rattle.source_files.specs.declared.files.SourceFile.{SourceFile}
use Rattle.module_texts.specs.declared.faults.TextFault.{TextFault}
use Rattle.module_texts.specs.declared.faults.TextFault.TheVariants.{NotUtf8, BadToken, Unsupported, TooDeep, NotRead}
use Rattle.module_texts.specs.declared.faults.ReadFault.{ReadFault}
use Rattle.module_texts.specs.declared.faults.ReadFault.TheVariants.{Text, Module}
use Rattle.module_texts.specs.Files.{go_files, sources_of}
use Rattle.go_nesting.specs.Sources.{IsSupported}
use Rattle.module_texts.specs.Refusals.{Fails, FailsFirst, HasTokens, HasSupportedWords, Passes, PassesEarlier, RefusesTexts}
use Rattle.module_texts.specs.Modules.{Refuses, RefusesModule, RefusesPackages, go_sources, module_answer}
use Rattle.module_texts.proofs.RefusedLemmas.{all_at}
use Rattle.refusals.specs.Refusals.{number_of}
use Rattle.refusals.specs.declared.refusal.Refusal.{Refusal}
use Rattle.refusals.specs.declared.refusal.Detail.{Detail}
use Rattle.refusals.specs.declared.refusal.Detail.TheVariants as detail
use Rattle.module_refusals.specs.Laws.{AreAlike, RefusalsAreAlike}
use Rattle.module_refusals.specs.Told.{OfFile, Tells, TellsModule, fault_at, fault_detail, told_at, told_whole}
use Rattle.source_files.specs.Places.{place_of}
use Rattle.module_refusals.proofs.ModuleLemmas.{contains_none, never_over, same_tokens, texts_never, trees_once}

-- ---- the first that fails

got_at : {A : Type 0} (xs : List A) (x : A) (ys : List A) → slice_get (xs ++ x ∷ ys) (length xs) ≡ Some x
got_at [] x ys = refl
got_at (y ∷ xs) x ys = got_at xs x ys

of_at : {A : Type 0} {P Q : A → Type 0} (xs : List A) (k : ℕ) (r : FailsFirst P Q xs k) → slice_get xs k ≡ Some r.of
of_at xs k r = ap (λ l. slice_get l k) r.is ∙ ap (slice_get (r.before ++ r.of ∷ r.behind)) (sym r.count) ∙ got_at r.before r.of r.behind

front_passes : {A : Type 0} (P : A → Type 0) (xs ys : List A) (x : A) (j : ℕ) → All P xs → j < length xs → slice_get (xs ++ ys) j ≡ Some x → P x
front_passes P [] ys x j all l e = absurd (omega (arith, l))
front_passes P (y ∷ xs) ys x zero all l e = let same : y ≡ x = cc in subst P same (all 0 y (omega arith))
front_passes P (y ∷ xs) ys x (suc j) all l e = front_passes P xs ys x j (λ i d m. all (suc i) d (omega (arith, m))) (omega (arith, l)) e

earlier_passes : {A : Type 0} {P Q : A → Type 0} (xs : List A) (k j : ℕ) (x : A) (r : FailsFirst P Q xs k) → j < k → slice_get xs j ≡ Some x → P x
earlier_passes {P = P} xs k j x r l e = front_passes P r.before (r.of ∷ r.behind) x j r.passes (omega (arith, l, r.count)) (ap (λ ys. slice_get ys j) (sym r.is) ∙ e)

order : (j k : ℕ) → (j < k) ⊎ ((j ≡ k) ⊎ (k < j))
order zero zero = inr (inl refl)
order zero (suc k) = inl (omega arith)
order (suc j) zero = inr (inr (omega arith))
order (suc j) (suc k) = by (order j k)
  where
    by : (j < k) ⊎ ((j ≡ k) ⊎ (k < j)) → (suc j < suc k) ⊎ ((suc j ≡ suc k) ⊎ (suc k < suc j))
    by (inl l) = inl (omega (arith, l))
    by (inr (inl e)) = inr (inl (ap suc e))
    by (inr (inr l)) = inr (inr (omega (arith, l)))

module _ {A : Type 0} {P Q R : A → Type 0} (q : (x : A) → Q x → P x → ⊥) (r : (x : A) → R x → P x → ⊥) (xs : List A) where
  first_once : (j k : ℕ) → (a : FailsFirst P Q xs j) → (b : FailsFirst P R xs k) → (j ≡ k) × (a.of ≡ b.of)
  first_once j k a b = by (order j k)
    where
      by : (j < k) ⊎ ((j ≡ k) ⊎ (k < j)) → (j ≡ k) × (a.of ≡ b.of)
      by (inl l) = absurd (q a.of a.fails (earlier_passes xs k j a.of b l (of_at xs j a)))
      by (inr (inl e)) = let same : Some a.of ≡ Some b.of = sym (of_at xs j a) ∙ ap (slice_get xs) e ∙ of_at xs k b in (e, cc)
      by (inr (inr l)) = absurd (r b.of b.fails (earlier_passes xs j k b.of a l (of_at xs k b)))

-- ---- texts

-- a text that fails a check doesn't pass it
fails_or_passes : (fault : TextFault) (text : List ℕ) → Fails fault text → Passes fault text → ⊥
fails_or_passes (NotUtf8 at) text f p = f.1 p.tokens p.comments p.words
fails_or_passes (BadToken at) text f p = f.1 p.tokens p.comments p.words
fails_or_passes (Unsupported span) text f p =
    let no = same_tokens text (λ ts cs. IsSupported text ts cs) p f.tokens f.comments f.words in
    contains_none span (subst (λ spans. Contains spans span) no f.holds.0)
fails_or_passes (TooDeep at) text f p =
    let within = same_tokens text (λ ts cs. IsFirstOver MAX_LIMIT ts None) p f.tokens f.comments f.words in
    never_over MAX_LIMIT (weights_of f.tokens) (length f.holds.front) within f.holds.over
fails_or_passes (NotRead at) text f p =
    let refused = same_tokens text (λ ts cs. IsRefusedAt (length text) (lexemes ts) at) f p.tokens p.comments p.words in
    refused_spells_none (length text) (lexemes p.tokens) at refused p.holds.0 p.holds.1

valid_once : (text : List ℕ) (m n : ℕ) → IsValidUpTo text m → IsValidUpTo text n → m ≡ n
valid_once text m n a b = by (order m n)
  where
    by : (m < n) ⊎ ((m ≡ n) ⊎ (n < m)) → m ≡ n
    by (inl l) = absurd (a.longest n l b.front)
    by (inr (inl e)) = e
    by (inr (inr l)) = absurd (b.longest m l a.front)

valid_or_stops : (text : List ℕ) (m n : ℕ) → IsValidUpTo text m → StopsAt text n → ⊥
valid_or_stops text m n a b =
    a.longest (length text) a.short (subst (λ (bytes : List ℕ). IsUtf8 bytes) (sym (take_all (length text) text (omega arith))) (b.characters, (b.scalars, b.encoded)))

words_once : (spans : List Span) (a b : Span) → IsFirst spans (Some a) → IsFirst spans (Some b) → a.start ≡ b.start
words_once spans a b f g =
    let one = All-contains (λ (other : Span). a.start ≤ other.start) spans b f.1 g.0 in
    let two = All-contains (λ (other : Span). b.start ≤ other.start) spans a g.1 f.0 in
    omega (arith, one, two)

index_in : (limit : ℕ) (weights : List ℕ) (n m : ℕ) → All (λ w. w ≤ limit) (take n weights) → limit < slice_index weights m → m < n → ⊥
index_in limit [] n m all over l = absurd (omega (arith, over))
index_in limit (w ∷ ws) zero m all over l = absurd (omega (arith, l))
index_in limit (w ∷ ws) (suc n) zero all over l = let within = all 0 w (omega arith) in absurd (omega (arith, within, over))
index_in limit (w ∷ ws) (suc n) (suc m) all over l = index_in limit ws n m (λ j d k. all (suc j) d (omega (arith, k))) over (omega (arith, l))

deep_once : (limit : ℕ) (tokens : List Token) (m n : ℕ) → IsOverAt limit tokens m → IsOverAt limit tokens n → m ≡ n
deep_once limit tokens m n a b = by (order (length a.front) (length b.front))
  where
    by : (length a.front < length b.front) ⊎ ((length a.front ≡ length b.front) ⊎ (length b.front < length a.front)) → m ≡ n
    by (inl l) = absurd (index_in limit (weights_of tokens) (length b.front) (length a.front) b.within a.over l)
    by (inr (inl e)) =
        let same : Some a.token ≡ Some b.token =
        sym (ap (λ ts. slice_get ts (length a.front)) a.cut ∙ got_at a.front a.token a.rest)
        ∙ ap (slice_get tokens) e ∙ ap (λ ts. slice_get ts (length b.front)) b.cut ∙ got_at b.front b.token b.rest in
        let token : a.token ≡ b.token = cc in
        a.place_is ∙ ap (λ (t : Token). t.span.start) token ∙ sym b.place_is
    by (inr (inr l)) = absurd (index_in limit (weights_of tokens) (length a.front) (length b.front) a.within b.over l)

-- two faults of texts that one check finds
record AreOne (k : ℕ) (f : TextFault) (j : ℕ) (g : TextFault) : Type 0 where
  pub number : number_of (fault_detail f []) ≡ number_of (fault_detail g [])
  pub file : k ≡ j
  pub place : fault_at f ≡ fault_at g

-- an earlier check has found nothing
not_earlier : (fs : List Source) (k j : ℕ) (f g : TextFault) → RefusesTexts fs k f → RefusesTexts fs j g → ((text : List ℕ) → PassesEarlier g text → Passes f text) → ⊥
not_earlier fs k j f g r s passes =
    let first = r.first in
    let earlier = all_at (λ (x : Source). PassesEarlier g x.text) first.before first.of first.behind (subst (All (λ x. PassesEarlier g x.text)) first.is s.earlier) in
    fails_or_passes f first.of.text first.fails (passes first.of.text earlier)

tokens_of : (text : List ℕ) → HasSupportedWords text → HasTokens text
tokens_of text w = record { tokens = w.tokens; comments = w.comments; words = w.words; holds = tt }

module _ (fs : List Source) where
  one_text : (k j : ℕ) (f g : TextFault) → RefusesTexts fs k f → RefusesTexts fs j g → AreOne k f j g
  one_text k j (NotUtf8 a) (NotUtf8 b) r s =
      let same = first_once (λ x q. fails_or_passes (NotUtf8 a) x.text q) (λ x q. fails_or_passes (NotUtf8 b) x.text q) fs k j r.first s.first in
      record { number = refl; file = same.0; place = valid_once s.first.of.text a b (subst (λ x. IsValidUpTo x.text a) same.1 r.first.fails.0) s.first.fails.0 }
  one_text k j (NotUtf8 a) (BadToken b) r s =
      let same = first_once (λ x q. fails_or_passes (NotUtf8 a) x.text q) (λ x q. fails_or_passes (BadToken b) x.text q) fs k j r.first s.first in
      absurd (valid_or_stops s.first.of.text a b (subst (λ x. IsValidUpTo x.text a) same.1 r.first.fails.0) s.first.fails.0)
  one_text k j (BadToken a) (NotUtf8 b) r s =
      let same = first_once (λ x q. fails_or_passes (BadToken a) x.text q) (λ x q. fails_or_passes (NotUtf8 b) x.text q) fs k j r.first s.first in
      absurd (valid_or_stops s.first.of.text b a s.first.fails.0 (subst (λ x. StopsAt x.text a) same.1 r.first.fails.0))
  one_text k j (BadToken a) (BadToken b) r s =
      let same = first_once (λ x q. fails_or_passes (BadToken a) x.text q) (λ x q. fails_or_passes (BadToken b) x.text q) fs k j r.first s.first in
      record { number = refl; file = same.0; place = stops_once s.first.of.text a b (subst (λ x. StopsAt x.text a) same.1 r.first.fails.0) s.first.fails.0 }
  one_text k j (Unsupported a) (Unsupported b) r s =
      let same = first_once (λ x q. fails_or_passes (Unsupported a) x.text q) (λ x q. fails_or_passes (Unsupported b) x.text q) fs k j r.first s.first in
      let w = subst (λ x. Fails (Unsupported a) x.text) same.1 r.first.fails in
      let v = s.first.fails in
      let text = s.first.of.text in
      record { number = refl; file = same.0; place = words_once (unsupported_spans text w.tokens w.comments) a b w.holds (same_tokens text (λ ts cs. IsFirst (unsupported_spans text ts cs) (Some b)) v w.tokens w.comments w.words) }
  one_text k j (TooDeep a) (TooDeep b) r s =
      let same = first_once (λ x q. fails_or_passes (TooDeep a) x.text q) (λ x q. fails_or_passes (TooDeep b) x.text q) fs k j r.first s.first in
      let w = subst (λ x. Fails (TooDeep a) x.text) same.1 r.first.fails in
      let text = s.first.of.text in
      record { number = refl; file = same.0; place = deep_once MAX_LIMIT w.tokens a b w.holds (same_tokens text (λ ts cs. IsFirstOver MAX_LIMIT ts (Some b)) s.first.fails w.tokens w.comments w.words) }
  one_text k j (NotRead a) (NotRead b) r s =
      let same = first_once (λ x q. fails_or_passes (NotRead a) x.text q) (λ x q. fails_or_passes (NotRead b) x.text q) fs k j r.first s.first in
      let w = subst (λ x. Fails (NotRead a) x.text) same.1 r.first.fails in
      let text = s.first.of.text in
      record { number = refl; file = same.0; place = refused_once (length text) (lexemes w.tokens) a b w.holds (same_tokens text (λ ts cs. IsRefusedAt (length text) (lexemes ts) b) s.first.fails w.tokens w.comments w.words) }
  one_text k j (NotUtf8 a) (Unsupported b) r s = absurd (not_earlier fs k j (NotUtf8 a) (Unsupported b) r s (λ t w. w))
  one_text k j (NotUtf8 a) (TooDeep b) r s = absurd (not_earlier fs k j (NotUtf8 a) (TooDeep b) r s tokens_of)
  one_text k j (NotUtf8 a) (NotRead b) r s = absurd (not_earlier fs k j (NotUtf8 a) (NotRead b) r s (λ t w. tokens_of t w.0))
  one_text k j (BadToken a) (Unsupported b) r s = absurd (not_earlier fs k j (BadToken a) (Unsupported b) r s (λ t w. w))
  one_text k j (BadToken a) (TooDeep b) r s = absurd (not_earlier fs k j (BadToken a) (TooDeep b) r s tokens_of)
  one_text k j (BadToken a) (NotRead b) r s = absurd (not_earlier fs k j (BadToken a) (NotRead b) r s (λ t w. tokens_of t w.0))
  one_text k j (Unsupported a) (NotUtf8 b) r s = absurd (not_earlier fs j k (NotUtf8 b) (Unsupported a) s r (λ t w. w))
  one_text k j (Unsupported a) (BadToken b) r s = absurd (not_earlier fs j k (BadToken b) (Unsupported a) s r (λ t w. w))
  one_text k j (Unsupported a) (TooDeep b) r s = absurd (not_earlier fs k j (Unsupported a) (TooDeep b) r s (λ t w. w))
  one_text k j (Unsupported a) (NotRead b) r s = absurd (not_earlier fs k j (Unsupported a) (NotRead b) r s (λ t w. w.0))
  one_text k j (TooDeep a) (NotUtf8 b) r s = absurd (not_earlier fs j k (NotUtf8 b) (TooDeep a) s r tokens_of)
  one_text k j (TooDeep a) (BadToken b) r s = absurd (not_earlier fs j k (BadToken b) (TooDeep a) s r tokens_of)
  one_text k j (TooDeep a) (Unsupported b) r s = absurd (not_earlier fs j k (Unsupported b) (TooDeep a) s r (λ t w. w))
  one_text k j (TooDeep a) (NotRead b) r s = absurd (not_earlier fs k j (TooDeep a) (NotRead b) r s (λ t w. w.1))
  one_text k j (NotRead a) (NotUtf8 b) r s = absurd (not_earlier fs j k (NotUtf8 b) (NotRead a) s r (λ t w. tokens_of t w.0))
  one_text k j (NotRead a) (BadToken b) r s = absurd (not_earlier fs j k (BadToken b) (NotRead a) s r (λ t w. tokens_of t w.0))
  one_text k j (NotRead a) (Unsupported b) r s = absurd (not_earlier fs j k (Unsupported b) (NotRead a) s r (λ t w. w.0))
  one_text k j (NotRead a) (TooDeep b) r s = absurd (not_earlier fs j k (TooDeep b) (NotRead a) s r (λ t w. w.1))

-- ---- packages

-- the error names the fault
data Names : GraphError → GraphFault → Type 0 where
  names_mixed : (k at : ℕ) → Names (MixedPackage k at) (mixed_package k at)
  names_unnamed : (k at : ℕ) (p : List ℕ) → Names (NoPackage k at p) (no_package k at p)
  names_cycle : (p : List ℕ) → Names (Cycle p) (cycle p)
  names_internal : (k at : ℕ) (p : List ℕ) → Names (Internal k at p) (internal_package k at p)

fault_of : (path : List ℕ) (trees : List (SourceTree Span)) (e : GraphError) (g : GraphFault) → Names e g → IsGraphFault path trees e → IsFault path trees g
fault_of path trees _ _ (names_mixed k at) f = f
fault_of path trees _ _ (names_unnamed k at p) f = f
fault_of path trees _ _ (names_cycle p) f = f
fault_of path trees _ _ (names_internal k at p) f = f

-- what an error says of the files
data Says (files : List Source) : GraphError → Type 0 where
  no_line : module_answer files ≡ no_module_line → Says files NoModuleLine
  old : (v : List ℕ) → module_answer files ≡ old_go v → Says files (OldGo v)
  packages : (e : GraphError) (g : GraphFault) → Names e g → RefusesPackages files e → Says files e
  want : Says files NoMemory

says_of : (files : List Source) (e : GraphError) → RefusesModule files e → Says files e
says_of files NoModuleLine r = no_line r
says_of files (OldGo v) r = old v r
says_of files (MixedPackage k at) r = packages (MixedPackage k at) (mixed_package k at) (names_mixed k at) r
says_of files (NoPackage k at p) r = packages (NoPackage k at p) (no_package k at p) (names_unnamed k at p) r
says_of files (Cycle p) r = packages (Cycle p) (cycle p) (names_cycle p) r
says_of files (Internal k at p) r = packages (Internal k at p) (internal_package k at p) (names_internal k at p) r
says_of files NoMemory r = want

one_fault : FaultsAreUnique → (files : List Source) (d e : GraphError) (f g : GraphFault) → Names d f → Names e g → RefusesPackages files d → RefusesPackages files e → f ≡ g
one_fault unique files d e f g n m r s =
    let trees = trees_once (go_sources files) r.trees s.trees r.trees_are s.trees_are in
    let answer : is_module r.path ≡ is_module s.path = sym r.path_is ∙ s.path_is in
    let path : r.path ≡ s.path = cc in
    let first = subst (λ p. IsFault p s.trees f) path (subst (λ ts. IsFault r.path ts f) trees (fault_of r.path r.trees d f n r.fault)) in
    unique s.path s.trees f g first (fault_of s.path s.trees e g m s.fault)

-- ---- how they are told

-- this number is told of a byte of the file with this number
record IsToldAt (files : List SourceFile) (k at n : ℕ) (r : Refusal) : Type 0 where
  pub of : SourceFile
  pub is : slice_get (go_files files) k ≡ Some of
  pub number : number_of r.detail ≡ n
  pub file : r.file ≡ Some of.index
  pub place : r.place ≡ Some (place_of of.bytes at)

alike_at : (files : List SourceFile) (k j a b m n : ℕ) (r s : Refusal) → k ≡ j → a ≡ b → m ≡ n → IsToldAt files k a m r → IsToldAt files j b n s → AreAlike r s
alike_at files k j a b m n r s same at kind x y =
    let got : Some x.of ≡ Some y.of = sym x.is ∙ ap (slice_get (go_files files)) same ∙ y.is in
    let file : x.of ≡ y.of = cc in
    record {
      number = x.number ∙ kind ∙ sym y.number;
      file = x.file ∙ ap (λ (h : SourceFile). Some h.index) file ∙ sym y.file;
      place = x.place ∙ ap (λ (h : SourceFile). Some (place_of h.bytes a)) file ∙ ap (λ o. Some (place_of y.of.bytes o)) at ∙ sym y.place;
    }

one_number : (fault : TextFault) (text : List ℕ) → number_of (fault_detail fault text) ≡ number_of (fault_detail fault [])
one_number (NotUtf8 at) text = refl
one_number (BadToken at) text = refl
one_number (Unsupported span) text = refl
one_number (TooDeep at) text = refl
one_number (NotRead at) text = refl

told_text : (files : List SourceFile) (k : ℕ) (fault : TextFault) (r : Refusal) → Tells files (Text k fault) r → IsToldAt files k (fault_at fault) (number_of (fault_detail fault [])) r
told_text files k fault r h = record {
  of = h.0;
  is = h.1;
  number = ap (λ x. number_of x.detail) h.2 ∙ one_number fault h.0.bytes;
  file = ap (λ x. x.file) h.2;
  place = ap (λ x. x.place) h.2;
}

told_import : (files : List SourceFile) (k at : ℕ) (d : Detail) (r : Refusal) → OfFile files k (λ f. r ≡ told_at f at d) → IsToldAt files k at (number_of d) r
told_import files k at d r h = record {
  of = h.0;
  is = h.1;
  number = ap (λ x. number_of x.detail) h.2;
  file = ap (λ x. x.file) h.2;
  place = ap (λ x. x.place) h.2;
}

told_mixed : (files : List SourceFile) (k at : ℕ) (r : Refusal) → TellsModule files (MixedPackage k at) r → IsToldAt files k at 303 r
told_mixed files k at r h = record {
  of = h.0;
  is = h.1;
  number = ap (λ x. number_of x.detail) h.2.2;
  file = ap (λ x. x.file) h.2.2;
  place = ap (λ x. x.place) h.2.2;
}

alike_whole : (d e : Detail) (r s : Refusal) → number_of d ≡ number_of e → r ≡ told_whole d → s ≡ told_whole e → AreAlike r s
alike_whole d e r s kind x y = record {
  number = ap (λ z. number_of z.detail) x ∙ kind ∙ sym (ap (λ z. number_of z.detail) y);
  file = ap (λ z. z.file) x ∙ sym (ap (λ z. z.file) y);
  place = ap (λ z. z.place) x ∙ sym (ap (λ z. z.place) y);
}

module _ (unique : FaultsAreUnique) (files : List SourceFile) (r s : Refusal) where
  names_alike : (d e : GraphError) (f g : GraphFault) → Names d f → Names e g → f ≡ g → TellsModule files d r → TellsModule files e s → AreAlike r s
  names_alike _ _ _ _ (names_mixed k a) (names_mixed j b) e x y =
      let same : k ≡ j = cc in
      let at : a ≡ b = cc in
      alike_at files k j a b 303 303 r s same at refl (told_mixed files k a r x) (told_mixed files j b s y)
  names_alike _ _ _ _ (names_unnamed k a p) (names_unnamed j b q) e x y =
      let same : k ≡ j = cc in
      let at : a ≡ b = cc in
      alike_at files k j a b 304 304 r s same at refl (told_import files k a (detail.NoPackage p) r x) (told_import files j b (detail.NoPackage q) s y)
  names_alike _ _ _ _ (names_cycle p) (names_cycle q) e x y = alike_whole (detail.Cycle p) (detail.Cycle q) r s refl x y
  names_alike _ _ _ _ (names_internal k a p) (names_internal j b q) e x y =
      let same : k ≡ j = cc in
      let at : a ≡ b = cc in
      alike_at files k j a b 306 306 r s same at refl (told_import files k a (detail.Internal p) r x) (told_import files j b (detail.Internal q) s y)
  names_alike _ _ _ _ (names_mixed k a) (names_unnamed j b q) e x y = absurd cc
  names_alike _ _ _ _ (names_mixed k a) (names_cycle q) e x y = absurd cc
  names_alike _ _ _ _ (names_mixed k a) (names_internal j b q) e x y = absurd cc
  names_alike _ _ _ _ (names_unnamed k a p) (names_mixed j b) e x y = absurd cc
  names_alike _ _ _ _ (names_unnamed k a p) (names_cycle q) e x y = absurd cc
  names_alike _ _ _ _ (names_unnamed k a p) (names_internal j b q) e x y = absurd cc
  names_alike _ _ _ _ (names_cycle p) (names_mixed j b) e x y = absurd cc
  names_alike _ _ _ _ (names_cycle p) (names_unnamed j b q) e x y = absurd cc
  names_alike _ _ _ _ (names_cycle p) (names_internal j b q) e x y = absurd cc
  names_alike _ _ _ _ (names_internal k a p) (names_mixed j b) e x y = absurd cc
  names_alike _ _ _ _ (names_internal k a p) (names_unnamed j b q) e x y = absurd cc
  names_alike _ _ _ _ (names_internal k a p) (names_cycle q) e x y = absurd cc

  modules_alike : (d e : GraphError) → Says (sources_of files) d → Says (sources_of files) e → TellsModule files d r → TellsModule files e s → AreAlike r s
  modules_alike _ _ want h x y = absurd x
  modules_alike _ _ (no_line n) want x y = absurd y
  modules_alike _ _ (old v n) want x y = absurd y
  modules_alike _ _ (packages d f i n) want x y = absurd y
  modules_alike _ _ (no_line n) (no_line m) x y = alike_whole detail.NoModuleLine detail.NoModuleLine r s refl x y
  modules_alike _ _ (no_line n) (old w m) x y = let clash : no_module_line ≡ old_go w = sym n ∙ m in absurd cc
  modules_alike _ _ (no_line n) (packages e g j m) x y = let clash : no_module_line ≡ is_module m.path = sym n ∙ m.path_is in absurd cc
  modules_alike _ _ (old v n) (no_line m) x y = let clash : old_go v ≡ no_module_line = sym n ∙ m in absurd cc
  modules_alike _ _ (old v n) (old w m) x y = alike_whole (detail.OldGo v) (detail.OldGo w) r s refl x y
  modules_alike _ _ (old v n) (packages e g j m) x y = let clash : old_go v ≡ is_module m.path = sym n ∙ m.path_is in absurd cc
  modules_alike _ _ (packages d f i n) (no_line m) x y = let clash : no_module_line ≡ is_module n.path = sym m ∙ n.path_is in absurd cc
  modules_alike _ _ (packages d f i n) (old w m) x y = let clash : old_go w ≡ is_module n.path = sym m ∙ n.path_is in absurd cc
  modules_alike _ _ (packages d f i n) (packages e g j m) x y = names_alike d e f g i j (one_fault unique (sources_of files) d e f g i j n m) x y

-- texts and packages aren't at fault together
text_or_module : (files : List SourceFile) (k : ℕ) (fault : TextFault) (e : GraphError) (s : Refusal) → Refuses (sources_of files) (Text k fault) → Says (sources_of files) e → TellsModule files e s → ⊥
text_or_module files k fault _ s r (no_line m) y = let clash : no_module_line ≡ is_module r.0.0 = sym m ∙ r.0.1 in absurd cc
text_or_module files k fault _ s r (old w m) y = let clash : old_go w ≡ is_module r.0.0 = sym m ∙ r.0.1 in absurd cc
text_or_module files k fault _ s r (packages e g j m) y = texts_never (go_sources (sources_of files)) m.trees k fault m.trees_are m.words m.shallow r.1.first
text_or_module files k fault _ s r want y = absurd y

faults_alike : FaultsAreUnique → (files : List SourceFile) (r s : Refusal) (a b : ReadFault) → Refuses (sources_of files) a → Refuses (sources_of files) b → Tells files a r → Tells files b s → AreAlike r s
faults_alike unique files r s (Text k f) (Text j g) m n x y =
    let one = one_text (go_sources (sources_of files)) k j f g m.1 n.1 in
    alike_at files k j (fault_at f) (fault_at g) (number_of (fault_detail f [])) (number_of (fault_detail g [])) r s one.file one.place one.number (told_text files k f r x) (told_text files j g s y)
faults_alike unique files r s (Text k f) (Module e) m n x y = absurd (text_or_module files k f e s m (says_of (sources_of files) e n) y)
faults_alike unique files r s (Module d) (Text j g) m n x y = absurd (text_or_module files j g d r n (says_of (sources_of files) d m) x)
faults_alike unique files r s (Module d) (Module e) m n x y = modules_alike unique files r s d e (says_of (sources_of files) d m) (says_of (sources_of files) e n) x y

pub refusals_are_alike : FaultsAreUnique → RefusalsAreAlike
refusals_are_alike unique files r s a b = faults_alike unique files r s a.fault b.fault a.is b.is a.tells b.tells
