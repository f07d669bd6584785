-- The texts that are kept of a program's files are those of the program as it stands.
use Rattle.std.proofs.Common.{◌≡◌, ◌∙◌, ◌+◌, refl, sym, ap, subst, ℕ, suc, Bool, true, false, ◌||◌, cond, bytes_eq, is_some, List, [], ◌∷◌, ◌++◌, map, length, Option, Some, arith, length-append}
use Rattle.std.specs.Prelude.{slice_get}
use Rattle.std.specs.List.{zip}
use Rattle.std.specs.Option.{option_map}
use Rattle.std.proofs.lemmas.List.{length-map}
use Rattle.std.proofs.lemmas.Option.{same_Some}
use Rattle.pkg_graph.specs.ModuleFiles.PathLists.{has_path}
use Rattle.pkg_graph.proofs.ModuleFiles.PathLaws.{are_same}
use Rattle.pkg_graph.specs.Package.{SourceTree, Package}
use Rattle.programs.specs.Kept.{IsKeptFile}
use Rattle.programs.specs.Programs.{AreKeptFiles}
use Rattle.programs.specs.declared.state.PackageFiles.{PackageFiles}
use Rattle.run_rules.specs.Marks.{text_at}
use Rattle.run_rules.specs.Run.{Standing, bytes_of}
use Rattle.run_rules.specs.Steps.{At}
use Rattle.run_rules.specs.Texts.{FileText}
use Rattle.run_plans.specs.PlannedFiles.Texts.{file_paths, kept_texts, text_with_path}

-- ---- lists of pairs

zip_both : (xs ys : List (List ℕ)) (us vs : List (List ℕ)) → length xs ≡ length us → zip (xs ++ ys) (us ++ vs) ≡ zip xs us ++ zip ys vs
zip_both [] ys [] vs e = refl
zip_both [] ys (u ∷ us) vs e = absurd (omega (arith, e))
zip_both (x ∷ xs) ys [] vs e = absurd (omega (arith, e))
zip_both (x ∷ xs) ys (u ∷ us) vs e = ap (λ (r : List (List ℕ × List ℕ)). (x, u) ∷ r) (zip_both xs ys us vs (omega (arith, e)))

-- as many texts as paths: each path has one
pub has_its_text : (ps ts : List (List ℕ)) (q : List ℕ) → length ps ≡ length ts → is_some (text_with_path (zip ps ts) q) ≡ has_path ps q
has_its_text [] [] q e = refl
has_its_text [] (t ∷ ts) q e = refl
has_its_text (p ∷ ps) [] q e = absurd (omega (arith, e))
has_its_text (p ∷ ps) (t ∷ ts) q e = by (bytes_eq q p) (has_its_text ps ts q (omega (arith, e)))
  where
    by : (b : Bool) → is_some (text_with_path (zip ps ts) q) ≡ has_path ps q → is_some (cond b (Some t) (text_with_path (zip ps ts) q)) ≡ (b || has_path ps q)
    by true h = refl
    by false h = h

-- ---- texts as they stand

pub bytes_at : (ts : List (List ℕ × FileText)) (q : List ℕ) → text_with_path (bytes_of ts) q ≡ option_map (λ t. t.text) (text_at q ts)
bytes_at [] q = refl
bytes_at (t ∷ ts) q = by (bytes_eq q t.0) (bytes_at ts q)
  where
    by : (b : Bool) → text_with_path (bytes_of ts) q ≡ option_map (λ t. t.text) (text_at q ts) → cond b (Some t.1.text) (text_with_path (bytes_of ts) q) ≡ option_map (λ t. t.text) (cond b (Some t.1) (text_at q ts))
    by true h = refl
    by false h = h

pub has_bytes : (es : List (List ℕ × List ℕ)) (q t : List ℕ) → text_with_path es q ≡ Some t → has_path (map (λ e. e.0) es) q ≡ true
has_bytes [] q t e = absurd cc
has_bytes (u ∷ us) q t e = by (bytes_eq q u.0) e (has_bytes us q t)
  where
    by : (b : Bool) → cond b (Some u.1) (text_with_path us q) ≡ Some t → (text_with_path us q ≡ Some t → has_path (map (λ e. e.0) us) q ≡ true) → (b || has_path (map (λ e. e.0) us) q) ≡ true
    by true e f = refl
    by false e f = f e

module _ (after : List (List ℕ × List ℕ)) where
  -- each of these is the text of its path
  abbrev pub AreThose : List (List ℕ × List ℕ) → Type 0
  AreThose [] = Unit {0}
  AreThose (e ∷ es) = (text_with_path after e.0 ≡ Some e.1) × AreThose es

  both_those : (xs ys : List (List ℕ × List ℕ)) → AreThose xs → AreThose ys → AreThose (xs ++ ys)
  both_those [] ys a b = b
  both_those (x ∷ xs) ys a b = (a.0, both_those xs ys a.1 b)

  pub found_there : (es : List (List ℕ × List ℕ)) (q t : List ℕ) → AreThose es → text_with_path es q ≡ Some t → text_with_path after q ≡ Some t
  found_there [] q t a h = absurd cc
  found_there (e ∷ es) q t a h = by (bytes_eq q e.0) refl h (found_there es q t a.1)
    where
      by : (b : Bool) → bytes_eq q e.0 ≡ b → cond b (Some e.1) (text_with_path es q) ≡ Some t → (text_with_path es q ≡ Some t → text_with_path after q ≡ Some t) → text_with_path after q ≡ Some t
      by true f g more = ap (text_with_path after) (are_same q e.0 f) ∙ a.0 ∙ g
      by false f g more = more g

  -- the text of a file, by its number
  record HasThat (ts : List (List ℕ)) (i : ℕ) (f : SourceTree At) : Type 0 where
    text : List ℕ
    there : slice_get ts i ≡ Some text
    that : text_with_path after f.path ≡ Some text

  files_those : (fs : List (SourceTree At)) (ts : List (List ℕ)) → ((i : ℕ) (f : SourceTree At) → slice_get fs i ≡ Some f → HasThat ts i f) → AreThose (zip (map (λ f. f.path) fs) ts)
  files_those [] ts h = tt
  files_those (f ∷ fs) [] h = tt
  files_those (f ∷ fs) (t ∷ ts) h =
      let first = h 0 f refl in
      (first.that ∙ ap Some (sym (same_Some t first.text first.there)), files_those fs ts (λ i g e. let more = h (suc i) g e in record { text = more.text; there = more.there; that = more.that }))

-- ---- packages

module _ (st : Standing) where
  -- what is kept of packages
  abbrev pub AreAllKept : List (Package At) → List PackageFiles → Type 0
  AreAllKept hs ks =
      (k : ℕ) (h : Package At) (fs : PackageFiles) → slice_get hs k ≡ Some h → slice_get ks k ≡ Some fs
      → AreKeptFiles st h fs

  kept_that : (ks : PackageFiles) (i : ℕ) (f : SourceTree At) → IsKeptFile st ks i f → HasThat (bytes_of st.texts) ks.texts.items i f
  kept_that ks i f kept =
      record { text = kept.text; there = kept.text_is; that = bytes_at st.texts f.path ∙ ap (λ (o : Option FileText). option_map (λ t. t.text) o) kept.stands }

  pub record HaveThose (hs : List (Package At)) (ks : List PackageFiles) : Type 0 where
    pub size : length (file_paths hs) ≡ length (kept_texts ks)
    pub those : AreThose (bytes_of st.texts) (zip (file_paths hs) (kept_texts ks))

  pub have_those : (hs : List (Package At)) (ks : List PackageFiles) → length ks ≡ length hs → AreAllKept hs ks → HaveThose hs ks
  have_those [] [] e all = record { size = refl; those = tt }
  have_those [] (k ∷ ks) e all = absurd (omega (arith, e))
  have_those (h ∷ hs) [] e all = absurd (omega (arith, e))
  have_those (h ∷ hs) (k ∷ ks) e all =
      let first : AreKeptFiles st h k = all 0 h k refl refl in
      let more : HaveThose hs ks = have_those hs ks (omega (arith, e)) (λ j g fs a b. all (suc j) g fs a b) in
      let own : length (map (λ f. f.path) h.files) ≡ length k.texts.items = length-map h.files (λ f. f.path) ∙ sym first.counted.texts in
      record {
        size =
            length-append (map (λ f. f.path) h.files) (file_paths hs) ∙ (λ w. own w + more.size w)
            ∙ sym (length-append k.texts.items (kept_texts ks));
        those =
            subst (λ (es : List (List ℕ × List ℕ)). AreThose (bytes_of st.texts) es)
            (sym (zip_both (map (λ f. f.path) h.files) (file_paths hs) k.texts.items (kept_texts ks) own))
            (both_those (bytes_of st.texts) (zip (map (λ f. f.path) h.files) k.texts.items) (zip (file_paths hs) (kept_texts ks))
            (files_those (bytes_of st.texts) h.files k.texts.items (λ i f a. kept_that k i f (first.each i f a))) more.those);
      }
