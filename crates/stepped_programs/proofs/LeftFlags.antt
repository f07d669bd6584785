-- Flags that are set after a step.
use Rattle.std.proofs.Common.{◌≡◌, ◌∙◌, ◌⊎◌, inl, inr, refl, sym, ap, subst, ℕ, zero, suc, ◌<◌, Bool, true, false, not, ◌&&◌, nat_eq, List, [], ◌∷◌, get_or, Option, Some, None, slice_set}
use Rattle.std.specs.Prelude.{slice_get}
use Rattle.std.proofs.lemmas.Bool.{eqb-true, and_parts}
use Rattle.std.proofs.lemmas.List.{get_or-set_other}
use Rattle.std.proofs.lemmas.Option.{slice_get_within}
use Rattle.go_tree.specs.declared.spans.Span.{Span}
use Rattle.go_scan.specs.TokenLists.{TokenLists}
use Rattle.repeated_parts.specs.UseSearch.MarkValues.Tables.{DeclKey, same_key}
use Rattle.step_files.specs.declared.file.NewFile.{NewFile}
use Rattle.stepped_programs.specs.PackageSearch.Search.{is_settled}
use Rattle.programs.specs.Users.{Known, is_user}
use Rattle.programs.specs.declared.state.PackageFiles.{PackageFiles}
use Rattle.programs.specs.declared.state.Program.{Program}
use Rattle.run_rules.specs.Run.{Standing, Logged, Next}
use Rattle.run_rules.specs.Sites.{MarkRef, Where}
use Rattle.run_rules.specs.Steps.{At}
use Rattle.stepped_programs.specs.SearchedSites.OrderedSearches.Held.{flag_of}
use Rattle.stepped_programs.specs.SearchedSites.SettledFiles.Left.{MayStaySet}
use Rattle.stepped_programs.proofs.SearchedSites.KeptPrograms.Kept.{There, there, set_here, set_else, nat_cases}
use Rattle.stepped_programs.specs.declared.place.StepPlace.{StepPlace}
use Rattle.stepped_programs.specs.Texts.{ArePut}
use Rattle.stepped_programs.specs.Flags.{AreUnsettled, IsUnsettled}
use Rattle.stepped_programs.specs.Steps.{key_at, IsStepPut}
use Rattle.stepped_programs.specs.Laws.{IsPlaceOf, StepsLeaveFlags, flags_of, users_of}
use Rattle.stepped_programs.proofs.Kept.{as_many_files}

one_key : (a b : DeclKey) → same_key a b ≡ true → a ≡ b
one_key a b h =
    let p = and_parts (nat_eq a.0 b.0) (nat_eq a.1.0 b.1.0 && nat_eq a.1.1 b.1.1) h in
    let q = and_parts (nat_eq a.1.0 b.1.0) (nat_eq a.1.1 b.1.1) p.1 in
    λ v. (eqb-true a.0 b.0 p.0 v, (eqb-true a.1.0 b.1.0 q.0 v, eqb-true a.1.1 b.1.1 q.1 v))

not_so : (b : Bool) → not b ≡ true → b ≡ false
not_so false h = refl
not_so true h = absurd cc

taken_back : (flags : List Bool) (i : ℕ) → get_or (slice_set flags i false) i false ≡ false
taken_back [] i = refl
taken_back (b ∷ flags) zero = refl
taken_back (b ∷ flags) (suc i) = taken_back flags i

clash : (b : Bool) → b ≡ true → b ≡ false → ⊥
clash b t e = cc

module _ (k i : ℕ) (body : List ℕ) (list : TokenLists) (users : Known) (d : DeclKey) (old between new : List PackageFiles) (put : ArePut k i body list old between) (flags : AreUnsettled users d between new) where
  -- a flag that is set was set, of a file that isn't that of the step and doesn't use the declaration
  record WasSet (j m : ℕ) : Type 0 where
    was : PackageFiles
    was_is : slice_get old j ≡ Some was
    set : is_settled was.settled.items m ≡ true
    other : (j ≡ k) × (m ≡ i) → ⊥
    unused : is_user users d (j, m) ≡ false

  set_here_was : (j m : ℕ) (fs : PackageFiles) → slice_get new j ≡ Some fs → is_settled fs.settled.items m ≡ true → j ≡ k → WasSet j m
  set_here_was j m fs h s e =
      let middle : slice_get between j ≡ Some put.now =
      ap (slice_get between) e ∙ ap (λ (ks : List PackageFiles). slice_get ks k) put.put ∙ set_here old k put.now (slice_get_within old k put.was put.was_is) in
      let u : IsUnsettled users d j put.now fs = flags.each j put.now fs middle h in
      let two = and_parts (is_settled put.now.settled.items m) (not (is_user users d (j, m))) (sym (u.flags.each m) ∙ s) in
      let now : is_settled (slice_set put.was.settled.items i false) m ≡ true = ap (λ (bs : List Bool). is_settled bs m) (sym put.file.flags) ∙ two.0 in
      let other : m ≡ i → ⊥ = λ g. clash (is_settled (slice_set put.was.settled.items i false) m) now
      (ap (is_settled (slice_set put.was.settled.items i false)) g ∙ taken_back put.was.settled.items i) in
      record {
        was = put.was;
        was_is = ap (slice_get old) e ∙ put.was_is;
        set = sym (get_or-set_other put.was.settled.items i m false false other) ∙ now;
        other = λ g. other g.1;
        unused = not_so (is_user users d (j, m)) two.1;
      }

  set_else_was : (j m : ℕ) (fs : PackageFiles) → slice_get new j ≡ Some fs → is_settled fs.settled.items m ≡ true → (j ≡ k → ⊥) → WasSet j m
  set_else_was j m fs h s ne =
      let t : There old j =
      there old j (subst (λ (a : ℕ). j < a) (as_many_files k i body list users d old between new put flags) (slice_get_within new j fs h)) in
      let middle : slice_get between j ≡ Some t.entry = ap (λ (ks : List PackageFiles). slice_get ks j) put.put ∙ set_else old k j put.now ne ∙ t.is in
      let u : IsUnsettled users d j t.entry fs = flags.each j t.entry fs middle h in
      let two = and_parts (is_settled t.entry.settled.items m) (not (is_user users d (j, m))) (sym (u.flags.each m) ∙ s) in
      record { was = t.entry; was_is = t.is; set = two.0; other = λ g. ne g.0; unused = not_so (is_user users d (j, m)) two.1 }

  was_set : (j m : ℕ) (fs : PackageFiles) → slice_get new j ≡ Some fs → is_settled fs.settled.items m ≡ true → WasSet j m
  was_set j m fs h s = by (nat_cases j k)
    where
      by : (j ≡ k) ⊎ (j ≡ k → ⊥) → WasSet j m
      by (inl e) = set_here_was j m fs h s e
      by (inr ne) = set_else_was j m fs h s ne

-- the flags of a package, where it is there
abbrev flags_in : Option PackageFiles → List Bool
flags_in o = elim o [ None ↦ [] | Some f ↦ f.settled.items ]

module _ (marks : List MarkRef) (st : Standing) (l : Logged) (after : Standing) (n : Next marks st l after) (at : StepPlace) (os : List Span) (block : List (List ℕ)) (f : NewFile) (old new : Program)
    (place : IsPlaceOf n at) (put : IsStepPut at os block f old new) (w : Where At) (set : flag_of (flags_of new) w ≡ true) where
  in_files : (o : Option PackageFiles) → slice_get new.files.items w.number ≡ o → is_settled (flags_in o) w.file_number ≡ true → MayStaySet n.found (same_key (key_at at)) (users_of old) (flags_of old) w
  in_files None e s = absurd (clash (is_settled [] w.file_number) s refl)
  in_files (Some fs) e s =
      let k : WasSet at.home at.file f.text f.tokens old.users (key_at at) old.files.items put.between new.files.items put.texts_are put.flags_are w.number w.file_number =
      was_set at.home at.file f.text f.tokens old.users (key_at at) old.files.items put.between new.files.items put.texts_are put.flags_are w.number w.file_number fs e s in
      record {
        was_set = ap (λ (o : Option PackageFiles). is_settled (flags_in o) w.file_number) k.was_is ∙ k.set;
        other = λ q. k.other (q.0 ∙ sym place.home, q.1 ∙ sym place.file);
        unused = λ d same. subst (λ (a : DeclKey). is_user old.users a (w.number, w.file_number) ≡ false) (one_key (key_at at) d same) k.unused;
      }

  may_stay : MayStaySet n.found (same_key (key_at at)) (users_of old) (flags_of old) w
  may_stay = in_files (slice_get new.files.items w.number) refl set

pub leave_flags : StepsLeaveFlags
leave_flags marks st l after n at os block f old new place put w stands set = may_stay marks st l after n at os block f old new place put w set
