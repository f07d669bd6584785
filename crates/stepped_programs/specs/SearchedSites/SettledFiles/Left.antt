-- Files that a step leaves as they are (Go specification, Packages; Source file organization; Constant declarations).
use Rattle.std.specs.Prelude.{◌≡◌, ℕ, Bool, true, false, List, [], ◌∷◌}
use Rattle.pkg_graph.specs.Package.{Package}
use Rattle.run_rules.specs.Sites.{MarkRef, Where, Site, is_among_marks}
use Rattle.run_rules.specs.Steps.{At, Found}
use Rattle.repeated_parts.specs.UseSearch.MarkValues.Tables.{Known, DeclKey, key_of, values_at, value_in}
use Rattle.repeated_parts.specs.UseSearch.UsesOfMarks.Laws.{EachSite}
use Rattle.module_marks.specs.Views.{mark_ref_of}
use Rattle.repeated_parts.specs.declared.use_search.search.FoundObstacle.{FoundObstacle}
use Rattle.stepped_programs.specs.SearchedSites.OrderedSearches.Held.{IsThere, Users, flag_of}

-- it is the file of the step
abbrev pub IsOfStep : Found At → Where At → Type 0
IsOfStep f w = (w.number ≡ f.site.at.number) × (w.file_number ≡ f.site.at.file_number)

-- The file stands among these packages before the step, and among those after it at the same place; it isn't that of
-- the step.
pub record IsLeft (f : Found At) (ps qs : List (Package At)) (w v : Where At) : Type 0 where
  pub before : IsThere ps w
  pub after : IsThere qs v
  pub number_is : v.number ≡ w.number
  pub file_is : v.file_number ≡ w.file_number
  pub other : IsOfStep f w → ⊥

-- the two tables tell the same of the constants that these sites use
abbrev pub TellTheSame : Known → Known → List (Site At) → Type 0
TellTheSame old new xs = EachSite (λ x. value_in new x.mark ≡ value_in old x.mark) xs

-- the two tables tell the same of all declarations but those that `changed` names
abbrev pub AreSameBut : (DeclKey → Bool) → Known → Known → Type 0
AreSameBut changed old new = (k : DeclKey) → changed k ≡ false → values_at k new ≡ values_at k old

-- the two tables tell the same of marked constants, but of those of the declarations that `changed` names
abbrev pub TellOthersTheSame : List MarkRef → (DeclKey → Bool) → Known → Known → Type 0
TellOthersTheSame marks changed old new =
    (m : MarkRef) → is_among_marks marks m ≡ true → changed (key_of m) ≡ false → value_in new m ≡ value_in old m

-- none of these sites uses a constant of such a declaration
abbrev pub UseNoneOf : (DeclKey → Bool) → List (Site At) → Type 0
UseNoneOf changed xs = EachSite (λ x. changed (key_of x.mark) ≡ false) xs

-- nor does one of these uses, which a search found
abbrev pub FoundNoneOf : (DeclKey → Bool) → List FoundObstacle → Type 0
FoundNoneOf changed [] = Unit {0}
FoundNoneOf changed (k ∷ ks) = (changed (key_of (mark_ref_of k.use_.mark)) ≡ false) × FoundNoneOf changed ks

-- who is known to use the constants of another declaration still is
abbrev pub KeepOthers : (DeclKey → Bool) → Users → Users → Type 0
KeepOthers changed were users =
    (d : DeclKey) (k i : ℕ) → changed d ≡ false → were d k i ≡ true → users d k i ≡ true

-- The flag of the file was set before the step, which left the file as it is, and the file isn't known to use a
-- constant of a declaration that `changed` names.
pub record MayStaySet (f : Found At) (changed : DeclKey → Bool) (users : Users) (flags : ℕ → List Bool) (w : Where At)
    : Type 0 where
  pub was_set : flag_of flags w ≡ true
  pub other : IsOfStep f w → ⊥
  pub unused : (d : DeclKey) → changed d ≡ true → users d w.number w.file_number ≡ false
