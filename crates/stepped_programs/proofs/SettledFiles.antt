-- Files stay settled after a step whose file is put into a program.
use Rattle.std.proofs.Common.{◌≡◌, sym, subst, ℕ, true, List}
use Rattle.go_tree.specs.declared.spans.Span.{Span}
use Rattle.pkg_graph.specs.Reads.{Source}
use Rattle.repeated_parts.specs.UseSearch.MarkValues.Tables.{DeclKey, same_key}
use Rattle.constant_modules.specs.KeyedImports.Steps.{IsOverNameKeyed}
use Rattle.step_files.specs.declared.file.NewFile.{NewFile}
use Rattle.stepped_programs.specs.declared.package_search.looks.ProgramSources.{ProgramSources}
use Rattle.programs.specs.Users.{Known, is_user}
use Rattle.programs.specs.declared.state.Program.{Program}
use Rattle.run_rules.specs.Run.{Standing, Logged, Next}
use Rattle.run_rules.specs.Sites.{MarkRef, Where}
use Rattle.run_rules.specs.Steps.{At}
use Rattle.stepped_programs.specs.SearchedSites.OrderedSearches.Held.{IsThere, AreAllSettled, flag_of}
use Rattle.stepped_programs.specs.SearchedSites.SettledFiles.Left.{MayStaySet}
use Rattle.stepped_programs.specs.SteppedValues.Flags.{IsKeptProgram, SettledFlagsStay}
use Rattle.stepped_programs.specs.SteppedValues.OfSteps.{decl_of_step}
use Rattle.stepped_programs.specs.declared.place.StepPlace.{StepPlace}
use Rattle.stepped_programs.specs.Steps.{key_at, IsStepPut}
use Rattle.stepped_programs.specs.Laws.{IsOfStep, StepsKeepSettled, flags_of, users_of}
use Rattle.stepped_programs.proofs.Filled.{filled}
use Rattle.stepped_programs.proofs.LeftFlags.{leave_flags}

module _ (files : List Source) (marks : List MarkRef) (st : Standing) (l : Logged) (after : Standing) (n : Next marks st l after) (at : StepPlace) (os : List Span) (block : List (List ℕ)) (f : NewFile) (old new : Program)
    (s t : ProgramSources) (a : IsKeptProgram files marks st old s) (b : IsKeptProgram files marks after new t) (over : IsOverNameKeyed n) (o : IsOfStep n at os block f) (put : IsStepPut at os block f old new) where
  its_decl : key_at at ≡ decl_of_step n.found
  its_decl = λ v. (o.place.home v, (o.place.file v, o.place.decl v))

  may_stay : (w : Where At) → IsThere st.packages w → flag_of (flags_of new) w ≡ true → MayStaySet n.found (same_key (decl_of_step n.found)) (users_of old) (flags_of old) w
  may_stay w there set =
      subst (λ (d : DeclKey). MayStaySet n.found (same_key d) (users_of old) (flags_of old) w) its_decl
      (leave_flags marks st l after n at os block f old new o.place put w there set)

  pub kept : SettledFlagsStay → AreAllSettled marks st (users_of old) (flags_of old) → AreAllSettled marks after (users_of new) (flags_of new)
  kept law settled =
      law files marks st l after n old new s t (users_of old) (users_of new) (flags_of old) (flags_of new) a b put.types_stay over
      (filled files marks st l after n at os block f old new a.is_program o put).others
      (λ d k i other was. subst (λ (u : Known). is_user u d (k, i) ≡ true) (sym put.users_stay) was) settled may_stay

pub keep_settled : SettledFlagsStay → StepsKeepSettled
keep_settled law files marks st l after n at os block f old new s t a b over o put settled = kept files marks st l after n at os block f old new s t a b over o put law settled
