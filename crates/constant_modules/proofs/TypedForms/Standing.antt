-- With the form of a step over a constant in its place each declaration of its file is as import_uses asks.
use Rattle.std.proofs.Common.{◌≡◌, ◌∙◌, refl, sym, subst, ℕ, zero, suc, true, List, [], ◌∷◌, Some}
use Rattle.std.specs.Prelude.{slice_get}
use Rattle.std.proofs.lemmas.Option.{same_Some}
use Rattle.go_tree.specs.declared.spans.Span.{Span}
use Rattle.go_tree.specs.File.{Decl}
use Rattle.go_translation.specs.Packages.{are_well_typed}
use Rattle.order_runs.specs.RunSteps.RunPackages.{members_of}
use Rattle.pkg_graph.specs.Package.{Package}
use Rattle.printed_constants.specs.StandingForms.Laws.{FirstUsesHaveNext}
use Rattle.printed_constants.specs.TypedParts.Parts.{AllTyped}
use Rattle.printed_constants.specs.TypedParts.ScopedParts.Posts.{PostsInDecl}
use Rattle.printed_constants.specs.TypedParts.StandingUses.ImportUses.Steps.{EachDecl, IsStanding}
use Rattle.printed_constants.proofs.Steps.{mapped_nth, nth_mapped}
use Rattle.printed_constants.proofs.TypedParts.ScopedParts.Keys.{all_keyed}
use Rattle.printed_constants.proofs.TypedParts.ScopedParts.SeenPosts.{decl_posts}
use Rattle.run_by_steps.specs.NextPrograms.Made.{NextWith}
use Rattle.run_rules.specs.Programs.{decl_seen}
use Rattle.run_rules.specs.Respanned.{decl_with, decls_with}
use Rattle.run_rules.specs.Run.{Standing, Logged, Next, here_of, origin_of}
use Rattle.run_rules.specs.Sites.{MarkRef, Where}
use Rattle.run_rules.specs.Steps.{At, Found, same_here, new_decls}
use Rattle.run_rules.specs.Surroundings.{Seen}
use Rattle.constant_modules.specs.NamedAnywhere.Puts.{PutsNameThere}
use Rattle.constant_modules.specs.TypedForms.Laws.{StandBetween, StepsStandBetween, FirstUsesAreTyped}
use Rattle.constant_modules.specs.TypedUses.Laws.{FirstUsesAreTypedBefore}
use Rattle.constant_modules.proofs.CountedUses.Between.{qs, v, declared_between, distinct_between, ordered_between, file_there}
use Rattle.constant_modules.proofs.CountedUses.Imports.{linked_distinct}
use Rattle.constant_modules.proofs.CountedUses.Programs.{file_dotted, file_parts_typed}
use Rattle.constant_modules.proofs.NamedAnywhere.Puts.{puts_of}
use Rattle.constant_modules.proofs.TypedForms.Posts.{decl_on, front_posts, nth_posts, all_scoped}

-- what holds of each by its number holds of all
each_nth : {S : Type 0} (P : Decl S → Type 0) (ds : List (Decl S)) → ((i : ℕ) (d : Decl S) → slice_get ds i ≡ Some d → P d) → EachDecl P ds
each_nth P [] h = tt
each_nth P (d ∷ ds) h = (h zero d refl, each_nth P ds (λ i c e. h (suc i) c e))

module _ (marks : List MarkRef) (st : Standing) (l : Logged) (after : Standing) (n : Next marks st l after) (h : PutsNameThere n) (typed : are_well_typed (members_of st.packages) ≡ true) where
  abbrev here : Where At
  here = v marks st l after n h typed

  abbrev ps : List (Package At)
  ps = qs marks st l after n h typed

  decls_are : decls_with origin_of n.tree.decls ≡ decls_with origin_of (new_decls same_here st.packages n.found.site n.found.form)
  decls_are = λ z. (n.origins_are z).decls

  -- its headers of `for` are as those of the file that is read again
  posts : (i : ℕ) (d : Decl At) → slice_get here.source.tree.decls i ≡ Some d → PostsInDecl (decl_with origin_of d)
  posts i d e =
      let r = mapped_nth (decl_with origin_of) n.tree.decls i (decl_with origin_of d) ((λ z. slice_get (decls_are z) i) ∙ nth_mapped (decl_with origin_of) (new_decls same_here st.packages n.found.site n.found.form) i d e) in
      subst (λ (y : Decl Span). PostsInDecl y) r.2 (decl_on here_of origin_of r.0 (nth_posts here_of n.tree.decls i r.0 (front_posts n.spells) r.1))

  one_stands : (i : ℕ) (d : Decl At) → slice_get here.source.tree.decls i ≡ Some d → IsStanding ps here d
  one_stands i d e =
      let xs : List (Seen At) = decl_seen ps here.number here.of here.source.tree d in
      let there = file_there marks st l after n h typed in
      let t : AllTyped xs =
      file_parts_typed ps (ordered_between marks st l after n h typed) (declared_between marks st l after n h typed) (linked_distinct ps (distinct_between marks st l after n h typed)) here there.0 there.1 i d e in
      record {
        scoped = all_scoped xs t (decl_posts origin_of ps here.number here.of here.source.tree d (posts i d e));
        keyed = all_keyed xs t;
        dotted = file_dotted ps (ordered_between marks st l after n h typed) (declared_between marks st l after n h typed) (linked_distinct ps (distinct_between marks st l after n h typed)) here there.0 there.1 i d e;
      }

  stand : StandBetween marks st n.found
  stand = each_nth (IsStanding ps here) here.source.tree.decls one_stands

pub stand_between : StepsStandBetween
stand_between marks st l after n h typed = stand marks st l after n (puts_of marks st l after n h) typed

pub first_typed : FirstUsesHaveNext → FirstUsesAreTypedBefore → FirstUsesAreTyped
first_typed have_next before marks st f old form ready typed is c becomes takes =
    let r = have_next marks st f old ready is c in
    let x : NextWith marks st f old r.0 r.1 = r.2 in
    let same : x.next.found ≡ f = same_Some x.next.found f (sym x.next.is_first ∙ is.is_first) in
    before marks st f old form ready typed is c becomes (subst (λ (g : Found At). StandBetween marks st g) same (stand marks st _ x.after x.next (puts_of marks st _ x.after x.next (takes r.0 r.1 x)) typed))
