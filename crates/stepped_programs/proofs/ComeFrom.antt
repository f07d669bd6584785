-- Where the parts of declarations come from after a step.
use Rattle.std.proofs.Common.{◌≡◌, ◌∙◌, ◌⊎◌, inl, inr, refl, sym, ap, ℕ, List, [], ◌∷◌, map, Some, slice_set}
use Rattle.std.specs.Prelude.{slice_get}
use Rattle.std.proofs.lemmas.Option.{same_Some, slice_get_within}
use Rattle.go_tree.specs.declared.spans.Span.{Span}
use Rattle.go_tree.specs.Tree.{TypeExpr, named, pointer, slice_type, map_type, struct_type, Expr, ident, int_lit, rune_lit, str_lit, composite, selector, index, slice, call, func_lit, type_operand, unary, binary, star}
use Rattle.go_tree.specs.File.{Decl}
use Rattle.go_tree.specs.ScopeNames.Scopes.{expr_span}
use Rattle.pkg_graph.specs.Package.{SourceTree, Package}
use Rattle.pkg_graph.specs.Reads.{Source}
use Rattle.member_uses.proofs.Stays.{candidate_with, after_decl-stays}
use Rattle.step_files.specs.declared.file.NewFile.{NewFile}
use Rattle.member_uses.specs.PossibleUses.Candidates.{Candidate}
use Rattle.member_uses.specs.PossibleUses.Parts.{parts_of}
use Rattle.programs.specs.PartOrigins.Laws.{decls_origins}
use Rattle.programs.specs.PartOrigins.Spans.{part_spans}
use Rattle.programs.specs.PartOrigins.Views.{origins_of}
use Rattle.programs.specs.Programs.{HasOrigins, IsProgramOf}
use Rattle.programs.specs.declared.part_origins.origins.Origins.{Origins}
use Rattle.programs.specs.declared.part_origins.origins.PackageOrigins.{PackageOrigins}
use Rattle.programs.specs.declared.state.Program.{Program}
use Rattle.run_rules.specs.Respanned.{expr_with, type_with, decl_with, decls_with}
use Rattle.run_rules.specs.Run.{Standing, Logged, Next, origin_of}
use Rattle.run_rules.specs.Sites.{MarkRef, Part, an_expr, a_type_part, Site, part_span, type_span}
use Rattle.run_rules.specs.Steps.{At, same_here, changes_for, new_decl, new_decls}
use Rattle.stepped_programs.proofs.SearchedSites.KeptPrograms.Kept.{set_here, set_else, nat_cases}
use Rattle.stepped_programs.proofs.Lists.{put_image}
use Rattle.stepped_programs.proofs.SearchedSites.SettledFiles.Packages.{placed}
use Rattle.stepped_programs.specs.declared.place.StepPlace.{StepPlace}
use Rattle.stepped_programs.specs.SwappedOrigins.{IsOriginPut}
use Rattle.stepped_programs.specs.Steps.{IsStepPut}
use Rattle.stepped_programs.specs.Laws.{IsOfStep}
use Rattle.stepped_programs.proofs.Packages.{own_file}
use Rattle.stepped_programs.proofs.Files.{LeftFile, left_file}

-- ---- parts with other spans

module _ {S T : Type 0} (to : S → T) where
  expr_to : (e : Expr S) → expr_span (expr_with to e) ≡ to (expr_span e)
  expr_to (ident s n) = refl
  expr_to (int_lit s n) = refl
  expr_to (rune_lit s n) = refl
  expr_to (str_lit s n) = refl
  expr_to (composite s t es) = refl
  expr_to (selector s b n) = refl
  expr_to (index s b i) = refl
  expr_to (slice s b i j) = refl
  expr_to (call s f es r) = refl
  expr_to (func_lit s g z b) = refl
  expr_to (type_operand s t) = refl
  expr_to (unary s o e) = refl
  expr_to (binary s o a b) = refl
  expr_to (star s e) = refl

  type_to : (t : TypeExpr S) → type_span (type_with to t) ≡ to (type_span t)
  type_to (named s p n) = refl
  type_to (pointer s t) = refl
  type_to (slice_type s t) = refl
  type_to (map_type s k t) = refl
  type_to (struct_type s fs) = refl

  part_to : (c : Candidate S) → part_span (candidate_with to c).part ≡ to (part_span c.part)
  part_to c = by c.part
    where
      by : (p : Part S) → part_span (candidate_with to (record { part = p; key = c.key })).part ≡ to (part_span p)
      by (an_expr e) = expr_to e
      by (a_type_part t) = type_to t

  parts_to : (cs : List (Candidate S)) → map (λ c. part_span c.part) (map (candidate_with to) cs) ≡ map to (map (λ c. part_span c.part) cs)
  parts_to [] = refl
  parts_to (c ∷ cs) = λ w. part_to c w ∷ parts_to cs w

  spans_to : (d : Decl S) → part_spans (decl_with to d) ≡ map to (part_spans d)
  spans_to d = ap (map (λ (c : Candidate T). part_span c.part)) (after_decl-stays to d []) ∙ parts_to (parts_of d)

  decls_to : (ds : List (Decl S)) → map (λ d. map to (part_spans d)) ds ≡ map part_spans (decls_with to ds)
  decls_to [] = refl
  decls_to (d ∷ ds) = λ w. sym (spans_to d) w ∷ decls_to ds w

-- where the parts of a declaration come from
abbrev pub comes_from : Decl At → List Span
comes_from d = map origin_of (part_spans d)

module _ (marks : List MarkRef) (st : Standing) (l : Logged) (after : Standing) (n : Next marks st l after) where
  abbrev x : Site At
  x = n.found.site

  abbrev pub decl_put : Decl At → Decl At
  decl_put d = new_decl same_here st.packages (changes_for same_here (part_span x.part) n.found.form) x.at.number x.at.of x.at.source.tree d

  -- the file that is read again comes from where the form was put
  pub origins_same : decls_origins n.tree.decls ≡ decls_origins (new_decls same_here st.packages x n.found.form)
  origins_same =
      decls_to origin_of n.tree.decls ∙ (λ v. map part_spans ((n.origins_are v).decls))
      ∙ sym (decls_to origin_of (new_decls same_here st.packages x n.found.form))

  -- one declaration of it has other origins
  pub origins_put : (os : List Span) → slice_get (decls_origins n.tree.decls) x.decl ≡ Some os → decls_origins n.tree.decls ≡ slice_set (decls_origins x.at.source.tree.decls) x.decl os
  origins_put os h =
      origins_same
      ∙ put_image comes_from decl_put x.at.source.tree.decls x.decl os (ap (λ (ls : List (List Span)). slice_get ls x.decl) (sym origins_same) ∙ h)

-- ---- in a program

module _ (files : List Source) (marks : List MarkRef) (st : Standing) (l : Logged) (after : Standing) (n : Next marks st l after) (at : StepPlace) (os : List Span) (block : List (List ℕ)) (f : NewFile) (old new : Program)
    (is : IsProgramOf files marks st old) (o : IsOfStep n at os block f) (put : IsStepPut at os block f old new) where
  abbrev y : Site At
  y = n.found.site

  g : IsOriginPut at.home at.file at.decl os old.origins.items new.origins.items
  g = put.origins_are

  home_within : slice_get new.origins.items at.home ≡ Some g.now
  home_within =
      ap (λ (hs : List PackageOrigins). slice_get hs at.home) g.put ∙ set_here old.origins.items at.home g.now (slice_get_within old.origins.items at.home g.was g.was_is)

  -- the file of the step
  its_before : HasOrigins old at.home at.file y.at.source
  its_before =
      is.origins at.home at.file y.at.of y.at.source (ap (slice_get st.packages) o.place.home ∙ (placed marks st l after n).package_is)
      (ap (slice_get y.at.of.files) o.place.file ∙ (placed marks st l after n).file_is)

  same_home : its_before.home ≡ g.was
  same_home = same_Some its_before.home g.was (sym its_before.there ∙ g.was_is)

  same_file : its_before.kept.origins ≡ g.file.was
  same_file =
      same_Some its_before.kept.origins g.file.was
      (sym its_before.kept.there ∙ ap (λ (h : PackageOrigins). slice_get h.files.items at.file) same_home ∙ g.file.was_is)

  were : origins_of g.file.was ≡ decls_origins y.at.source.tree.decls
  were = ap (λ (q : Origins). origins_of q) (sym same_file) ∙ its_before.kept.are

  are_now : origins_of g.file.now ≡ decls_origins n.tree.decls
  are_now =
      g.file.decl.decls ∙ ap (λ (ls : List (List Span)). slice_set ls at.decl os) were
      ∙ ap (λ (j : ℕ). slice_set (decls_origins y.at.source.tree.decls) j os) o.place.decl
      ∙ sym (origins_put marks st l after n os (ap (slice_get (decls_origins n.tree.decls)) (sym o.place.decl) ∙ o.origins_are))

  module _ (k i : ℕ) (h : Package At) (source : SourceTree At) (package_is : slice_get after.packages k ≡ Some h) (file_is : slice_get h.files i ≡ Some source) where
    its_own : k ≡ y.at.number → i ≡ y.at.file_number → HasOrigins new k i source
    its_own a b =
        let home : k ≡ at.home = a ∙ sym o.place.home in
        let same : i ≡ at.file = b ∙ sym o.place.file in
        record {
          home = g.now;
          there = ap (slice_get new.origins.items) home ∙ home_within;
          kept =
              record {
                origins = g.file.now;
                there =
                    ap (slice_get g.now.files.items) same ∙ ap (λ (fs : List Origins). slice_get fs at.file) g.file.put
                    ∙ set_here g.was.files.items at.file g.file.now (slice_get_within g.was.files.items at.file g.file.was g.file.was_is);
                are = are_now ∙ ap (λ (s : SourceTree At). decls_origins s.tree.decls) (sym (own_file marks st l after n k i h source a b package_is file_is));
              };
        }

    its_old : ((k ≡ y.at.number) × (i ≡ y.at.file_number) → ⊥) → HasOrigins new k i source
    its_old differ = by (nat_cases k at.home)
      where
        left : LeftFile marks st l after n k i h source
        left = left_file marks st l after n k i h source package_is file_is differ

        z : HasOrigins old k i left.was.source
        z = is.origins k i left.was.of left.was.source left.home_is left.file_is

        are : origins_of z.kept.origins ≡ decls_origins source.tree.decls
        are = z.kept.are ∙ ap (λ (s : SourceTree At). decls_origins s.tree.decls) left.source_is

        by : (k ≡ at.home) ⊎ (k ≡ at.home → ⊥) → HasOrigins new k i source
        by (inr ne) =
            record {
              home = z.home;
              there = ap (λ (hs : List PackageOrigins). slice_get hs k) g.put ∙ set_else old.origins.items at.home k g.now ne ∙ z.there;
              kept = record { origins = z.kept.origins; there = z.kept.there; are = are };
            }
        by (inl e) =
            let own : z.home ≡ g.was = same_Some z.home g.was (sym z.there ∙ ap (slice_get old.origins.items) e ∙ g.was_is) in
            record {
              home = g.now;
              there = ap (slice_get new.origins.items) e ∙ home_within;
              kept =
                  record {
                    origins = z.kept.origins;
                    there =
                        ap (λ (fs : List Origins). slice_get fs i) g.file.put
                        ∙ set_else g.was.files.items at.file i g.file.now (λ q. differ (e ∙ o.place.home, q ∙ o.place.file))
                        ∙ ap (λ (q : PackageOrigins). slice_get q.files.items i) (sym own) ∙ z.kept.there;
                    are = are;
                  };
            }

    pub origins_now : HasOrigins new k i source
    origins_now = by (nat_cases k y.at.number) (nat_cases i y.at.file_number)
      where
        by : (k ≡ y.at.number) ⊎ (k ≡ y.at.number → ⊥) → (i ≡ y.at.file_number) ⊎ (i ≡ y.at.file_number → ⊥) → HasOrigins new k i source
        by (inl a) (inl b) = its_own a b
        by (inl a) (inr b) = its_old (λ e. b e.1)
        by (inr a) q = its_old (λ e. a e.0)
