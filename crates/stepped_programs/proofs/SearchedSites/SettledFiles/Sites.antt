-- The sites of a file that a step leaves, before it and after it.
use Rattle.std.proofs.Common.{◌≡◌, ◌∙◌, refl, sym, ap, ℕ, Bool, List, [], ◌∷◌, ◌++◌, map, Option, Some, None}
use Rattle.std.proofs.lemmas.Option.{none-some}
use Rattle.go_tree.specs.declared.spans.Span.{Span}
use Rattle.go_tree.specs.File.{Decl}
use Rattle.constant_forms.specs.declared.uses.ConstantUse.{ConstantUse}
use Rattle.constant_forms.specs.declared.uses.ConstantValue.{ConstantValue}
use Rattle.constant_forms.specs.declared.uses.ConstantValue.TheVariants as lent
use Rattle.constant_forms.specs.Views.{obstacle_of}
use Rattle.stepped_programs.specs.SearchedSites.KeptUses.Laws.{AreToldAlike, KeptUsesStay}
use Rattle.repeated_parts.specs.declared.use_search.mark_values.values.DeclaredValue.{DeclaredValue}
use Rattle.repeated_parts.specs.declared.use_search.mark_values.values.DeclaredValue.TheVariants.{Plain, Qualified}
use Rattle.repeated_parts.specs.UseSearch.MarkValues.Tables.{value_in}
use Rattle.repeated_parts.specs.UseSearch.MarkValues.Values.{value_of}
use Rattle.repeated_parts.specs.declared.use_search.uses_of_marks.uses.MarkedUse.{MarkedUse}
use Rattle.repeated_parts.specs.UseSearch.UsesOfMarks.Laws.{EachSite, IsPlaced, placed_site}
use Rattle.repeated_parts.specs.UseSearch.UsesOfMarks.Uses.{PlacedMark, decls_uses}
use Rattle.member_uses.specs.Laws.{mark_used}
use Rattle.member_uses.specs.Uses.{Used, Names}
use Rattle.module_marks.specs.Views.{mark_ref_of}
use Rattle.pkg_graph.specs.Package.{Package}
use Rattle.pkg_graph.specs.Views.{package_view}
use Rattle.pkg_graph.specs.declared.packages.Package as code
use Rattle.member_uses.specs.PossibleUses.Parts.{parts_of}
use Rattle.repeated_parts.specs.declared.literal_types.table.LiteralTypes.{LiteralTypes}
use Rattle.repeated_parts.specs.LiteralTypes.Tables.{numbers_in}
use Rattle.repeated_parts.specs.Flags.{flags_of}
use Rattle.repeated_parts.specs.UsesRepeated.Laws.{FlaggedMark, flagged_marks}
use Rattle.repeated_parts.specs.UsesRepeated.Uses.{flagged_uses}
use Rattle.run_rules.specs.Obstacles.{Obstacle}
use Rattle.run_rules.specs.Respanned.{packages_with}
use Rattle.run_rules.specs.Run.{Standing, Kept, here_of, is_commented}
use Rattle.run_rules.specs.Sites.{MarkRef, Where, Site, member_of, marked}
use Rattle.run_rules.specs.Steps.{At}
use Rattle.stepped_programs.specs.SearchedSites.Searched.{StandsFor, AreSearched, at_the_end, past_kept, at_free}
use Rattle.stepped_programs.specs.SearchedSites.Told.{IsToldValue, IsProgram, IsFile}
use Rattle.stepped_programs.proofs.SearchedSites.Uses.{constant, declared, value, value_told, is_use}
use Rattle.repeated_parts.specs.declared.use_search.search.FoundForm.{FoundForm}
use Rattle.repeated_parts.specs.declared.use_search.search.FoundObstacle.{FoundObstacle}
use Rattle.repeated_parts.specs.declared.use_search.views.FileView.{FileView}
use Rattle.repeated_parts.specs.declared.use_search.views.ProgramView.{ProgramView}
use Rattle.repeated_parts.specs.UseSearch.Answers.{names_of, IsTold}

-- ---- what is told of a use

-- a value, lent from nowhere
abbrev lend : DeclaredValue → ConstantValue
lend (Plain n m) = lent.Plain (record { ref_ptr = (0, 0); now = n }) m
lend (Qualified k n) = lent.Qualified k (record { ref_ptr = (0, 0); now = n })

value_lent : (x : DeclaredValue) → value_of (lend x) ≡ x
value_lent (Plain n m) = refl
value_lent (Qualified k n) = refl

abbrev told_use : ProgramView → FileView → MarkedUse → DeclaredValue → ConstantUse
told_use p f u x =
    record {
      value = lend x;
      home = u.mark.«package»;
      packages = p.packages;
      there = f.home;
      file = f.tree;
      names = f.names;
      scopes = f.scopes;
      at = u.span.start;
      span = u.span;
      comments = f.comments;
      repeated = u.repeated;
    }

is_told : (p : ProgramView) (f : FileView) (u : MarkedUse) (x : DeclaredValue) → value_in p.values.now (mark_ref_of u.mark) ≡ Some x → IsTold p f u (told_use p f u x)
is_told p f u x e =
    record {
      value_is = e ∙ ap (λ (y : DeclaredValue). Some y) (sym (value_lent x));
      home_is = refl;
      packages_are = refl;
      there_is = refl;
      file_is = refl;
      names_are = refl;
      table_is = refl;
      begins = refl;
      stands = refl;
      comments_are = refl;
      repeats = refl;
    }

-- ---- the paths of packages

code_paths : (cs : List code.Package) → map (λ p. p.path) (map package_view cs) ≡ map (λ p. p.path) cs
code_paths [] = refl
code_paths (c ∷ cs) = ap (λ (ps : List (List ℕ)). c.path ∷ ps) (code_paths cs)

its_paths : (ps : List (Package At)) → map (λ p. p.path) (packages_with here_of ps) ≡ map (λ p. p.path) ps
its_paths [] = refl
its_paths (p ∷ ps) = ap (λ (rs : List (List ℕ)). p.path ∷ rs) (its_paths ps)

pub paths_told : (marks : List MarkRef) (st : Standing) (p : ProgramView) → IsProgram marks st p → map (λ c. c.path) p.packages.now ≡ map (λ q. q.path) st.packages
paths_told marks st p ip = sym (code_paths p.packages.now) ∙ ap (map (λ (q : Package Span). q.path)) ip.packages_are ∙ its_paths st.packages

-- ---- a site that is kept

module _ (marks : List MarkRef) (st after : Standing) (w v : Where At) (p q : ProgramView) (ip : IsProgram marks st p) (iq : IsProgram marks after q) (view : FileView) (iw : IsFile marks st w view)
    (iv : IsFile marks after v view) (law : KeptUsesStay) (paths : map (λ c. c.path) p.packages.now ≡ map (λ c. c.path) q.packages.now) where
  module _ (x y : Site At) (u : MarkedUse) (px : IsPlaced st.packages marks w (names_of view) x) (py : IsPlaced after.packages marks v (names_of view) y) (sx : StandsFor x u) (sy : StandsFor y u)
      (same : value_in q.values.now x.mark ≡ value_in p.values.now x.mark) where
    abbrev its_value : IsToldValue st.packages (declared marks st w p view ip iw x u px sx).file (constant marks st w p view ip iw x u px sx).expr (value_in p.values.now x.mark)
    its_value = value marks st w p view ip iw x u px sx

    abbrev told_before : ConstantUse
    told_before = told_use p view u its_value.value

    abbrev told_after : ConstantUse
    told_after = told_use q view u its_value.value

    before_told : IsTold p view u told_before
    before_told = is_told p view u its_value.value (value_told marks st w p view ip iw x u px sx)

    after_told : IsTold q view u told_after
    after_told = is_told q view u its_value.value (ap (λ (m : PlacedMark). value_in q.values.now m.1.0.1) sx ∙ same ∙ its_value.is_value)

    alike : AreToldAlike told_before told_after
    alike = record { value = refl; home = refl; there = refl; paths = paths; means = λ m. refl; span = refl; comments = refl; again = refl }

    pub kept_so : (o : Obstacle) → Kept marks st x o → Kept marks after y o
    kept_so o k =
        law marks st.packages after.packages (is_commented st) (is_commented after) x y (declared marks st w p view ip iw x u px sx).file (declared marks after v q view iq iv y u py sy).file
        (constant marks st w p view ip iw x u px sx).name (constant marks after v q view iq iv y u py sy).name (constant marks st w p view ip iw x u px sx).expr
        (constant marks after v q view iq iv y u py sy).expr told_before told_after o (is_use marks st w p view ip iw x u px sx told_before before_told)
        (is_use marks after v q view iq iv y u py sy told_after after_told) alike k

  -- ---- all sites

  abbrev head_or : PlacedMark → List PlacedMark → PlacedMark
  head_or d [] = d
  head_or d (m ∷ ms) = m

  abbrev behind : List PlacedMark → List PlacedMark
  behind [] = []
  behind (m ∷ ms) = ms

  abbrev Same : Site At → Type 0
  Same x = value_in q.values.now x.mark ≡ value_in p.values.now x.mark

  pub all_kept : (xs : List (Site At)) (ks : List FoundObstacle) (r : Option FoundForm) → AreSearched marks st xs ks r → r ≡ None → (ys : List (Site At)) → map placed_site xs ≡ map placed_site ys
      → EachSite (IsPlaced st.packages marks w (names_of view)) xs → EachSite (IsPlaced after.packages marks v (names_of view)) ys → EachSite Same xs → AreSearched marks after ys ks None
  all_kept _ _ _ at_the_end e [] m hx hy t = at_the_end
  all_kept _ _ _ at_the_end e (y ∷ ys) m hx hy t = absurd cc
  all_kept _ _ _ (past_kept x k xs ks r i s) e [] m hx hy t = absurd cc
  all_kept _ _ _ (past_kept x k xs ks r i s) e (y ∷ ys) m hx hy t =
      let at : placed_site x ≡ placed_site y = ap (head_or (placed_site x)) m in
      let sy : StandsFor y k.use_ = i.0 ∙ at in
      past_kept y k ys ks None (sy, kept_so x y k.use_ hx.0 hy.0 i.0 sy t.0 (obstacle_of k.obstacle) i.1) (all_kept xs ks r s e ys (ap behind m) hx.1 hy.1 t.1)
  all_kept _ _ _ (at_free x g xs i) e ys m hx hy t = absurd (none-some g (sym e))

-- ---- uses of members, among packages whose blocks are the same

module _ {A B : Type 0} (as_ : List (Package A)) (bs : List (Package B)) (same : (k : ℕ) (n : List ℕ) → member_of as_ k n ≡ member_of bs k n) (marks : List MarkRef) where
  abbrev placed : Used × Bool → List FlaggedMark → Option MarkRef → List FlaggedMark
  placed u rest o = elim o [ None ↦ rest | Some m ↦ ((u.0.span, m), u.1) ∷ rest ]

  used_same : (u : Used) → mark_used as_ marks u ≡ mark_used bs marks u
  used_same u = ap (λ (o : Option MarkRef). marked as_ marks o) (same u.«package» u.name)

  flagged_same : (us : List (Used × Bool)) → flagged_marks as_ marks us ≡ flagged_marks bs marks us
  flagged_same [] = refl
  flagged_same (u ∷ us) =
      ap (placed u (flagged_marks as_ marks us)) (used_same u.0) ∙ ap (λ (rest : List FlaggedMark). placed u rest (mark_used bs marks u.0)) (flagged_same us)

  pub uses_same : (f : Names) (t : LiteralTypes) (ds : List (ℕ × Decl Span)) → decls_uses (λ s. s) as_ marks f t ds ≡ decls_uses (λ s. s) bs marks f t ds
  uses_same f t [] = refl
  uses_same f t (d ∷ ds) =
      λ i. map (λ (x : FlaggedMark). (d.0, x)) (flagged_same (flagged_uses (λ s. s) f (parts_of d.1) (flags_of (numbers_in (λ s. s) f t) d.1)) i) ++ uses_same f t ds i
