-- A step over an unobstructed call that adds imports puts what calls through, and keeps which marked functions lie on a cycle.
use Rattle.std.proofs.Common.{◌≡◌, sym, ap, ◌∙◌, subst, ℕ, zero, suc, List, [], ◌∷◌, ◌++◌, Some}
use Rattle.std.specs.Prelude.{slice_get, is_some}
use Rattle.std.proofs.lemmas.Option.{same_Some}
use Rattle.go_tree.specs.Tree.{Expr}
use Rattle.go_tree.specs.File.{Func, Decl, func}
use Rattle.pkg_graph.specs.Package.{Package}
use Rattle.run_rules.specs.Cycles.{is_recursive}
use Rattle.run_rules.specs.FormTrees.{LiteralForm}
use Rattle.run_rules.specs.Places.{sig_seen, stmts_seen}
use Rattle.run_rules.specs.Programs.{top_place, body_place, receiver_seen, decl_seen}
use Rattle.run_rules.specs.Respanned.{decl_with, decls_with}
use Rattle.run_rules.specs.Run.{Standing, Logged, Next, is_commented, here_of}
use Rattle.run_rules.specs.Sites.{MarkRef, Part, an_expr, a_type_part, Site}
use Rattle.run_rules.specs.Steps.{At, same_here}
use Rattle.run_rules.specs.Surroundings.{Place, Seen}
use Rattle.splice_laws.specs.RunLaws.Reading.{FileReads, FileAt, ProgramReads}
use Rattle.splice_laws.proofs.RunLaws.FoundSpans.{Placed}
use Rattle.constant_steps.specs.PlainUse.{AllTheUse}
use Rattle.order_runs.specs.CycleRuns.ImportCycles.ImportSteps.{file_added, packages_added, where_added}
use Rattle.order_runs.specs.CycleRuns.Linked.{Linked, SettlesFile}
use Rattle.order_runs.proofs.CycleRuns.StepCycles.StepAlike.{found-placed}
use Rattle.order_runs.proofs.RunSteps.SeenSpread.{decl-apart}
use Rattle.order_runs.proofs.RunSteps.SpanPlaces.{DeclIn, DeclsIn}
use Rattle.order_runs.proofs.RunSteps.SpelledPlaces.{front_in}
use Rattle.order_runs.proofs.RunSteps.TokenPlaces.{tokens-rise}
use Rattle.literal_cycles.specs.FormCycles.Bodies.{StandsInFunction}
use Rattle.literal_cycles.specs.FormCycles.Puts.{PutsInBody}
use Rattle.literal_cycles.proofs.BodyForms.FormsWritten.{apart}
use Rattle.literal_cycles.proofs.FormCycles.FormSteps.{calls-change, call-step}
use Rattle.argument_cycles.specs.Braces.{PlacedBlock}
use Rattle.argument_cycles.specs.Literals.{PlacedLiteral}
use Rattle.argument_cycles.specs.ImportingSteps.Puts.{site_there, UseAdded, PutsAddedBlock, PutsAddedLiteral, PutsAddedExpression}
use Rattle.argument_cycles.proofs.BracesThere.{braces_through}
use Rattle.argument_cycles.proofs.CalleesLed.{callees_led}
use Rattle.argument_cycles.proofs.ExpressionsThere.{expression_through}
use Rattle.argument_cycles.proofs.LiteralsThere.{literal_through}
use Rattle.argument_cycles.proofs.Stays.{block_stays, literal_stays}
use Rattle.argument_cycles.proofs.ImportingSteps.OneUse.{one_use}
use Rattle.argument_cycles.proofs.PlacedBraces.{block_comes}
use Rattle.argument_cycles.proofs.PlacedLiterals.{literal_comes}

abbrev expr_of : Expr At → Part At → Expr At
expr_of d (an_expr e) = e
expr_of d (a_type_part t) = d

same_tree : (a b : Expr At) (p : Part At) → p ≡ an_expr a → p ≡ an_expr b → a ≡ b
same_tree a b p q r = ap (expr_of a) (sym q ∙ r)

nth_in : (ds : List (Decl At)) (i : ℕ) (d : Decl At) → slice_get ds i ≡ Some d → DeclsIn (decls_with here_of ds) → (lo : ℕ) × (hi : ℕ) × DeclIn lo hi (decl_with here_of d)
nth_in [] i d h k = apart (ap is_some h)
nth_in (c ∷ ds) zero d h k = subst (λ (z : Decl At). (lo : ℕ) × (hi : ℕ) × DeclIn lo hi (decl_with here_of z)) (same_Some c d h) k.0
nth_in (c ∷ ds) (suc i) d h k = nth_in ds i d h k.1

module _ (marks : List MarkRef) (st : Standing) (l : Logged) (after : Standing) (n : Next marks st l after) where
  abbrev mid : List (Package At)
  mid = packages_added st.packages n.found

  -- the start of a function there
  abbrev start : Func At → Place At
  start g = body_place mid n.found.site.at.number (where_added n.found).of (file_added n.found) g

  module _ (k : UseAdded n) where
    abbrev x : Site At
    x = site_there n.found k.place

    -- the declarations of the file, each between two places of its text
    decls : ProgramReads st → DeclsIn (decls_with here_of n.found.site.at.source.tree.decls)
    decls reads =
        let placed : Placed here_of (λ s. Unit {0}) st.packages marks n.found.site = found-placed marks st l after n in
        let its_file : FileAt st.packages n.found.site.at.number n.found.site.at.file_number n.found.site.at.source = record { of = n.found.site.at.of; package_is = placed.package_is; file_is = placed.file_is } in
        let read : FileReads st.texts n.found.site.at.source = reads n.found.site.at.number n.found.site.at.file_number n.found.site.at.source its_file in
        front_in read.reads.spells (tokens-rise read.text.text read.text.tokens read.text.comments read.reads.scans)

    behind : (xs ys : List (Seen At)) → AllTheUse same_here x k.tree (xs ++ ys) → AllTheUse same_here x k.tree ys
    behind [] ys a = a
    behind (y ∷ xs) ys a = behind xs ys a.1

    -- nothing else in the body has the use's span
    uses_alone : ProgramReads st → (g : Func At) → slice_get n.found.site.at.source.tree.decls n.found.site.decl ≡ Some (func g) → AllTheUse same_here x k.tree (stmts_seen (start g) g.body)
    uses_alone reads g e =
        let t = nth_in n.found.site.at.source.tree.decls n.found.site.decl (func g) e (decls reads) in
        let top : Place At = top_place mid n.found.site.at.number (where_added n.found).of (file_added n.found) in
        behind (receiver_seen mid top g.receiver ++ sig_seen top g.sig) (stmts_seen (start g) g.body)
        (one_use x k.tree k.part n.found.site.use_ (decl_seen mid n.found.site.at.number (where_added n.found).of (file_added n.found) (func g)) k.nth (k.is_seen (func g) e)
        (decl-apart here_of mid t.0 t.1 n.found.site.at.number (where_added n.found).of (file_added n.found) (func g) t.2))

    alone_for : ProgramReads st → (e : Expr At) → x.part ≡ an_expr e → (g : Func At) → slice_get n.found.site.at.source.tree.decls n.found.site.decl ≡ Some (func g) → AllTheUse same_here x e (stmts_seen (start g) g.body)
    alone_for reads e q g h = subst (λ (e : Expr At). AllTheUse same_here x e (stmts_seen (start g) g.body)) (same_tree k.tree e x.part k.part q) (uses_alone reads g h)

    -- what is put so in the function around keeps cycles
    keeps : PutsInBody n → Linked st.packages → SettlesFile n → StandsInFunction n → (m : MarkRef) → is_recursive st.packages marks m ≡ is_recursive after.packages marks m
    keeps p h s b m = call-step marks st l after n h s (calls-change marks st l after n k.function_used b) k.function_used p m

  -- ---- statements in braces

  abbrev block_of : (k : PutsAddedBlock n) → PlacedBlock (is_commented st) mid marks (site_there n.found (k.added).place) (k.block).use_ (k.block).kind
  block_of k = record {
    becomes = (k.block).becomes;
    statements = (k.block).statements;
    is_block = (k.block).is_block;
    callees = callees_led (is_commented st) mid marks (site_there n.found (k.added).place) (k.block).use_ (k.block).kind (k.block).becomes (k.block).meant;
    arguments = (k.block).arguments;
  }

  pub block_put : ProgramReads st → PutsAddedBlock n → PutsInBody n
  block_put reads k g e =
      let x : Site At = site_there n.found (k.added).place in
      braces_through (is_commented st) mid marks x (k.block).use_ (k.block).statements (λ z s h b i. block_comes (is_commented st) mid marks x (k.block).use_ (k.block).kind (block_of k) z s h x.decl b i)
      (λ z s h b i. block_stays (is_commented st) mid marks x (k.block).use_ (k.block).kind (k.block).stay (block_of k) z s h x.decl b i) n.found.form (sym (k.block).is_block ∙ k.same_form) (start g) g.body
      (alone_for k.added reads (k.block).use_.tree (k.block).use_.part g e) ((k.added).around g e)

  pub block_step : PutsAddedBlock n → Linked st.packages → ProgramReads st → SettlesFile n → StandsInFunction n → (m : MarkRef) → is_recursive st.packages marks m ≡ is_recursive after.packages marks m
  block_step k h reads s b m = keeps k.added (block_put reads k) h s b m

  -- ---- literals

  abbrev literal_of : (k : PutsAddedLiteral n) → PlacedLiteral (is_commented st) mid marks (site_there n.found (k.added).place) (k.literal).use_
  literal_of k = record {
    becomes = (k.literal).becomes;
    literal = (k.literal).literal;
    is_literal = (k.literal).is_literal;
    callees = callees_led (is_commented st) mid marks (site_there n.found (k.added).place) (k.literal).use_ LiteralForm (k.literal).becomes (k.literal).meant;
    arguments = (k.literal).arguments;
  }

  pub literal_put : ProgramReads st → PutsAddedLiteral n → PutsInBody n
  literal_put reads k g e =
      let x : Site At = site_there n.found (k.added).place in
      literal_through (is_commented st) mid marks x (k.literal).use_ (k.literal).literal (λ b i. literal_comes (is_commented st) mid marks x (k.literal).use_ (literal_of k) x.decl b i)
      (λ b i. literal_stays (is_commented st) mid marks x (k.literal).use_ (literal_of k) (k.literal).stay x.decl b i) n.found.form (sym (k.literal).is_literal ∙ k.same_form) (stmts_seen (start g) g.body)
      (alone_for k.added reads (k.literal).use_.tree (k.literal).use_.part g e) ((k.added).around g e)

  pub literal_step : PutsAddedLiteral n → Linked st.packages → ProgramReads st → SettlesFile n → StandsInFunction n → (m : MarkRef) → is_recursive st.packages marks m ≡ is_recursive after.packages marks m
  literal_step k h reads s b m = keeps k.added (literal_put reads k) h s b m

  -- ---- expressions

  pub expression_put : ProgramReads st → PutsAddedExpression n → PutsInBody n
  expression_put reads k g e =
      let x : Site At = site_there n.found (k.added).place in
      expression_through (is_commented st) mid marks x (k.expression).use_ (k.expression).placed n.found.form k.same_form (start g) g.body (alone_for k.added reads (k.expression).use_.tree (k.expression).use_.part g e) ((k.added).around g e)

  pub expression_step : PutsAddedExpression n → Linked st.packages → ProgramReads st → SettlesFile n → StandsInFunction n → (m : MarkRef) → is_recursive st.packages marks m ≡ is_recursive after.packages marks m
  expression_step k h reads s b m = keeps k.added (expression_put reads k) h s b m
