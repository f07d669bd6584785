-- What is asked of the first free use that is found, and what the code has of its file (Go specification, Constant
-- declarations; Qualified identifiers; Declarations and scope).
use Rattle.std.specs.Prelude.{◌≡◌, ℕ, ◌<◌, List, Some}
use Rattle.go_tree.specs.Tree.{Expr}
use Rattle.go_tree.specs.FileView.{file_of}
use Rattle.go_scan.specs.TokenLists.{TokenLists}
use Rattle.run_rules.specs.ImportRules.Laid.{CommentsAscend, Laid}
use Rattle.order_runs.specs.CycleRuns.OrderCycles.NewNames.{AvoidsFew}
use Rattle.run_rules.specs.Laws.{LiesBehindImports}
use Rattle.run_rules.specs.Marks.{text_at}
use Rattle.run_rules.specs.Respanned.{file_with}
use Rattle.run_rules.specs.Run.{Standing, here_of}
use Rattle.run_rules.specs.Sites.{MarkRef, Site, an_expr}
use Rattle.run_rules.specs.Steps.{At, Found}
use Rattle.run_rules.specs.Texts.{FileText}
use Rattle.constant_forms.specs.declared.reduced.ConstantForm.{ConstantForm}
use Rattle.stepped_programs.specs.declared.package_search.search.FoundInPackage.{FoundInPackage}
use Rattle.printed_constants.specs.TypedParts.StandingUses.Laws.{AreTyped}
use Rattle.repeated_parts.specs.declared.use_search.views.FileView.{FileView}
use Rattle.stepped_programs.specs.SearchedSites.OrderedSearches.Found.{HasTables}

-- The use that becomes this form, in a file with this text: it is an expression; the names to avoid are fewer than
-- 2^64; and its file is typed before the step and with the form in its place.
pub record IsRightUse
    (marks : List MarkRef) (st : Standing) (f : Found At) (old : FileText) (form : ConstantForm) : Type 0 where
  pub expr : Expr At
  pub part : f.site.part ≡ an_expr expr
  pub few : AvoidsFew st.packages f
  pub typed : AreTyped marks st f form

-- The code has the file of the use: its text with its tokens and comments, and a view of it with the tables of the
-- search.
pub record HasFile
    (st : Standing) (x : Site At) (r : FoundInPackage) (old : FileText) (v : FileView) (text : List ℕ)
    (tokens : TokenLists) : Type 0 where
  pub there : text_at x.at.source.path st.texts ≡ Some old
  pub text_is : old ≡ record { text = text; tokens = tokens.items; comments = tokens.comments }
  pub tree_is : file_of v.tree.now ≡ file_with here_of x.at.source.tree
  pub tables_are : HasTables r.tables v

-- What `step_file` asks of its caller, but for the size of the text.
pub record MayBeMade (v : FileView) (text : List ℕ) (tokens : TokenLists) (form : ConstantForm) : Type 0 where
  pub laid : Laid text tokens.items (file_of v.tree.now)
  pub ascend : CommentsAscend 0 tokens.comments
  pub behind : LiesBehindImports text tokens.items (file_of v.tree.now) form.span
  pub some : form.span.start < form.span.end
