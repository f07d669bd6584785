-- Where a form adds no imports, the packages with its imports added are those that stand.
use Rattle.std.proofs.Common.{◌≡◌, refl, sym, ap, ◌∙◌, ℕ, zero, suc, List, [], ◌∷◌, ◌++◌, Some}
use Rattle.std.specs.Prelude.{slice_get}
use Rattle.std.proofs.lemmas.Option.{same_Some}
use Rattle.pkg_graph.specs.Package.{SourceTree, Package}
use Rattle.run_rules.specs.Naming.{imports_added}
use Rattle.run_rules.specs.Sites.{MarkRef, Where}
use Rattle.run_rules.specs.Steps.{At, change_nth, added_decls}
use Rattle.run_rules.specs.Run.{Standing, Logged, Next}
use Rattle.order_runs.specs.CycleRuns.ImportCycles.ImportSteps.{file_added, packages_added, where_added}
use Rattle.order_runs.proofs.CycleRuns.StepCycles.StepAlike.{found-placed}

append_none : {A : Type 0} (xs : List A) → xs ++ [] ≡ xs
append_none [] = refl
append_none (x ∷ xs) = λ v. x ∷ append_none xs v

-- an entry that stays leaves its list
same_nth : {A : Type 0} (f : A → A) (k : ℕ) (xs : List A) (x : A) → slice_get xs k ≡ Some x → f x ≡ x → change_nth k f xs ≡ xs
same_nth f k [] x e h = refl
same_nth f zero (y ∷ xs) x e h = λ z. (ap f (same_Some y x e) ∙ h ∙ sym (same_Some y x e)) z ∷ xs
same_nth f (suc k) (y ∷ xs) x e h = λ z. y ∷ same_nth f k xs x e h z

module _ (marks : List MarkRef) (st : Standing) (l : Logged) (after : Standing) (n : Next marks st l after) (none : imports_added n.found.named ≡ []) where
  abbrev w : Where At
  w = n.found.site.at

  pub same_file : file_added n.found ≡ w.source.tree
  same_file = (λ z. record w.source.tree { imports = w.source.tree.imports ++ added_decls n.found.range (none z) }) ∙ (λ z. record w.source.tree { imports = append_none w.source.tree.imports z })

  files_same : change_nth w.file_number (λ (s : SourceTree At). record s { tree = file_added n.found }) w.of.files ≡ w.of.files
  files_same = same_nth (λ (s : SourceTree At). record s { tree = file_added n.found }) w.file_number w.of.files w.source (found-placed marks st l after n).file_is (λ z. record w.source { tree = same_file z })

  pub same_where : where_added n.found ≡ w
  same_where = λ z. record w { of = record w.of { files = files_same z }; source = record w.source { tree = same_file z } }

  pub same_packages : packages_added st.packages n.found ≡ st.packages
  same_packages =
      same_nth (λ (p : Package At). record p { files = change_nth w.file_number (λ (s : SourceTree At). record s { tree = file_added n.found }) p.files }) w.number st.packages w.of (found-placed marks st l after n).package_is (λ z. record w.of { files = files_same z })
