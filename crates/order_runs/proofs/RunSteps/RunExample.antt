-- A run of one step, from the files' bytes to a program that means the same, by the laws alone.
--   const Pointer = 1
--   const Ptr = Pointer          (marked)
--   func main() { println(Ptr) }
use Rattle.std.proofs.Common.{◌≡◌, refl, subst}
use Rattle.std.specs.Prelude.{true, false, [], ◌∷◌, None, codes, is_some}
use Rattle.std.proofs.lemmas.Option.{same_Some}
use Rattle.go_tree.specs.declared.exprs.Rest.TheVariants.{Plain}
use Rattle.go_tree.specs.Tree.{ident, int_lit, call, no_exprs, expr_and, const_decl, eval, no_stmts, stmt_and, no_specs, spec}
use Rattle.go_tree.specs.File.{File, values}
use Rattle.go_tree.specs.GoWords.Tokens.{TokensOf, tokens_from, comments_from}
use Rattle.go_tree.specs.GoWords.Tokens.Characters.{is_letter, is_digit}
use Rattle.go_tree.specs.GoWords.Tokens.Pieces.{keyword_spellings}
use Rattle.go_scan.specs.Automaton.{next_of, longest_from}
use Rattle.go_scan.specs.Pieces.{piece_of, lexeme_of}
use Rattle.go_read.proofs.Texts.{reading}
use Rattle.ucd_category.specs.GeneralCategory.{general_category}
use Rattle.ucd_category.specs.GeneralCategoryRows.{general_category_rows}
use Rattle.ucd_table.specs.Rows.{value_in}
use Rattle.directive_scan.specs.Lines.{is_inline}
use Rattle.pkg_graph.specs.ModuleFiles.Internal.{passes}
use Rattle.std.specs.Fmt.{digits}
use Rattle.go_translation.specs.SameMeaning.{SameMeaning}
use Rattle.run_rules.specs.Programs.{decl_seen}
use Rattle.run_rules.specs.Respanned.{packages_with}
use Rattle.run_rules.specs.Steps.{At}
use Rattle.run_rules.specs.Run.{Standing, Logged, Next, Run, step_in, goes_on, ends, here_of}
use Rattle.run_rules.specs.Inlining.{standing_as_read}
use Rattle.run_rules.proofs.CaseTools.{from, nmf, sig, fn, mark}
use Rattle.run_rules.proofs.Instances.{stands_after, log_entry, next_by}
use Rattle.run_rules.proofs.ModulesRead.{folder, small_module}
use Rattle.run_rules.proofs.RunsOfConstants.{one_constant, one_constant_t0, one_constant_new, one_constant_run}
use Rattle.run_rules.proofs.TokensFound.{tokens_by}
use Rattle.constant_steps.specs.Alone.{no_constants, and_constant, constants_alone, no_decls, and_decl, no_files, and_file}
use Rattle.constant_steps.specs.Alone as alone
use Rattle.constant_steps.specs.PlainUse.{AllSimple}
use Rattle.order_runs.specs.RunSteps.RunPackages.{packages_of}
use Rattle.order_runs.specs.RunSteps.PlainNext.{IsPlain, AllPlain}
use Rattle.order_runs.proofs.RunSteps.PlainRuns.{module-means}
use Rattle.order_runs.proofs.RunSteps.SameMeant.{same-code}

abbrev start : Standing
start = standing_as_read one_constant.packages one_constant.texts

abbrev tree : File At
tree = record { package_name = (nmf 8 12 8 12 (codes "main")); imports = []; decls = ((values (const_decl (from 14 31 14 31) false (spec (from 20 31 20 31) ((nmf 20 27 20 27 (codes "Pointer")) ∷ []) None (expr_and (int_lit (from 30 31 30 31) (codes "1")) no_exprs) no_specs))) ∷ (values (const_decl (from 49 68 49 68) false (spec (from 55 68 55 68) ((nmf 55 58 55 58 (codes "Ptr")) ∷ []) None (expr_and (ident (from 61 68 61 68) (codes "Pointer")) no_exprs) no_specs))) ∷ (fn (from 70 103 70 99) None (nmf 75 79 75 79 (codes "main")) (sig [] []) (from 82 103 82 99) (stmt_and (eval (from 85 101 85 97) (call (from 85 101 85 97) (ident (from 85 92 85 92) (codes "println")) (expr_and (ident (from 93 100 93 96) (codes "Pointer")) no_exprs) Plain)) no_stmts)) ∷ []) }

steps : is_some (step_in one_constant.marks start) ≡ true
unfolding passes keyword_spellings is_inline digits
steps = refl

new_tokens : TokensOf one_constant_new.text one_constant_new.tokens one_constant_new.comments
unfolding piece_of lexeme_of longest_from next_of tokens_from comments_from keyword_spellings is_letter is_digit general_category general_category_rows value_in lib.Utf8.encode
new_tokens = tokens_by one_constant_new.text one_constant_new.tokens one_constant_new.comments refl refl refl

abbrev after : Standing
after = stands_after one_constant.marks start steps one_constant_t0 one_constant_new tree

abbrev entry : Logged
entry = log_entry one_constant.marks start steps one_constant_t0 one_constant_new tree

the_next : Next one_constant.marks start entry after
unfolding passes keyword_spellings is_inline digits reading steps
the_next = next_by one_constant.marks start steps one_constant_t0 one_constant_new tree refl refl new_tokens refl refl

the_run : Run one_constant.marks start (entry ∷ []) after
unfolding passes keyword_spellings is_inline digits steps
the_run = goes_on start after after entry [] the_next (ends after refl)

-- the step is over a plain use of the constant
is_plain : IsPlain the_next
unfolding passes keyword_spellings is_inline digits steps the_next
is_plain = record {
  span = from 93 96 93 96;
  name = codes "Ptr";
  part = refl;
  home = the_next.found.site.at;
  stands = refl;
  same_package = refl;
  elsewhere = refl;
  constant = nmf 55 58 55 58 (codes "Ptr");
  at = from 61 68 61 68;
  new = codes "Pointer";
  declared = refl;
  untyped = refl;
  new_mark = mark 0 0 0 0;
  new_names = refl;
  new_constant = nmf 20 27 20 27 (codes "Pointer");
  new_expr = int_lit (from 30 31 30 31) (codes "1");
  new_declared = refl;
  imports = refl;
  plain = and_file (and_decl (constants_alone (and_constant no_constants)) (and_decl (constants_alone (and_constant no_constants)) (and_decl alone.a_function no_decls))) no_files;
  simple = λ d h.
      subst (λ d. AllSimple (decl_seen start.packages the_next.found.site.at.number the_next.found.site.at.of the_next.found.site.at.source.tree d))
      (same_Some (fn (from 70 99 70 99) None (nmf 75 79 75 79 (codes "main")) (sig [] []) (from 82 99 82 99) (stmt_and (eval (from 85 97 85 97) (call (from 85 97 85 97) (ident (from 85 92 85 92) (codes "println")) (expr_and (ident (from 93 96 93 96) (codes "Ptr")) no_exprs) Plain)) no_stmts)) d h)
      (tt, (tt, (tt, (tt, tt))));
}

all_plain : AllPlain the_run
unfolding the_run
all_plain = (is_plain, tt)

-- so the module before it and the one after it mean the same
means_the_same : SameMeaning (packages_of one_constant.packages []) (packages_of (packages_with here_of after.packages) [])
means_the_same =
    same-code (packages_of one_constant.packages []) (packages_of (packages_with here_of after.packages) [])
    (module-means (folder small_module one_constant.texts) one_constant.packages one_constant.texts one_constant.marks after (entry ∷ []) one_constant_run.read the_run all_plain [])
