use Rattle.std.proofs.Common.{◌∙◌, ap, map, subst, List}
use Rattle.go_tree.specs.declared.files.Decl.{Decl}
use Rattle.go_tree.specs.FileView.{decl_of}
use Rattle.run_rules.specs.Programs.{numbered}
use Rattle.repeated_parts.specs.declared.use_search.uses_of_marks.uses.MarkedUse.{MarkedUse}
use Rattle.repeated_parts.specs.UseSearch.UsesOfMarks.Uses.{decls_uses}
use Rattle.repeated_parts.specs.UseSearch.Answers.{names_of}
use Rattle.repeated_parts.specs.UseSearch.Search.{IsSearched}
use Rattle.repeated_parts.proofs.use_search.search.search_file.Goals as goal

pub returns : goal.returns
returns c = λ ps ms h.
    record {
      uses = c.in_ok-uses.uses.items;
      are_all =
          c.in_ok-uses.ensures ps ms h
          ∙ ap (λ (ds : List Decl). decls_uses (λ s. s) ps ms (names_of c.args.file.now) c.args.program.now.types.now (numbered (map decl_of ds))) c.items.ensures;
      searched =
          subst (λ (us : List MarkedUse). IsSearched c.args.program.now c.args.file.now us c.in_ok-found.found.kept.items c.in_ok-found.found.free)
          c.deref.ensures.value c.in_ok-found.ensures;
    }
