-- A step of a run over a call that becomes a literal in which an argument takes the place of its parameter and another stays the literal's, from the module, the marks and the texts: it is each of the steps that the laws speak of.
--   package main
--   func First(x, y int) int { return y }   (marked)
--   func main() { a := []int{1}; i := 0; b := 2; println(First(a[i], b)) }
-- after the step: println(func(x int) int { return b }(a[i]))
use Rattle.std.proofs.Common.{◌≡◌, refl, sym, ap, ◌∙◌, subst, true, false, [], Some, ◌⊎◌, inr}
use Rattle.std.specs.Prelude.{slice_get}
use Rattle.std.specs.Fmt.{digits}
use Rattle.go_tree.specs.GoTypes.Answers.{meets}
use Rattle.go_tree.proofs.GoTypes.Agreeing.{some_same}
use Rattle.go_tree.specs.File.{Func, func, Decl}
use Rattle.go_tree.specs.GoWords.Tokens.Pieces.{keyword_spellings}
use Rattle.directive_scan.specs.Lines.{is_inline}
use Rattle.pkg_graph.specs.ModuleFiles.Internal.{passes}
use Rattle.run_rules.specs.FormTrees.{LiteralForm}
use Rattle.run_rules.specs.Places.{stmts_seen, expr_seen}
use Rattle.run_rules.specs.Programs.{body_place, decl_seen}
use Rattle.run_rules.specs.Sites.{MarkRef, an_expr, inlinable, is_function, is_among_marks, is_free_function}
use Rattle.run_rules.specs.Steps.{At, same_here, Found}
use Rattle.run_rules.specs.Surroundings.{whole, seen, other}
use Rattle.run_rules.proofs.CaseTools.{mark}
use Rattle.run_rules.specs.Naming.{imports_added}
use Rattle.run_rules.specs.Run.{is_commented, step_in}
use Rattle.order_runs.specs.CycleRuns.ImportCycles.ImportSteps.{file_added, packages_added, where_added}
use Rattle.order_runs.specs.CycleLaws.PutCalls.{called_among}
use Rattle.literal_cycles.specs.BodyForms.Uses.{LinkedUse}
use Rattle.literal_cycles.specs.FormCycles.Bodies.{changes_of}
use Rattle.literal_cycles.specs.BodyForms.Steps.{AllStayThere}
use Rattle.argument_cycles.specs.Literals.{PutsPlacedLiteral}
use Rattle.argument_cycles.specs.FreeSteps.{PutsFreeLiteral}
use Rattle.argument_cycles.specs.TypedBodies.Served.{CalleesServed}
use Rattle.argument_cycles.specs.TypedBodies.Steps.{PutsTypedLiteral}
use Rattle.argument_cycles.specs.ImportingSteps.Puts.{FreeLiteral, site_there, PutsAddedLiteral}
use Rattle.argument_cycles.proofs.LiteralText.{module_, start, after, entry, the_next}
use Rattle.argument_cycles.proofs.FreeSteps.{literal_placed}
use Rattle.argument_cycles.specs.TypedMethods.Methods.{TypedMethodsLiteral, PutsTypedMethodsLiteral}
use Rattle.argument_cycles.proofs.Stays.{stay_of}
use Rattle.argument_cycles.proofs.LiteralUseExample.{the_call, main, tree, pk, rs, here, marks, in_comments, there, found, first_form, first_linked, first_served, first_free, first_called, first_methods}
use Rattle.argument_cycles.specs.FoundThere.There.{UseThere}
use Rattle.argument_cycles.specs.FoundThere.Steps.{CallFound, PutsFoundLiteral}
use Rattle.argument_cycles.specs.ArgumentRuns.Runs.{KeepsCallCycles, puts_arguments, a_free_literal}

-- ---- the step

-- what the step finds
finds : step_in module_.marks start ≡ Some found
unfolding passes keyword_spellings is_inline digits
finds = refl

found_is : the_next.found ≡ found
found_is = some_same the_next.found found (sym the_next.is_first ∙ finds)

-- in `main` what is around the use stays
around : (g : Func At) → slice_get tree.decls 1 ≡ Some (func g) → AllStayThere (changes_of found) rs marks here 1 (mark 0 0 0 0) (stmts_seen (body_place rs 0 pk tree g) g.body)
around g e =
    subst (λ (g : Func At). AllStayThere (changes_of found) rs marks here 1 (mark 0 0 0 0) (stmts_seen (body_place rs 0 pk tree g) g.body)) (ap (func_or main) (some_same (func main) (func g) e))
    (tt, (tt, (tt, (refl, (tt, (refl, (tt, (refl, (tt, (tt, (tt, (tt, (tt, (tt, (refl, (refl, (tt, tt)))))))))))))))))
  where
    func_or : Func At → Decl At → Func At
    func_or f (func g) = g
    func_or f d = f

-- what is known of a use that is found
record Facts (f : Found At) : Type 0 where
  stands : (g : Func At) × (slice_get f.site.at.source.tree.decls f.site.decl ≡ Some (func g))
  free : FreeLiteral in_comments start.packages module_.marks f.site
  same_form : (free.becomes).form ≡ f.form
  linked : LinkedUse same_here in_comments start.packages module_.marks f.site free.use_
  served : CalleesServed in_comments start.packages module_.marks f.site free.use_ LiteralForm
  methods : TypedMethodsLiteral in_comments start.packages module_.marks f.site free.use_
  methods_stay :
      (b : MarkRef) → meets (inlinable start.packages b) is_free_function ≡ false → is_among_marks (called_among start.packages module_.marks f.site.at f.site.decl (expr_seen f.site.place other free.use_.tree)) b ≡ true
      → (is_among_marks (called_among start.packages module_.marks f.site.at f.site.decl (expr_seen f.site.place other methods.literal)) b ≡ true) ⊎ (b ≡ f.site.mark)
  adds_nothing : imports_added f.named ≡ []
  around_it :
      (g : Func At) → slice_get f.site.at.source.tree.decls f.site.decl ≡ Some (func g) → AllStayThere (changes_of f) start.packages module_.marks f.site.at f.site.decl f.site.mark (stmts_seen (body_place start.packages f.site.at.number f.site.at.of f.site.at.source.tree g) g.body)

facts : Facts found
unfolding first_free
facts = record { stands = (main, refl); free = first_free; same_form = first_form; linked = first_linked; served = first_served; methods = first_methods; methods_stay = λ b g e. inr (first_called b e); adds_nothing = refl; around_it = around }

known : Facts the_next.found
known = subst Facts (sym found_is) facts

free_step : PutsFreeLiteral the_next
free_step = record {
  use_ = (known.free).use_;
  becomes = (known.free).becomes;
  literal = (known.free).literal;
  is_literal = (known.free).is_literal;
  meant = (known.free).meant;
  arguments = (known.free).arguments;
  stay = (known.free).stay;
  adds_nothing = known.adds_nothing;
  around = known.around_it;
}

-- so it puts what the laws of placed literals ask
placed_step : PutsPlacedLiteral the_next
placed_step = literal_placed module_.marks start entry after the_next free_step

typed_step : PutsTypedLiteral the_next
typed_step = record {
  use_ = (known.free).use_;
  becomes = (known.free).becomes;
  literal = (known.free).literal;
  is_literal = (known.free).is_literal;
  linked = known.linked;
  served = known.served;
  arguments = (known.free).arguments;
  stay = (known.free).stay;
  adds_nothing = known.adds_nothing;
  around = known.around_it;
}

methods_step : PutsTypedMethodsLiteral the_next
methods_step = record { use_ = (known.free).use_; literal_ = known.methods; stay = stay_of (is_commented start) start.packages module_.marks the_next.found.site (known.free).use_ LiteralForm (known.free).stay (λ b. meets (inlinable start.packages b) is_free_function ≡ true); methods_stay = known.methods_stay; adds_nothing = known.adds_nothing; around = known.around_it }

-- ---- the same with the imports of the form added, of which there are none

record AddedFacts (f : Found At) : Type 0 where
  function_used : meets (inlinable start.packages f.site.mark) is_function ≡ true
  part : f.site.part ≡ an_expr the_call
  alike : there ≡ record f.site.place { env = there.env; statement = there.statement }
  was_seen :
      (d : Decl At) → slice_get f.site.at.source.tree.decls f.site.decl ≡ Some d
      → slice_get (decl_seen start.packages f.site.at.number f.site.at.of f.site.at.source.tree d) 14 ≡ Some (seen f.site.place f.site.use_ the_call)
  is_seen :
      (d : Decl At) → slice_get f.site.at.source.tree.decls f.site.decl ≡ Some d
      → slice_get (decl_seen (packages_added start.packages f) f.site.at.number (where_added f).of (file_added f) d) 14 ≡ Some (seen there f.site.use_ the_call)
  around_it :
      (g : Func At) → slice_get f.site.at.source.tree.decls f.site.decl ≡ Some (func g)
      → AllStayThere (changes_of f) (packages_added start.packages f) module_.marks (where_added f) f.site.decl f.site.mark (stmts_seen (body_place (packages_added start.packages f) f.site.at.number (where_added f).of (file_added f) g) g.body)
  there_free : FreeLiteral in_comments (packages_added start.packages f) module_.marks (site_there f there)
  same_form : (there_free.becomes).form ≡ f.form

the_part : (d : Decl At) → slice_get tree.decls 1 ≡ Some d → slice_get (decl_seen rs 0 pk tree d) 14 ≡ Some (seen there whole the_call)
the_part d e = subst (λ (d : Decl At). slice_get (decl_seen rs 0 pk tree d) 14 ≡ Some (seen there whole the_call)) (some_same (func main) d e) refl

added_facts : AddedFacts found
unfolding first_free
added_facts = record { function_used = refl; part = refl; alike = refl; was_seen = the_part; is_seen = the_part; around_it = around; there_free = first_free; same_form = first_form }

added_known : AddedFacts the_next.found
added_known = subst AddedFacts (sym found_is) added_facts

added_step : PutsAddedLiteral the_next
added_step = record {
  added = record { function_used = added_known.function_used; place = there; tree = the_call; part = added_known.part; nth = 14; is_seen = added_known.is_seen; around = added_known.around_it };
  literal = added_known.there_free;
  same_form = added_known.same_form;
}

-- ---- so it is with the form that the use had before

use_stands : UseThere the_next
use_stands = record { tree = the_call; part = added_known.part; place = there; alike = added_known.alike; nth = 14; was_seen = added_known.was_seen; is_seen = added_known.is_seen }

call_found : CallFound the_next
call_found = record { use_ = (known.free).use_; there = use_stands; around = added_known.around_it }

found_there : FreeLiteral in_comments (packages_added start.packages the_next.found) module_.marks (site_there the_next.found (call_found.there).place)
unfolding call_found use_stands
found_there = added_known.there_free

found_step : PutsFoundLiteral the_next
found_step = record { call = call_found; literal = found_there }

-- so it is a step of the runs that the law of runs speaks of
keeps : KeepsCallCycles the_next
keeps = puts_arguments (record { around = (known.stands).0; is_around = (known.stands).1 }) (a_free_literal free_step)
