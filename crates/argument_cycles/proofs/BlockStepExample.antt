-- A step of a run over a call that becomes a block in which an argument takes the place of its parameter and another is bound first, from the module, the marks and the texts: it is each of the steps that the laws speak of.
--   package main
--   func Log(a, b int) { println(b, a) }   (marked)
--   func next() int { println("n"); return 1 }
--   func g() int { println("g"); return 1 }
--   func h() int { println("h"); return 1 }
--   func main() { Log(g(), h()) }
-- after the step: func main() { { a := g(); println(h(), a) } }
use Rattle.std.proofs.Common.{◌≡◌, refl, sym, ap, ◌∙◌, subst, true, false, [], Some, ◌⊎◌, inr}
use Rattle.std.specs.Prelude.{slice_get}
use Rattle.std.specs.Fmt.{digits}
use Rattle.go_tree.specs.GoTypes.Answers.{meets}
use Rattle.go_tree.proofs.GoTypes.Agreeing.{some_same}
use Rattle.go_tree.specs.File.{Func, func, Decl}
use Rattle.go_tree.specs.GoWords.Tokens.Pieces.{keyword_spellings}
use Rattle.directive_scan.specs.Lines.{is_inline}
use Rattle.pkg_graph.specs.ModuleFiles.Internal.{passes}
use Rattle.run_rules.specs.Places.{stmts_seen, expr_seen}
use Rattle.run_rules.specs.Programs.{body_place, decl_seen}
use Rattle.run_rules.specs.Sites.{MarkRef, an_expr, inlinable, is_function, is_among_marks, is_free_function}
use Rattle.run_rules.specs.Steps.{At, same_here, Found}
use Rattle.run_rules.specs.Surroundings.{alone, seen, other, block}
use Rattle.run_rules.proofs.CaseTools.{mark}
use Rattle.run_rules.specs.Naming.{imports_added}
use Rattle.run_rules.specs.Run.{is_commented, step_in}
use Rattle.order_runs.specs.CycleRuns.ImportCycles.ImportSteps.{file_added, packages_added, where_added}
use Rattle.order_runs.specs.CycleLaws.PutCalls.{called_among}
use Rattle.literal_cycles.specs.BodyForms.Uses.{LinkedUse}
use Rattle.literal_cycles.specs.FormCycles.Bodies.{changes_of}
use Rattle.literal_cycles.specs.BodyForms.Steps.{AllStayThere}
use Rattle.argument_cycles.specs.Braces.{PutsPlacedBlock}
use Rattle.argument_cycles.specs.FreeSteps.{StaysAround, PutsFreeBlock}
use Rattle.argument_cycles.specs.LeftUses.Left.{AllLeft}
use Rattle.argument_cycles.proofs.LeftUses.Stay.{stays-around}
use Rattle.argument_cycles.specs.TypedBodies.Served.{CalleesServed}
use Rattle.argument_cycles.specs.TypedBodies.Steps.{PutsTypedBlock}
use Rattle.argument_cycles.specs.ImportingSteps.Puts.{FreeBlock, site_there, PutsAddedBlock}
use Rattle.argument_cycles.proofs.BlockText.{module_, start, after, entry, the_next}
use Rattle.argument_cycles.proofs.FreeSteps.{block_placed}
use Rattle.argument_cycles.specs.TypedMethods.Methods.{TypedMethodsBlock, PutsTypedMethodsBlock}
use Rattle.argument_cycles.proofs.Stays.{stay_of}
use Rattle.argument_cycles.proofs.BlockUseExample.{the_call, main, tree, pk, rs, here, marks, in_comments, there, found, log_form, log_linked, log_served, log_free, log_called, log_methods}
use Rattle.argument_cycles.specs.FoundThere.There.{UseThere}
use Rattle.argument_cycles.specs.FoundThere.Steps.{CallFound, PutsFoundBlock}
use Rattle.argument_cycles.specs.ArgumentRuns.Runs.{KeepsCallCycles, puts_arguments, a_free_block}

-- ---- the step

-- what the step finds
finds : step_in module_.marks start ≡ Some found
unfolding passes keyword_spellings is_inline digits
finds = refl

found_is : the_next.found ≡ found
found_is = some_same the_next.found found (sym the_next.is_first ∙ finds)

abbrev func_or : Func At → Decl At → Func At
func_or f (func g) = g
func_or f d = f

main_is : (g : Func At) → slice_get tree.decls 4 ≡ Some (func g) → main ≡ g
main_is g e = ap (func_or main) (some_same (func main) (func g) e)

-- in `main` what is around the use stays
around : (g : Func At) → slice_get tree.decls 4 ≡ Some (func g) → AllStayThere (changes_of found) rs marks here 4 (mark 0 0 0 0) (stmts_seen (body_place rs 0 pk tree g) g.body)
around g e = subst (λ (g : Func At). AllStayThere (changes_of found) rs marks here 4 (mark 0 0 0 0) (stmts_seen (body_place rs 0 pk tree g) g.body)) (main_is g e) (tt, (tt, (refl, (tt, (refl, (refl, (tt, tt)))))))

-- the use stands neither in what is called there nor among the values of what is declared
abbrev Leaves : Found At → Type 0
Leaves f = (g : Func At) → slice_get f.site.at.source.tree.decls f.site.decl ≡ Some (func g) → AllLeft (changes_of f) (stmts_seen (body_place start.packages f.site.at.number f.site.at.of f.site.at.source.tree g) g.body)

leaves : Leaves found
leaves g e = subst (λ (g : Func At). AllLeft (changes_of found) (stmts_seen (body_place rs 0 pk tree g) g.body)) (main_is g e) (tt, (tt, ((refl, tt), (tt, ((refl, tt), ((refl, tt), (tt, tt)))))))

-- so what is around it stays, by the law alone
left_so : StaysAround the_next
left_so = stays-around module_.marks start entry after the_next (subst Leaves (sym found_is) leaves)

-- what is known of a use that is found
record Facts (f : Found At) : Type 0 where
  stands : (g : Func At) × (slice_get f.site.at.source.tree.decls f.site.decl ≡ Some (func g))
  free : FreeBlock in_comments start.packages module_.marks f.site
  same_form : (free.becomes).form ≡ f.form
  linked : LinkedUse same_here in_comments start.packages module_.marks f.site free.use_
  served : CalleesServed in_comments start.packages module_.marks f.site free.use_ free.kind
  methods : TypedMethodsBlock in_comments start.packages module_.marks f.site free.use_ free.kind
  methods_stay :
      (b : MarkRef) → meets (inlinable start.packages b) is_free_function ≡ false → is_among_marks (called_among start.packages module_.marks f.site.at f.site.decl (expr_seen f.site.place other free.use_.tree)) b ≡ true
      → (is_among_marks (called_among start.packages module_.marks f.site.at f.site.decl (stmts_seen (block f.site.place) methods.statements)) b ≡ true) ⊎ (b ≡ f.site.mark)
  adds_nothing : imports_added f.named ≡ []
  around_it :
      (g : Func At) → slice_get f.site.at.source.tree.decls f.site.decl ≡ Some (func g) → AllStayThere (changes_of f) start.packages module_.marks f.site.at f.site.decl f.site.mark (stmts_seen (body_place start.packages f.site.at.number f.site.at.of f.site.at.source.tree g) g.body)

facts : Facts found
unfolding log_free
facts = record { stands = (main, refl); free = log_free; same_form = log_form; linked = log_linked; served = log_served; methods = log_methods; methods_stay = λ b g e. inr (log_called b e); adds_nothing = refl; around_it = around }

known : Facts the_next.found
known = subst Facts (sym found_is) facts

free_step : PutsFreeBlock the_next
free_step = record {
  use_ = (known.free).use_;
  kind = (known.free).kind;
  becomes = (known.free).becomes;
  statements = (known.free).statements;
  is_block = (known.free).is_block;
  meant = (known.free).meant;
  arguments = (known.free).arguments;
  stay = (known.free).stay;
  adds_nothing = known.adds_nothing;
  around = known.around_it;
}

-- so it puts what the laws of placed blocks ask
placed_step : PutsPlacedBlock the_next
placed_step = block_placed module_.marks start entry after the_next free_step

typed_step : PutsTypedBlock the_next
typed_step = record {
  use_ = (known.free).use_;
  kind = (known.free).kind;
  becomes = (known.free).becomes;
  statements = (known.free).statements;
  is_block = (known.free).is_block;
  linked = known.linked;
  served = known.served;
  arguments = (known.free).arguments;
  stay = (known.free).stay;
  adds_nothing = known.adds_nothing;
  around = known.around_it;
}

methods_step : PutsTypedMethodsBlock the_next
methods_step = record { use_ = (known.free).use_; kind = (known.free).kind; block_ = known.methods; stay = stay_of (is_commented start) start.packages module_.marks the_next.found.site (known.free).use_ (known.free).kind (known.free).stay (λ b. meets (inlinable start.packages b) is_free_function ≡ true); methods_stay = known.methods_stay; adds_nothing = known.adds_nothing; around = known.around_it }

-- ---- the same with the imports of the form added, of which there are none

record AddedFacts (f : Found At) : Type 0 where
  function_used : meets (inlinable start.packages f.site.mark) is_function ≡ true
  part : f.site.part ≡ an_expr the_call
  alike : there ≡ record f.site.place { env = there.env; statement = there.statement }
  was_seen :
      (d : Decl At) → slice_get f.site.at.source.tree.decls f.site.decl ≡ Some d
      → slice_get (decl_seen start.packages f.site.at.number f.site.at.of f.site.at.source.tree d) 5 ≡ Some (seen f.site.place f.site.use_ the_call)
  is_seen :
      (d : Decl At) → slice_get f.site.at.source.tree.decls f.site.decl ≡ Some d
      → slice_get (decl_seen (packages_added start.packages f) f.site.at.number (where_added f).of (file_added f) d) 5 ≡ Some (seen there f.site.use_ the_call)
  around_it :
      (g : Func At) → slice_get f.site.at.source.tree.decls f.site.decl ≡ Some (func g)
      → AllStayThere (changes_of f) (packages_added start.packages f) module_.marks (where_added f) f.site.decl f.site.mark (stmts_seen (body_place (packages_added start.packages f) f.site.at.number (where_added f).of (file_added f) g) g.body)
  block : FreeBlock in_comments (packages_added start.packages f) module_.marks (site_there f there)
  same_form : (block.becomes).form ≡ f.form

the_part : (d : Decl At) → slice_get tree.decls 4 ≡ Some d → slice_get (decl_seen rs 0 pk tree d) 5 ≡ Some (seen there (alone true) the_call)
the_part d e = subst (λ (d : Decl At). slice_get (decl_seen rs 0 pk tree d) 5 ≡ Some (seen there (alone true) the_call)) (some_same (func main) d e) refl

added_facts : AddedFacts found
unfolding log_free
added_facts = record { function_used = refl; part = refl; alike = refl; was_seen = the_part; is_seen = the_part; around_it = around; block = log_free; same_form = log_form }

added_known : AddedFacts the_next.found
added_known = subst AddedFacts (sym found_is) added_facts

added_step : PutsAddedBlock the_next
added_step = record {
  added = record { function_used = added_known.function_used; place = there; tree = the_call; part = added_known.part; nth = 5; is_seen = added_known.is_seen; around = added_known.around_it };
  block = added_known.block;
  same_form = added_known.same_form;
}

-- ---- so it is with the form that the use had before

use_stands : UseThere the_next
use_stands = record { tree = the_call; part = added_known.part; place = there; alike = added_known.alike; nth = 5; was_seen = added_known.was_seen; is_seen = added_known.is_seen }

call_found : CallFound the_next
call_found = record { use_ = (known.free).use_; there = use_stands; around = added_known.around_it }

found_there : FreeBlock in_comments (packages_added start.packages the_next.found) module_.marks (site_there the_next.found (call_found.there).place)
unfolding call_found use_stands
found_there = added_known.block

found_step : PutsFoundBlock the_next
found_step = record { call = call_found; block = found_there }

-- so it is a step of the runs that the law of runs speaks of
keeps : KeepsCallCycles the_next
keeps = puts_arguments (record { around = (known.stands).0; is_around = (known.stands).1 }) (a_free_block free_step)
