-- The bodies of the functions that a file declares are formed as the grammar has them where tokens of a text spell the
-- file.
use Rattle.std.proofs.Common.{List}
use Rattle.go_tree.specs.declared.spans.Span.{Span}
use Rattle.go_tree.specs.Tree.{Stmts}
use Rattle.go_tree.specs.File.{Decl, File}
use Rattle.go_read.specs.SpellsSpans.{span_to}
use Rattle.go_read.specs.SpellsTypes.{Lexemes}
use Rattle.go_read.specs.Spells.{SpellsBlock, block_rule, const_rule, var_rule}
use Rattle.go_read.specs.SpellsFiles.{SpellsTops, SpellsFront, top_const_rule, top_var_rule, top_type_rule, top_type_group_rule, top_func_rule, top_method_rule, no_tops_rule, more_tops_rule, front_rule}
use Rattle.go_layout.specs.LayoutLaws.Formed.{FormedStmts}
use Rattle.go_layout.specs.LayoutLaws.Real.{AreReal}
use Rattle.go_layout.proofs.LayoutLaws.FormedTypes.{sig_formed}
use Rattle.go_layout.proofs.LayoutLaws.FormedTrees.{stmt_formed}
use Rattle.go_layout.proofs.LayoutLaws.RealTokens.{tokens_real}
use Rattle.collected.specs.ValueHeaders.SpelledDecls.{BodiesAreFormed, ReadBodiesAreFormed}
use Rattle.collected.proofs.ValueHeaders.SpelledFiles.{imports_real, receiver_real, type_spec_real, type_specs_real}

module _ (mark : Lexemes → Lexemes → Span) where
  block_formed :
      {s : Span} {body : Stmts Span} {ts r : Lexemes} → SpellsBlock mark s body ts r → AreReal ts →
      FormedStmts body × AreReal r
  block_formed d a = stmt_formed mark (block_rule d) a

  tops_formed : {ds : List (Decl Span)} {ts r : Lexemes} → SpellsTops mark ds ts r → AreReal ts → BodiesAreFormed ds
  tops_formed no_tops_rule a = tt
  tops_formed (more_tops_rule (top_const_rule {s = s} {ss = ss} d) ds) a =
      tops_formed ds (stmt_formed mark (const_rule {s = s} d) a).1.1
  tops_formed (more_tops_rule (top_var_rule {s = s} {ss = ss} d) ds) a =
      tops_formed ds (stmt_formed mark (var_rule {s = s} d) a).1.1
  tops_formed (more_tops_rule (top_type_rule d) ds) a = tops_formed ds (type_spec_real mark d a.1).1
  tops_formed (more_tops_rule (top_type_group_rule d) ds) a = tops_formed ds (type_specs_real mark d a.1.1).1.1
  tops_formed (more_tops_rule (top_func_rule d b) ds) a =
      let f = block_formed b (sig_formed mark d a.1.1).1 in (f.0, tops_formed ds f.1.1)
  tops_formed (more_tops_rule (top_method_rule v d b) ds) a =
      let f = block_formed b (sig_formed mark d (receiver_real mark v a.1.1).1.1).1 in (f.0, tops_formed ds f.1.1)

  front_formed : {f : File Span} {ts r : Lexemes} → SpellsFront mark f ts r → AreReal ts → BodiesAreFormed f.decls
  front_formed (front_rule b is ds) a = tops_formed ds (imports_real mark is a.1.1.1)

pub read_bodies_are_formed : ReadBodiesAreFormed
read_bodies_are_formed t tree r = front_formed span_to r.spells (tokens_real t.text t.tokens t.comments r.scans)
