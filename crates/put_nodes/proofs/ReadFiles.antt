-- The declarations of a file that reads from its text are well formed, and what is swapped in one is in the file.
use Rattle.std.proofs.Common.{◌≡◌, ℕ, zero, suc, List, [], ◌∷◌, map, Some, sym, subst}
use Rattle.std.specs.Prelude.{slice_get}
use Rattle.std.proofs.lemmas.Option.{same_Some}
use Rattle.go_tree.specs.declared.spans.Span.{Span}
use Rattle.go_tree.specs.File.{TypeSpec, Decl, File}
use Rattle.go_tree.specs.GoWords.Terminals.{lex}
use Rattle.go_read.specs.SpellsTypes.{Lexemes}
use Rattle.go_read.specs.Spells.{const_rule, var_rule, block_rule}
use Rattle.go_read.specs.SpellsSpans.{span_to}
use Rattle.go_read.specs.SpellsFiles.{SpellsTypeSpec, SpellsTypeSpecs, SpellsTop, type_spec_rule, alias_spec_rule, no_type_specs_rule, last_type_spec_rule, more_type_specs_rule, SpellsTops, SpellsFront, top_const_rule, top_var_rule, top_type_rule, top_type_group_rule, top_func_rule, top_method_rule, no_tops_rule, more_tops_rule, front_rule}
use Rattle.go_layout.specs.LayoutLaws.Formed.{FormedType}
use Rattle.go_layout.specs.LayoutLaws.Real.{AreReal}
use Rattle.go_layout.proofs.LayoutLaws.FormedTrees.{stmt_formed}
use Rattle.go_layout.proofs.LayoutLaws.FormedTypes.{type_formed}
use Rattle.go_layout.proofs.LayoutLaws.RealTokens.{tokens_real}
use Rattle.splice_laws.specs.Swaps.{Swap, DeclIn, DeclsIn, in_this_decl, in_later_decls, FileIn, in_decls}
use Rattle.splice_laws.proofs.Grafts.{Within, here, later, drop}
use Rattle.splice_laws.proofs.Pasts.{sig_past, type_spec_past, receiver_past, imports_past, top_past}
use Rattle.pkg_graph.specs.Package.{Package}
use Rattle.run_rules.specs.Inlining.{ReadsAs}
use Rattle.run_rules.specs.Programs.{decl_seen}
use Rattle.run_rules.specs.Respanned.{name_with, import_decl_with, decl_with, file_with}
use Rattle.run_rules.specs.Texts.{FileText}
use Rattle.put_nodes.specs.Swapped.{FormedTypeSpecs, FormedDecl, AllSwapped}
use Rattle.put_nodes.proofs.Walk.{decl_good}

within_real : {us ts : Lexemes} → Within us ts → AreReal ts → AreReal us
within_real here g = g
within_real (later {t = lex s x} w) g = within_real w g.1

module _ {S : Type 0} (mark : Lexemes → Lexemes → S) where
  abbrev pub AllFormed : List (Decl S) → Type 0
  AllFormed [] = Unit {0}
  AllFormed (d ∷ ds) = FormedDecl d × AllFormed ds

  type_spec_formed : {x : TypeSpec S} {ts r : Lexemes} → SpellsTypeSpec mark x ts r → AreReal ts → FormedType x.of
  type_spec_formed (type_spec_rule d1) g = (type_formed mark d1 g.1).0
  type_spec_formed (alias_spec_rule d1) g = (type_formed mark d1 g.1.1).0

  type_specs_formed : {xs : List (TypeSpec S)} {ts r : Lexemes} → SpellsTypeSpecs mark xs ts r → AreReal ts → FormedTypeSpecs xs
  type_specs_formed no_type_specs_rule g = tt
  type_specs_formed (last_type_spec_rule d1) g = (type_spec_formed d1 g, tt)
  type_specs_formed (more_type_specs_rule {ts = ts} d1 d2) g = (type_spec_formed d1 g, type_specs_formed d2 (within_real (drop (type_spec_past mark ts d1 here)) g))

  top_formed : {d : Decl S} {ts r : Lexemes} → SpellsTop mark d ts r → AreReal ts → FormedDecl d
  top_formed (top_const_rule {s = s} d1) g = (stmt_formed mark (const_rule {s = s} d1) g).0
  top_formed (top_var_rule {s = s} d1) g = (stmt_formed mark (var_rule {s = s} d1) g).0
  top_formed (top_type_rule d1) g = (type_spec_formed d1 g.1, tt)
  top_formed (top_type_group_rule d1) g = type_specs_formed d1 g.1.1
  top_formed (top_func_rule {ts = ts} d1 d2) g = (stmt_formed mark (block_rule d2) (within_real (sig_past mark ts d1 here) g.1.1)).0
  top_formed (top_method_rule {ts = ts} d1 d2 d3) g =
      (stmt_formed mark (block_rule d3) (within_real (sig_past mark ts d2 (drop (drop (receiver_past mark ts d1 here)))) g.1.1)).0

  tops_formed : {ds : List (Decl S)} {ts r : Lexemes} → SpellsTops mark ds ts r → AreReal ts → AllFormed ds
  tops_formed no_tops_rule g = tt
  tops_formed (more_tops_rule {ts = ts} d1 d2) g = (top_formed d1 g, tops_formed d2 (within_real (drop (top_past mark ts d1 here)) g))

  front_formed : {f : File S} {ts r : Lexemes} → SpellsFront mark f ts r → AreReal ts → AllFormed f.decls
  front_formed (front_rule {ts = ts} d1 d2 d3) g = tops_formed d3 (within_real (imports_past mark ts d2 here) g.1.1.1)

module _ {A B : Type 0} (to : A → B) (mark : Lexemes → Lexemes → B) where
  nth_formed : (ds : List (Decl A)) (i : ℕ) (d : Decl A) → AllFormed mark (map (decl_with to) ds) → slice_get ds i ≡ Some d → FormedDecl (decl_with to d)
  nth_formed [] i d h e = absurd cc
  nth_formed (x ∷ ds) zero d h e = subst (λ y. FormedDecl (decl_with to y)) (same_Some x d e) h.0
  nth_formed (x ∷ ds) (suc i) d h e = nth_formed ds i d h.1 e

  -- a declaration swapped in a list
  one_of_decls : (ds : List (Decl A)) (i : ℕ) (d : Decl A) → slice_get ds i ≡ Some d → (w : Swap B) (c : Decl B) → DeclIn w (decl_with to d) c → (cs : List (Decl B)) × DeclsIn w (map (decl_with to) ds) cs
  one_of_decls [] i d e w c h = absurd cc
  one_of_decls (x ∷ ds) zero d e w c h = (c ∷ map (decl_with to) ds, in_this_decl (subst (λ y. DeclIn w (decl_with to y) c) (sym (same_Some x d e)) h))
  one_of_decls (x ∷ ds) (suc i) d e w c h = let r = one_of_decls ds i d e w c h in (decl_with to x ∷ r.0, in_later_decls r.1)

module _ {A : Type 0} (to : A → Span) (text : FileText) (tree : File A) (reads : ReadsAs text (file_with to tree)) where
  -- each declaration of a file that reads is well formed
  pub decl_formed : (i : ℕ) (d : Decl A) → slice_get tree.decls i ≡ Some d → FormedDecl (decl_with to d)
  decl_formed i d e =
      nth_formed to span_to tree.decls i d (front_formed span_to reads.spells (tokens_real text.text text.tokens text.comments reads.scans)) e

  abbrev pub SwappedFile : Swap Span → Type 0
  SwappedFile w = (g : File Span) × FileIn w (file_with to tree) g

  -- the parts that the walk lists are nodes of the file
  pub parts_swapped : (ps : List (Package A)) (k : ℕ) (p : Package A) (file : File A) (i : ℕ) (d : Decl A) → slice_get tree.decls i ≡ Some d → AllSwapped to SwappedFile (decl_seen ps k p file d)
  parts_swapped ps k p file i d e =
      decl_good to SwappedFile ps k p file d (decl_formed i d e)
      (λ w c h. let r = one_of_decls to span_to tree.decls i d e w c h in
      (record { package_name = name_with to tree.package_name; imports = map (import_decl_with to) tree.imports; decls = r.0 }, in_decls r.1))
