-- Tokens that spell a file, with those of one node replaced, spell the file with that node replaced.
use Rattle.std.proofs.Common.{◌≡◌, true, List, ◌∷◌, map, None, refl}
use Rattle.go_tree.specs.File.{TypeSpec, Decl, File}
use Rattle.go_tree.specs.FileBare.{bare_type_spec, bare_decl, bare_file}
use Rattle.go_tree.specs.GoWords.Terminals.{lex, ident, assign, semicolon, paren, end_paren, key_const, key_func, key_package, key_type, key_var}
use Rattle.go_read.specs.SpellsTypes.{Lexemes}
use Rattle.go_read.specs.SpellsFiles.{SpellsTypeSpec, SpellsTypeSpecs, SpellsTop, SpellsTops, SpellsFront, type_spec_rule, alias_spec_rule, no_type_specs_rule, last_type_spec_rule, more_type_specs_rule, top_const_rule, top_var_rule, top_type_rule, top_type_group_rule, top_func_rule, top_method_rule, no_tops_rule, more_tops_rule, front_rule}
use Rattle.go_read.specs.Bareness.{nowhere}
use Rattle.go_read.proofs.SpansAside as aside
use Rattle.splice_laws.specs.Swaps.{Swap, TypeSpecIn, in_type_spec, TypeSpecsIn, in_this_spec, in_further_specs, DeclIn, in_constants, in_variables, in_types, in_function, in_func_signature, DeclsIn, in_this_decl, in_later_decls, FileIn, in_decls}
use Rattle.splice_laws.specs.Ends.{ends_node}
use Rattle.splice_laws.proofs.Grafts.{Within, drop, step, joined}
use Rattle.splice_laws.proofs.Frames.{sig_frame, receiver_frame, type_spec_frame, top_frame, imports_frame}
use Rattle.splice_laws.proofs.PutsAt.{PutIn, block_fine}
use Rattle.splice_laws.proofs.Apart.{Differ}
use Rattle.splice_laws.proofs.Pasts.{imports_past, receiver_past, sig_past, top_past, type_spec_past}
use Rattle.splice_laws.proofs.PutsTypes.{type_put, sig_put}
use Rattle.splice_laws.proofs.Puts.{decl_put, block_put}

module _ {S : Type 0} (mark : Lexemes → Lexemes → S) (whole : Lexemes) (differ : Differ mark whole) (w : Swap S) where
  abbrev Put : (Lexemes → Lexemes → Type 0) → Lexemes → Lexemes → Type 0
  Put A ts r = PutIn mark w A ts r

  pub type_spec_put : {x y : TypeSpec S} {ts r : Lexemes} → SpellsTypeSpec mark x ts r → Within ts whole → TypeSpecIn w x y → ends_node r ≡ true → Put (SpellsTypeSpec nowhere (bare_type_spec y)) ts r
  type_spec_put (type_spec_rule {s = s} {n = n} d1) a (in_type_spec p) k = let x = type_put mark whole differ w d1 (drop a) p k in record { node = x.node; rest = x.rest; old = x.old; marked = x.marked; follows = x.follows; ends = let z = x.ends in ((lex s (ident n) ∷ z.0), (step z.1)); new = λ n2 f2. let z = x.new n2 f2 in ((lex s (ident n) ∷ z.0), (step z.1), type_spec_rule z.2) }
  type_spec_put (alias_spec_rule {s = s} {c = c} {n = n} d1) a (in_type_spec p) k = let x = type_put mark whole differ w d1 (drop (drop a)) p k in record { node = x.node; rest = x.rest; old = x.old; marked = x.marked; follows = x.follows; ends = let z = x.ends in ((lex s (ident n) ∷ lex c (assign None) ∷ z.0), (step (step z.1))); new = λ n2 f2. let z = x.new n2 f2 in ((lex s (ident n) ∷ lex c (assign None) ∷ z.0), (step (step z.1)), alias_spec_rule z.2) }

  pub type_specs_put : {xs ys : List (TypeSpec S)} {ts r : Lexemes} → SpellsTypeSpecs mark xs ts r → Within ts whole → TypeSpecsIn w xs ys → Put (SpellsTypeSpecs nowhere (map bare_type_spec ys)) ts r
  type_specs_put no_type_specs_rule a p = elim p [ ]
  type_specs_put (last_type_spec_rule d1) a (in_this_spec p) = let x = type_spec_put d1 a p refl in record { node = x.node; rest = x.rest; old = x.old; marked = x.marked; follows = x.follows; ends = let z = x.ends in (z.0, z.1); new = λ n2 f2. let z = x.new n2 f2 in (z.0, z.1, last_type_spec_rule z.2) }
  type_specs_put (last_type_spec_rule d1) a (in_further_specs p) = elim p [ ]
  type_specs_put (more_type_specs_rule d1 d2) a (in_this_spec p) = let x = type_spec_put d1 a p refl in record { node = x.node; rest = x.rest; old = x.old; marked = x.marked; follows = x.follows; ends = let z = x.ends in (z.0, z.1); new = λ n2 f2. let z = x.new n2 f2 in (z.0, z.1, more_type_specs_rule z.2 (aside.type_specs_bare mark d2)) }
  type_specs_put (more_type_specs_rule {c = c} d1 d2) a (in_further_specs p) = let x = type_specs_put d2 (drop (type_spec_past mark whole d1 a)) p in record { node = x.node; rest = x.rest; old = x.old; marked = x.marked; follows = x.follows; ends = let z = x.ends in let y0 = type_spec_frame (aside.type_spec_bare mark d1) (lex c semicolon ∷ z.0) in (y0.0, (joined y0.1 (step z.1))); new = λ n2 f2. let z = x.new n2 f2 in let y0 = type_spec_frame (aside.type_spec_bare mark d1) (lex c semicolon ∷ z.0) in (y0.0, (joined y0.1 (step z.1)), more_type_specs_rule y0.2 z.2) }

  pub top_put : {d c : Decl S} {ts r : Lexemes} → SpellsTop mark d ts r → Within ts whole → DeclIn w d c → ends_node r ≡ true → Put (SpellsTop nowhere (bare_decl c)) ts r
  top_put (top_const_rule {s = s} d1) a (in_constants p) k = let x = decl_put mark whole differ w d1 (drop a) p k in record { node = x.node; rest = x.rest; old = x.old; marked = x.marked; follows = x.follows; ends = let z = x.ends in ((lex s key_const ∷ z.0), (step z.1)); new = λ n2 f2. let z = x.new n2 f2 in ((lex s key_const ∷ z.0), (step z.1), top_const_rule z.2) }
  top_put (top_var_rule {s = s} d1) a (in_variables p) k = let x = decl_put mark whole differ w d1 (drop a) p k in record { node = x.node; rest = x.rest; old = x.old; marked = x.marked; follows = x.follows; ends = let z = x.ends in ((lex s key_var ∷ z.0), (step z.1)); new = λ n2 f2. let z = x.new n2 f2 in ((lex s key_var ∷ z.0), (step z.1), top_var_rule z.2) }
  top_put (top_type_rule {s = s} d1) a (in_types (in_this_spec p)) k = let x = type_spec_put d1 (drop a) p k in record { node = x.node; rest = x.rest; old = x.old; marked = x.marked; follows = x.follows; ends = let z = x.ends in ((lex s key_type ∷ z.0), (step z.1)); new = λ n2 f2. let z = x.new n2 f2 in ((lex s key_type ∷ z.0), (step z.1), top_type_rule z.2) }
  top_put (top_type_rule d1) a (in_types (in_further_specs p)) k = elim p [ ]
  top_put (top_type_group_rule {s = s} {b = b} d1) a (in_types p) k = let x = type_specs_put d1 (drop (drop a)) p in record { node = x.node; rest = x.rest; old = x.old; marked = x.marked; follows = x.follows; ends = let z = x.ends in ((lex s key_type ∷ lex b paren ∷ z.0), (step (step z.1))); new = λ n2 f2. let z = x.new n2 f2 in ((lex s key_type ∷ lex b paren ∷ z.0), (step (step z.1)), top_type_group_rule z.2) }
  top_put (top_func_rule {s = s} {c = c} {n = n} d1 d2) a (in_function p) k = let x = block_put mark whole differ w d2 (sig_past mark whole d1 (drop (drop a))) p in record { node = x.node; rest = x.rest; old = x.old; marked = x.marked; follows = x.follows; ends = let z = x.ends in let y0 = sig_frame (aside.sig_bare mark d1) z.0 in ((lex s key_func ∷ lex c (ident n) ∷ y0.0), (step (step (joined y0.1 z.1)))); new = λ n2 f2. let z = x.new n2 f2 in let y0 = sig_frame (aside.sig_bare mark d1) z.0 in ((lex s key_func ∷ lex c (ident n) ∷ y0.0), (step (step (joined y0.1 z.1))), top_func_rule y0.2 z.2.1) }
  top_put (top_func_rule {s = s} {c = c} {n = n} d1 d2) a (in_func_signature p) k = let x = sig_put mark whole differ w d1 (drop (drop a)) p (block_fine mark w d2) in record { node = x.node; rest = x.rest; old = x.old; marked = x.marked; follows = x.follows; ends = let z = x.ends in ((lex s key_func ∷ lex c (ident n) ∷ z.0), (step (step z.1))); new = λ n2 f2. let z = x.new n2 f2 in ((lex s key_func ∷ lex c (ident n) ∷ z.0), (step (step z.1)), top_func_rule z.2 (aside.block_bare mark d2)) }
  top_put (top_method_rule {s = s} {b = b} {e = e} {c = c} {n = n} d1 d2 d3) a (in_func_signature p) k = let x = sig_put mark whole differ w d2 (drop (drop (receiver_past mark whole d1 (drop (drop a))))) p (block_fine mark w d3) in record { node = x.node; rest = x.rest; old = x.old; marked = x.marked; follows = x.follows; ends = let z = x.ends in let y0 = receiver_frame (aside.receiver_bare mark d1) (lex e end_paren ∷ lex c (ident n) ∷ z.0) in ((lex s key_func ∷ lex b paren ∷ y0.0), (step (step (joined y0.1 (step (step z.1)))))); new = λ n2 f2. let z = x.new n2 f2 in let y0 = receiver_frame (aside.receiver_bare mark d1) (lex e end_paren ∷ lex c (ident n) ∷ z.0) in ((lex s key_func ∷ lex b paren ∷ y0.0), (step (step (joined y0.1 (step (step z.1))))), top_method_rule y0.2 z.2 (aside.block_bare mark d3)) }
  top_put (top_method_rule {s = s} {b = b} {e = e} {c = c} {n = n} d1 d2 d3) a (in_function p) k = let x = block_put mark whole differ w d3 (sig_past mark whole d2 (drop (drop (receiver_past mark whole d1 (drop (drop a)))))) p in record { node = x.node; rest = x.rest; old = x.old; marked = x.marked; follows = x.follows; ends = let z = x.ends in let y1 = sig_frame (aside.sig_bare mark d2) z.0 in let y0 = receiver_frame (aside.receiver_bare mark d1) (lex e end_paren ∷ lex c (ident n) ∷ y1.0) in ((lex s key_func ∷ lex b paren ∷ y0.0), (step (step (joined y0.1 (step (step (joined y1.1 z.1))))))); new = λ n2 f2. let z = x.new n2 f2 in let y1 = sig_frame (aside.sig_bare mark d2) z.0 in let y0 = receiver_frame (aside.receiver_bare mark d1) (lex e end_paren ∷ lex c (ident n) ∷ y1.0) in ((lex s key_func ∷ lex b paren ∷ y0.0), (step (step (joined y0.1 (step (step (joined y1.1 z.1)))))), top_method_rule y0.2 y1.2 z.2.1) }

  pub tops_put : {ds cs : List (Decl S)} {ts r : Lexemes} → SpellsTops mark ds ts r → Within ts whole → DeclsIn w ds cs → Put (SpellsTops nowhere (map bare_decl cs)) ts r
  tops_put no_tops_rule a p = elim p [ ]
  tops_put (more_tops_rule d1 d2) a (in_this_decl p) = let x = top_put d1 a p refl in record { node = x.node; rest = x.rest; old = x.old; marked = x.marked; follows = x.follows; ends = let z = x.ends in (z.0, z.1); new = λ n2 f2. let z = x.new n2 f2 in (z.0, z.1, more_tops_rule z.2 (aside.tops_bare mark d2)) }
  tops_put (more_tops_rule {c = c} d1 d2) a (in_later_decls p) = let x = tops_put d2 (drop (top_past mark whole d1 a)) p in record { node = x.node; rest = x.rest; old = x.old; marked = x.marked; follows = x.follows; ends = let z = x.ends in let y0 = top_frame (aside.top_bare mark d1) (lex c semicolon ∷ z.0) refl in (y0.0, (joined y0.1 (step z.1))); new = λ n2 f2. let z = x.new n2 f2 in let y0 = top_frame (aside.top_bare mark d1) (lex c semicolon ∷ z.0) refl in (y0.0, (joined y0.1 (step z.1)), more_tops_rule y0.2 z.2) }

  pub file_put : {f g : File S} {ts r : Lexemes} → SpellsFront mark f ts r → Within ts whole → FileIn w f g → Put (SpellsFront nowhere (bare_file g)) ts r
  file_put (front_rule {s = s} {c = c} {d = d} {n = n} d1 d2 d3) a (in_decls p) = let x = tops_put d3 (imports_past mark whole d2 (drop (drop (drop a)))) p in record { node = x.node; rest = x.rest; old = x.old; marked = x.marked; follows = x.follows; ends = let z = x.ends in let y0 = imports_frame (aside.imports_bare mark d2) z.0 in ((lex s key_package ∷ lex c (ident n) ∷ lex d semicolon ∷ y0.0), (step (step (step (joined y0.1 z.1))))); new = λ n2 f2. let z = x.new n2 f2 in let y0 = imports_frame (aside.imports_bare mark d2) z.0 in ((lex s key_package ∷ lex c (ident n) ∷ lex d semicolon ∷ y0.0), (step (step (step (joined y0.1 z.1)))), front_rule d1 y0.2 z.2) }
