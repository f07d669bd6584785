-- Each name of a type that the declarations of a file write, which reads from its text, is a node of the file.
use Rattle.std.proofs.Common.{◌≡◌, ℕ, zero, suc, Bool, true, false, List, [], ◌∷◌, map, Some, subst}
use Rattle.std.specs.Prelude.{slice_get}
use Rattle.std.proofs.lemmas.Option.{same_Some}
use Rattle.go_tree.specs.declared.spans.Span.{Span}
use Rattle.go_tree.specs.Tree.{TypeExpr}
use Rattle.go_tree.specs.File.{TypeSpec, Decl, File}
use Rattle.go_tree.specs.GoWords.Terminals.{lexemes}
use Rattle.go_read.specs.SpellsTypes.{Lexemes}
use Rattle.go_read.specs.SpellsSpans.{span_to}
use Rattle.go_read.specs.SpellsFiles.{SpellsTypeSpec, SpellsTypeSpecs, SpellsTop, type_spec_rule, alias_spec_rule, no_type_specs_rule, last_type_spec_rule, more_type_specs_rule, SpellsTops, SpellsFront, top_const_rule, top_var_rule, top_type_rule, top_type_group_rule, top_func_rule, top_method_rule, no_tops_rule, more_tops_rule, front_rule}
use Rattle.run_rules.specs.Inlining.{ReadsAs}
use Rattle.run_rules.specs.Respanned.{type_with, decl_with, file_with}
use Rattle.run_rules.specs.Sites.{named_in}
use Rattle.run_rules.specs.Texts.{FileText}
use Rattle.splice_laws.specs.Swaps.{Swap, TypeSpecIn, in_type_spec, TypeSpecsIn, in_this_spec, in_further_specs, DeclIn, in_constants, in_variables, in_types, in_function, in_func_signature, DeclsIn, in_this_decl, in_later_decls, FileIn, in_decls}
use Rattle.splice_laws.proofs.Apart.{Differ}
use Rattle.splice_laws.proofs.Grafts.{Within, here, drop}
use Rattle.splice_laws.proofs.Pasts.{sig_past, type_spec_past, receiver_past, imports_past, top_past}
use Rattle.splice_laws.proofs.Rises.{spans_differ, tokens_rise}
use Rattle.put_nodes.specs.TypeNodes.Names.{Written, as_types, names_of_sig, names_of_stmts, names_of_types, type_names}
use Rattle.put_nodes.specs.TypeNodes.Swapped.{TypeSwapped, AllTypesSwapped}
use Rattle.put_nodes.proofs.TypeNodes.BodyWalk.{block-names, decl-names}
use Rattle.put_nodes.proofs.TypeNodes.Listed.{moved, decl-listed}
use Rattle.put_nodes.proofs.TypeNodes.TypeWalk.{type-nodes, sig-nodes, PlaceGood, Good, both, type-good, sig-good}

-- ---- the walk

module _ {S : Type 0} (mark : Lexemes → Lexemes → S) (whole : Lexemes) (differ : Differ mark whole) (W : Swap S → Type 0) where
  type-spec-names : {x : TypeSpec S} {ts r : Lexemes} → SpellsTypeSpec mark x ts r → Within ts whole → ((w : Swap S) (y : TypeSpec S) → TypeSpecIn w x y → W w) → Good W (as_types (named_in x.of))
  type-spec-names (type_spec_rule {t = t} d) a k = type-good W t (type-nodes mark whole differ W d (drop a) (λ w u x. k w _ (in_type_spec x)))
  type-spec-names (alias_spec_rule {t = t} d) a k = type-good W t (type-nodes mark whole differ W d (drop (drop a)) (λ w u x. k w _ (in_type_spec x)))

  type-specs-names : {xs : List (TypeSpec S)} {ts r : Lexemes} → SpellsTypeSpecs mark xs ts r → Within ts whole → ((w : Swap S) (ys : List (TypeSpec S)) → TypeSpecsIn w xs ys → W w) → Good W (names_of_types xs)
  type-specs-names no_type_specs_rule a k = tt
  type-specs-names (last_type_spec_rule {x = x} d) a k = both W (as_types (named_in x.of)) [] (type-spec-names d a (λ w y x. k w _ (in_this_spec x))) tt
  type-specs-names (more_type_specs_rule {x = x} {xs = xs} d1 d2) a k =
      both W (as_types (named_in x.of)) (names_of_types xs) (type-spec-names d1 a (λ w y x. k w _ (in_this_spec x))) (type-specs-names d2 (drop (type_spec_past mark whole d1 a)) (λ w ys x. k w _ (in_further_specs x)))

  top-names : {d : Decl S} {ts r : Lexemes} → SpellsTop mark d ts r → Within ts whole → ((w : Swap S) (c : Decl S) → DeclIn w d c → W w) → Good W (type_names d)
  top-names (top_const_rule d) a k = decl-names mark whole differ W d (drop a) (λ w us x. k w _ (in_constants x))
  top-names (top_var_rule d) a k = decl-names mark whole differ W d (drop a) (λ w us x. k w _ (in_variables x))
  top-names (top_type_rule {x = x} d) a k = both W (as_types (named_in x.of)) [] (type-spec-names d (drop a) (λ w y x. k w _ (in_types (in_this_spec x)))) tt
  top-names (top_type_group_rule d) a k = type-specs-names d (drop (drop a)) (λ w ys x. k w _ (in_types x))
  top-names (top_func_rule {g = g} {body = body} d1 d2) a k =
      both W (names_of_sig g) (names_of_stmts body) (sig-good W g (sig-nodes mark whole differ W d1 (drop (drop a)) (λ w h x. k w _ (in_func_signature x))))
      (block-names mark whole differ W d2 (sig_past mark whole d1 (drop (drop a))) (λ w ys x. k w _ (in_function x)))
  top-names (top_method_rule {g = g} {body = body} d1 d2 d3) a k =
      let b = drop (drop (receiver_past mark whole d1 (drop (drop a)))) in
      both W (names_of_sig g) (names_of_stmts body) (sig-good W g (sig-nodes mark whole differ W d2 b (λ w h x. k w _ (in_func_signature x)))) (block-names mark whole differ W d3 (sig_past mark whole d2 b) (λ w ys x. k w _ (in_function x)))

  tops-names : {ds : List (Decl S)} {ts r : Lexemes} (i : ℕ) (d : Decl S) → SpellsTops mark ds ts r → Within ts whole → slice_get ds i ≡ Some d → ((w : Swap S) (cs : List (Decl S)) → DeclsIn w ds cs → W w) → Good W (type_names d)
  tops-names i d no_tops_rule a e k = absurd cc
  tops-names zero d (more_tops_rule {d = x} d1 d2) a e k = subst (λ (d : Decl S). Good W (type_names d)) (same_Some x d e) (top-names d1 a (λ w c y. k w _ (in_this_decl y)))
  tops-names (suc i) d (more_tops_rule d1 d2) a e k = tops-names i d d2 (drop (top_past mark whole d1 a)) e (λ w cs y. k w _ (in_later_decls y))

  front-names : {f : File S} {ts r : Lexemes} (i : ℕ) (d : Decl S) → SpellsFront mark f ts r → Within ts whole → slice_get f.decls i ≡ Some d → ((w : Swap S) (g : File S) → FileIn w f g → W w) → Good W (type_names d)
  front-names i d (front_rule d1 d2 d3) a e k = tops-names i d d3 (imports_past mark whole d2 (drop (drop (drop a)))) e (λ w cs y. k w _ (in_decls y))

module _ {A B : Type 0} (to : A → B) where
  place-swapped : (W : Swap B → Type 0) (b : Bool) (t : TypeExpr A) → PlaceGood W b (type_with to t) → TypeSwapped to W b t
  place-swapped W false t h = h
  place-swapped W true t h = h

  swapped-good : (W : Swap B → Type 0) (xs : Written A) → Good W (map (moved to) xs) → AllTypesSwapped to W xs
  swapped-good W [] h = tt
  swapped-good W (x ∷ xs) h = (place-swapped W x.0 x.1 h.0, swapped-good W xs h.1)

  decl-at : (ds : List (Decl A)) (i : ℕ) (d : Decl A) → slice_get ds i ≡ Some d → slice_get (map (decl_with to) ds) i ≡ Some (decl_with to d)
  decl-at [] i d e = absurd cc
  decl-at (x ∷ ds) zero d e = λ j. Some (decl_with to (same_Some x d e j))
  decl-at (x ∷ ds) (suc i) d e = decl-at ds i d e

module _ {A : Type 0} (to : A → Span) (text : FileText) (tree : File A) (reads : ReadsAs text (file_with to tree)) where
  abbrev pub InFile : Swap Span → Type 0
  InFile w = (g : File Span) × FileIn w (file_with to tree) g

  pub types-swapped : (i : ℕ) (d : Decl A) → slice_get tree.decls i ≡ Some d → AllTypesSwapped to InFile (type_names d)
  types-swapped i d e =
      swapped-good to InFile (type_names d)
      (subst (Good InFile) (decl-listed to d)
      (front-names span_to (lexemes text.tokens) (spans_differ (lexemes text.tokens) (tokens_rise text.text text.tokens text.comments reads.scans)) InFile i (decl_with to d) reads.spells here (decl-at to tree.decls i d e) (λ w g x. (g, x))))
