-- Parts with other spans use the same imports.
use Rattle.std.proofs.Common.{◌≡◌, ◌∙◌, refl, ap, ℕ, ◌+◌, List, [], ◌∷◌, ◌++◌, map, Some, None, arith}
use Rattle.go_tree.specs.declared.spans.Span.{Span}
use Rattle.go_tree.specs.Tree.{named, pointer, slice_type, map_type, struct_type, ident, int_lit, rune_lit, str_lit, composite, selector, index, slice, call, func_lit, type_operand, unary, binary, star}
use Rattle.go_tree.specs.File.{Decl}
use Rattle.scope_tables.specs.Table.{Table}
use Rattle.run_rules.specs.Respanned.{type_with, expr_with, decl_with, decls_with}
use Rattle.run_rules.specs.Sites.{Part, an_expr, a_type_part}
use Rattle.member_uses.specs.PossibleUses.Candidates.{Candidate}
use Rattle.member_uses.specs.PossibleUses.Parts.{parts_of}
use Rattle.member_uses.proofs.Stays.{candidate_with, after_decl-stays}
use Rattle.repeated_parts.specs.ImportsUnused.Uses.{one_if, is_import, named_import, uses_among, all_parts}
use Rattle.printed_constants.proofs.TypedParts.StandingUses.ImportUses.Sums.{sum}

module _ {S : Type 0} (to : S → Span) (t : Table) (k : ℕ) where
  abbrev part_with : (S → Span) → Part S → Part Span
  part_with to (an_expr e) = an_expr (expr_with to e)
  part_with to (a_type_part x) = a_type_part (type_with to x)

  part_stays : (x : Part S) → named_import t (λ s. s) (part_with to x) ≡ named_import t to x
  part_stays (an_expr (ident s n)) = refl
  part_stays (an_expr (selector s (ident y m) n)) = refl
  part_stays (an_expr (selector s (int_lit y m) n)) = refl
  part_stays (an_expr (selector s (rune_lit y m) n)) = refl
  part_stays (an_expr (selector s (str_lit y m) n)) = refl
  part_stays (an_expr (selector s (composite y z es) n)) = refl
  part_stays (an_expr (selector s (selector y b m) n)) = refl
  part_stays (an_expr (selector s (index y b i) n)) = refl
  part_stays (an_expr (selector s (slice y b i j) n)) = refl
  part_stays (an_expr (selector s (call y b es r) n)) = refl
  part_stays (an_expr (selector s (func_lit y g z b) n)) = refl
  part_stays (an_expr (selector s (type_operand y z) n)) = refl
  part_stays (an_expr (selector s (unary y o b) n)) = refl
  part_stays (an_expr (selector s (binary y o b d) n)) = refl
  part_stays (an_expr (selector s (star y b) n)) = refl
  part_stays (an_expr (int_lit s n)) = refl
  part_stays (an_expr (rune_lit s n)) = refl
  part_stays (an_expr (str_lit s n)) = refl
  part_stays (an_expr (composite s y es)) = refl
  part_stays (an_expr (index s b i)) = refl
  part_stays (an_expr (slice s b i j)) = refl
  part_stays (an_expr (call s f xs r)) = refl
  part_stays (an_expr (func_lit s g z b)) = refl
  part_stays (an_expr (type_operand s y)) = refl
  part_stays (an_expr (unary s o e)) = refl
  part_stays (an_expr (binary s o b d)) = refl
  part_stays (an_expr (star s e)) = refl
  part_stays (a_type_part (named s None n)) = refl
  part_stays (a_type_part (named s (Some q) n)) = refl
  part_stays (a_type_part (pointer s y)) = refl
  part_stays (a_type_part (slice_type s y)) = refl
  part_stays (a_type_part (map_type s x y)) = refl
  part_stays (a_type_part (struct_type s fs)) = refl

  uses_stay : (cs : List (Candidate S)) → uses_among t (λ s. s) k (map (candidate_with to) cs) ≡ uses_among t to k cs
  uses_stay [] = refl
  uses_stay (c ∷ cs) = λ v. one_if (is_import k (part_stays c.part v)) + uses_stay cs v

  parts_append : (xs ys : List (Candidate Span)) → uses_among t (λ s. s) k (xs ++ ys) ≡ uses_among t (λ s. s) k xs + uses_among t (λ s. s) k ys
  parts_append [] ys = omega arith
  parts_append (x ∷ xs) ys = omega (arith, parts_append xs ys)

  one_stays : (d : Decl S) → uses_among t (λ s. s) k (parts_of (decl_with to d)) ≡ uses_among t to k (parts_of d)
  one_stays d = ap (uses_among t (λ s. s) k) (after_decl-stays to d []) ∙ uses_stay (parts_of d)

  pub decls_counted : (ds : List (Decl S)) → uses_among t (λ s. s) k (all_parts (decls_with to ds)) ≡ sum (λ d. uses_among t to k (parts_of d)) ds
  decls_counted [] = refl
  decls_counted (d ∷ ds) = parts_append (parts_of (decl_with to d)) (all_parts (decls_with to ds)) ∙ (λ v. one_stays d v + decls_counted ds v)
