-- Where nothing is hit, a declaration stays.
use Rattle.std.proofs.Common.{◌≡◌, ◌∙◌, refl, sym, ap, ℕ, suc, Bool, false, List, [], ◌∷◌, map, Option, Some, None}
use Rattle.std.specs.Option.{option_map}
use Rattle.go_tree.specs.Tree.{NameAt, TypeExpr, named, pointer, slice_type, map_type, struct_type, Fields, no_fields, field, Expr, Exprs, no_exprs, Stmts, no_stmts, const_decl, var_decl, inner, return_, ValueSpecs, no_specs, spec}
use Rattle.go_tree.specs.File.{TypeSpec, Receiver, Decl, values, types, func, File}
use Rattle.pkg_graph.specs.Package.{Package}
use Rattle.run_rules.specs.Surroundings.{Use, Place, Seen, seen, seen_type, seen_stmt, alike, value_use, in_constant}
use Rattle.run_rules.specs.Places.{all_seen, stmts_seen}
use Rattle.run_rules.specs.Programs.{top_place, body_place}
use Rattle.run_rules.specs.Quiet.{AllQuiet}
use Rattle.run_rules.specs.Rewriting.{Changes, new_written, new_all, new_stmts}
use Rattle.run_rules.specs.Respanned.{name_with, type_with, fields_with, exprs_with, stmts_with}
use Rattle.run_rules.specs.Steps.{new_constants, new_variables, new_receiver_option, new_type_spec, new_decl}
use Rattle.run_rules.proofs.WalksAlike.{all-alike, stmts-alike}
use Rattle.constant_steps.proofs.PlaceMeanings.Same.{keep, file-same}
use Rattle.printed_constants.proofs.TypedParts.StandingUses.ImportUses.Stays.{change, sig_stays}

module _ {S : Type 0} where
  name_stays : (o : Option (NameAt S)) → option_map (name_with keep) o ≡ o
  name_stays None = refl
  name_stays (Some x) = refl

  mutual
    type_stays : (t : TypeExpr S) → type_with keep t ≡ t
    type_stays (named s p n) = λ v. named s (name_stays p v) n
    type_stays (pointer s t) = λ v. pointer s (type_stays t v)
    type_stays (slice_type s t) = λ v. slice_type s (type_stays t v)
    type_stays (map_type s k t) = λ v. map_type s (type_stays k v) (type_stays t v)
    type_stays (struct_type s fs) = λ v. struct_type s (fields_stay fs v)

    fields_stay : (fs : Fields S) → fields_with keep fs ≡ fs
    fields_stay no_fields = refl
    fields_stay (field s n t fs) = λ v. field s n (type_stays t v) (fields_stay fs v)

  -- parts of a file whose spans stay
  abbrev exprs_in : List (Decl S) → Exprs S
  exprs_in (values (return_ _ es) ∷ ds) = es
  exprs_in ds = no_exprs

  abbrev stmts_in : List (Decl S) → Stmts S
  stmts_in (values (inner _ b) ∷ ds) = b
  stmts_in ds = no_stmts

  exprs_stay : (file : File S) (z : S) (es : Exprs S) → exprs_with keep es ≡ es
  exprs_stay file z es = ap (λ (f : File S). exprs_in f.decls) (file-same (record file { decls = values (return_ z es) ∷ [] }))

  stmts_stay : (file : File S) (z : S) (b : Stmts S) → stmts_with keep b ≡ b
  stmts_stay file z b = ap (λ (f : File S). stmts_in f.decls) (file-same (record file { decls = values (inner z b) ∷ [] }))

module _ {S : Type 0} (new : Expr S) (same : S → S → Bool) (ps : List (Package S)) (k : ℕ) (pk : Package S) (file : File S) where
  abbrev c : Changes S
  c = change (λ x. false) new

  quiet : (xs : List (Seen S)) → AllQuiet c xs
  quiet [] = tt
  quiet (seen p u e ∷ xs) = (refl, quiet xs)
  quiet (seen_type p t ∷ xs) = (sym (type_stays t), quiet xs)
  quiet (seen_stmt p s ∷ xs) = (refl, quiet xs)

  all_stay : (z : S) (p : Place S) (us : List Use) (es : Exprs S) → new_all c p us es ≡ es
  all_stay z p us es = all-alike c p us es (quiet (all_seen p us es)) ∙ exprs_stay file z es

  body_stays : (z : S) (p : Place S) (b : Stmts S) → new_stmts c p b ≡ b
  body_stays z p b = stmts-alike c p b (quiet (stmts_seen p b)) ∙ stmts_stay file z b

  written_stays : (p : Place S) (t : Option (TypeExpr S)) → new_written c p t ≡ t
  written_stays p None = refl
  written_stays p (Some t) = refl

  constants_stay : (q : Place S) (i : ℕ) (ss : ValueSpecs S) → new_constants same ps c q i ss ≡ ss
  constants_stay q i no_specs = refl
  constants_stay q i (spec s ns t es ss) = λ v. spec s ns (written_stays (in_constant i q) t v) (all_stay s (in_constant i q) (alike (value_use q.env t) ns) es v) (constants_stay q (suc i) ss v)

  variables_stay : (q : Place S) (ss : ValueSpecs S) → new_variables same ps c q ss ≡ ss
  variables_stay q no_specs = refl
  variables_stay q (spec s ns t es ss) = λ v. spec s ns (written_stays q t v) (all_stay s q (alike (value_use q.env t) ns) es v) (variables_stay q ss v)

  types_stay : (q : Place S) (ts : List (TypeSpec S)) → map (new_type_spec same ps c q) ts ≡ ts
  types_stay q [] = refl
  types_stay q (t ∷ ts) = λ v. t ∷ types_stay q ts v

  receiver_stays : (p : Place S) (r : Option (Receiver S)) → new_receiver_option same ps c p r ≡ r
  receiver_stays p None = refl
  receiver_stays p (Some r) = refl

  pub decl_stays : (d : Decl S) → new_decl same ps c k pk file d ≡ d
  decl_stays (values (const_decl s a ss)) = λ v. values (const_decl s a (constants_stay (top_place ps k pk file) 0 ss v))
  decl_stays (values (var_decl s a ss)) = λ v. values (var_decl s a (variables_stay (top_place ps k pk file) ss v))
  decl_stays (values s) = refl
  decl_stays (types s a ts) = λ v. types s a (types_stay (top_place ps k pk file) ts v)
  decl_stays (func x) =
      λ v. func (record x { receiver = receiver_stays (top_place ps k pk file) x.receiver v; sig = sig_stays (λ y. false) new (top_place ps k pk file) x.sig v; body = body_stays x.span (body_place ps k pk file x) x.body v })
