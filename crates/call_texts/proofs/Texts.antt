-- The types and the body that a literal takes are those of the function's declaration.
use Rattle.std.proofs.Common.{◌≡◌, ◌∙◌, ℕ, suc, length, arith, Bool, true, false, List, [], ◌∷◌, ◌++◌, map, Option, None, refl, sym, ap}
use Rattle.std.specs.Prelude.{if◌then◌else◌}
use Rattle.go_tree.specs.Tree.{Param, Expr}
use Rattle.go_tree.specs.File.{Receiver}
use Rattle.go_tree.specs.GoTypes.Types.{GoType}
use Rattle.param_choice.specs.Chosen.{has}
use Rattle.pkg_graph.specs.Package.{Package}
use Rattle.run_rules.specs.Calls.{Given, Call, all_params, args, body_seen, given_params, givens, spread_call}
use Rattle.run_rules.specs.FormTrees.{LiteralForm, top}
use Rattle.run_rules.specs.Places.{params_seen}
use Rattle.run_rules.specs.Programs.{func_seen, numbered_from, param_types, receiver_seen, with_receiver}
use Rattle.run_rules.specs.Reduced.{converts_somewhere, param_text, text_taken, types_text}
use Rattle.run_rules.specs.Sites.{MarkRef}
use Rattle.run_rules.specs.Surroundings.{Seen, seen_type}
use Rattle.call_texts.specs.Laws.{AllStayBound, LiteralsTakeAll}

module _ {S : Type 0} (same : S → S → Bool) (commented : ℕ → ℕ → S → Bool) (ps : List (Package S)) (marks : List MarkRef) (c : Call S) (kept : List Bool) (b : AllStayBound same ps c kept) where
  -- the types of parameters or results
  types_seen : (xs : List (Param S)) → types_text same commented ps marks c xs ≡ params_seen (top ps c) xs
  types_seen [] = refl
  types_seen (x ∷ xs) = ap (λ (ys : List (Seen S)). seen_type (top ps c) x.of ∷ ys) (types_seen xs)

  -- those of parameters with their arguments, as none is replaced
  param_types_seen : (i : ℕ) (xs : List (Param S)) (ts : List GoType) (es : List (Expr S)) → length ts ≡ length xs → length es ≡ length xs
      → param_text same commented ps marks c LiteralForm kept (numbered_from i (givens xs ts es)) ≡ params_seen (top ps c) xs
  param_types_seen i [] ts es h k = refl
  param_types_seen i (x ∷ xs) [] es h k = absurd (omega (arith, h))
  param_types_seen i (x ∷ xs) (t ∷ ts) [] h k = absurd (omega (arith, k))
  param_types_seen i (x ∷ xs) (t ∷ ts) (e ∷ es) h k =
      let g : Given S = record { param = x; type = t; arg = e } in
      let rest : List (Seen S) = param_text same commented ps marks c LiteralForm kept (numbered_from (suc i) (givens xs ts es)) in
      ap (λ (v : Bool). if (if v then converts_somewhere same commented ps marks c kept g else true) then seen_type (top ps c) x.of ∷ rest else rest) (b.nothing_chosen i)
      ∙ ap (λ (ys : List (Seen S)). seen_type (top ps c) x.of ∷ ys) (param_types_seen (suc i) xs ts es (omega (arith, h)) (omega (arith, k)))

  own_params : all_params same ps c ≡ c.callee.sig.params
  own_params = ap (λ (o : Option (Receiver S)). with_receiver ps o c.callee.sig.params) b.free

  abbrev types_of_all : List GoType
  types_of_all = param_types ps c.home.number c.home.of c.home.source.tree c.callee

  abbrev written : Bool → List (Seen S)
  written v =
      if v then types_text same commented ps marks c (all_params same ps c)
      else param_text same commented ps marks c LiteralForm kept (numbered_from 0 (if v then [] else givens (all_params same ps c) types_of_all (args same ps c)))

  params_taken : (v : Bool) → spread_call same ps c ≡ v → written v ≡ params_seen (top ps c) c.callee.sig.params
  params_taken true e = types_seen (all_params same ps c) ∙ ap (params_seen (top ps c)) own_params
  params_taken false e =
      ap (λ (xs : List (Param S)). param_text same commented ps marks c LiteralForm kept (numbered_from 0 (givens xs types_of_all (args same ps c)))) own_params
      ∙ param_types_seen 0 c.callee.sig.params types_of_all (args same ps c) b.typed (b.counted e)

  pub takes_all : text_taken same commented ps marks c LiteralForm kept ≡ func_seen ps c.home.number c.home.of c.home.source.tree c.callee
  takes_all =
      (λ v. params_taken (spread_call same ps c) refl v ++ types_seen c.callee.sig.results v ++ body_seen same ps c)
      ∙ sym (ap (λ (o : Option (Receiver S)). receiver_seen ps (top ps c) o ++ (params_seen (top ps c) c.callee.sig.params ++ params_seen (top ps c) c.callee.sig.results) ++ body_seen same ps c) b.free)
