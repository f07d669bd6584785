-- In a program whose declarations are typed, whatever its files import, the name of a type alone, where nothing declares it, isn't that of an import.
use Rattle.std.proofs.Common.{◌≡◌, ◌∙◌, refl, sym, ap, ◌⊎◌, inl, inr, ℕ, Bool, true, false, if◌then◌else◌, List, [], ◌∷◌, Option, Some, None, is_some, arith}
use Rattle.go_tree.specs.Tree.{TypeExpr, named, pointer, slice_type, map_type, struct_type}
use Rattle.go_tree.specs.ScopeNames.Means.{means}
use Rattle.go_tree.specs.GoTypes.Agreement.{In}
use Rattle.go_tree.specs.GoTypes.Entities.{Entity, type_name, Env, meaning, type_of_name}
use Rattle.go_tree.specs.GoTypes.Operands.{named_operand}
use Rattle.go_tree.specs.GoTypes.TypeNames.{resolved}
use Rattle.pkg_graph.specs.Package.{Package}
use Rattle.pkg_graph.specs.Members.{imported}
use Rattle.constant_steps.specs.StepLaws.NamesOutside.{NamesOutside}
use Rattle.order_runs.proofs.CycleRuns.ImportCycles.FreeIdentifiers.{in-either}
use Rattle.printed_constants.proofs.TypedParts.DottedImports.Imports.{no_operand}
use Rattle.run_rules.specs.Programs.{top_env}
use Rattle.run_rules.specs.Sites.{Where, named_in, outer}
use Rattle.run_rules.specs.Surroundings.{Place, Seen, seen, seen_type, seen_stmt, is_local}
use Rattle.constant_modules.specs.LookUps.Beside.{names_over, type_alone}
use Rattle.constant_modules.specs.NamesAndKeys.UsedStand.{alone_part}
use Rattle.constant_modules.proofs.LookUps.Walk.{the_one}
use Rattle.constant_modules.proofs.TypedUses.Types.{EachMeans, Known, names_mean}
use Rattle.literal_imports.proofs.ImportsNamed.{Means, meant}

-- what means a type is an operand
type_operand_there : (a : Env) (o : Option Entity) → is_some (type_of_name o) ≡ true → is_some (named_operand a o) ≡ true
type_operand_there a (Some (type_name t)) h = refl
type_operand_there a o h = absurd (grind (arith, h))

nothing_some : {A : Type 0} (o : Option A) → o ≡ None → is_some o ≡ true → ⊥
nothing_some None q e = cc
nothing_some (Some x) q e = cc

module _ {S : Type 0} (ps : List (Package S)) (w : Where S) (m : List ℕ) (k : ℕ) (means_it : Means ps w k m) where
  abbrev top : Env
  top = top_env ps w.number w.of w.source.tree

  its : (j : ℕ) × (means (outer ps w) m ≡ Some (imported j))
  its = meant ps w k (means (outer ps w) m) means_it

  -- at a place where nothing declares it, it means no type
  no_type : (p : Place S) (rim : List (List ℕ)) → NamesOutside top rim p.env p.env p.bound → is_local p m ≡ false → is_some (type_of_name (meaning p.env m)) ≡ true → ⊥
  no_type p rim known free h =
      nothing_some (named_operand top (meaning top m)) (no_operand ps w m its.0 its.1 top)
      (type_operand_there top (meaning top m) (sym (ap (λ (o : Option Entity). is_some (type_of_name o)) (known.outer m free)) ∙ h))

  module _ (p : Place S) (rim : List (List ℕ)) (known : NamesOutside top rim p.env p.env p.bound) where
    none_alone : (t : TypeExpr S) → is_some (resolved p.env t) ≡ true → In m (type_alone p t) → ⊥
    none_alone (named s None n) h i = by (is_local p n.name) refl i
      where
        by : (b : Bool) → is_local p n.name ≡ b → In m (if b then [] else n.name ∷ []) → ⊥
        by true e j = elim j [ ]
        by false e j =
            let same : m ≡ n.name = the_one m n.name j in
            no_type p rim known (ap (is_local p) same ∙ e) (ap (λ (x : List ℕ). is_some (type_of_name (meaning p.env x))) same ∙ h)
    none_alone (named s (Some q) n) h i = elim i [ ]
    none_alone (pointer s t) h i = elim i [ ]
    none_alone (slice_type s t) h i = elim i [ ]
    none_alone (map_type s x t) h i = elim i [ ]
    none_alone (struct_type s fs) h i = elim i [ ]

    all_alone : (ts : List (TypeExpr S)) → EachMeans p.env ts → In m (names_over (type_alone p) ts) → ⊥
    all_alone [] h i = elim i [ ]
    all_alone (t ∷ ts) h i = by (in-either m (type_alone p t) (names_over (type_alone p) ts) i) (all_alone ts h.1)
      where
        by : In m (type_alone p t) ⊎ In m (names_over (type_alone p) ts) → (In m (names_over (type_alone p) ts) → ⊥) → ⊥
        by (inl j) r = none_alone t h.0 j
        by (inr j) r = r j

  pub not_alone : (x : Seen S) → Known (top_env ps w.number w.of w.source.tree) x → In m (alone_part x) → ⊥
  not_alone (seen p u e) h i = elim i [ ]
  not_alone (seen_type p t) h i = all_alone p h.0.0 h.0.1 (named_in t) (names_mean p.env t h.1) i
  not_alone (seen_stmt p t) h i = elim i [ ]
