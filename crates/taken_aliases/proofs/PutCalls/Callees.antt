-- In a file that reads from its text, what is called is swapped as such.
use Rattle.std.proofs.Common.{◌≡◌, ℕ, Bool, true, zero, suc, List, [], ◌∷◌, map, sym, subst}
use Rattle.std.specs.Prelude.{Some, slice_get}
use Rattle.std.proofs.lemmas.Option.{same_Some}
use Rattle.go_tree.specs.declared.spans.Span.{Span}
use Rattle.go_tree.specs.Tree.{Expr}
use Rattle.go_tree.specs.File.{Decl, File}
use Rattle.pkg_graph.specs.Package.{Package}
use Rattle.run_rules.specs.Inlining.{ReadsAs}
use Rattle.run_rules.specs.Programs.{decl_seen}
use Rattle.run_rules.specs.Respanned.{expr_with, file_with, name_with, import_decl_with, decl_with}
use Rattle.run_rules.specs.Steps.{At}
use Rattle.run_rules.specs.Surroundings.{Use, Place, Seen, seen}
use Rattle.run_rules.specs.Texts.{FileText}
use Rattle.splice_laws.specs.Swaps.{Swap, a_callee, DeclIn, DeclsIn, in_this_decl, in_later_decls, FileIn, in_decls}
use Rattle.order_runs.proofs.RunSteps.SeatedUses.{Among, first, later}
use Rattle.put_nodes.proofs.ReadFiles.{decl_formed}
use Rattle.taken_aliases.proofs.PutCalls.CalleeWalk.{Good, CalledSwapped, decl_good}

module _ (to : At → Span) where
  -- a declaration swapped in a list
  one-of-decls : (ds : List (Decl At)) (i : ℕ) (d : Decl At) → slice_get ds i ≡ Some d → (w : Swap Span) (c : Decl Span) → DeclIn w (decl_with to d) c → (cs : List (Decl Span)) × DeclsIn w (map (decl_with to) ds) cs
  one-of-decls [] i d e w c h = absurd cc
  one-of-decls (x ∷ ds) zero d e w c h = (c ∷ map (decl_with to) ds, in_this_decl (subst (λ y. DeclIn w (decl_with to y) c) (sym (same_Some x d e)) h))
  one-of-decls (x ∷ ds) (suc i) d e w c h = let r = one-of-decls ds i d e w c h in (decl_with to x ∷ r.0, in_later_decls r.1)

  module _ (t : FileText) (tree : File At) (reads : ReadsAs t (file_with to tree)) where
    abbrev InFile : Swap Span → Type 0
    InFile w = (g : File Span) × FileIn w (file_with to tree) g

    one-called : {x : Seen At} {xs : List (Seen At)} → Among x xs → Good to InFile xs → CalledSwapped to InFile x
    one-called first h = h.0
    one-called (later a) h = one-called a h.1

    module _ (ps : List (Package At)) (k : ℕ) (of : Package At) (file : File At) (i : ℕ) (d : Decl At) (there : slice_get tree.decls i ≡ Some d) where
      all-called : Good to InFile (decl_seen ps k of file d)
      all-called =
          decl_good to InFile ps k of file d (decl_formed to t tree reads i d there)
          (λ w c h. let r = one-of-decls tree.decls i d there w c h in
          (record { package_name = name_with to tree.package_name; imports = map (import_decl_with to) tree.imports; decls = r.0 }, in_decls r.1))

      pub callee-swapped : (p : Place At) (u : Use) (old : Expr At) → Among (seen p u old) (decl_seen ps k of file d) → p.slot.level ≡ 7 → p.slot.closed ≡ true → (f : Expr Span)
          → (g : File Span) × (h : Bool) × FileIn (a_callee h (expr_with to old) f) (file_with to tree) g
      callee-swapped p u old a level closed f = let r = one-called a all-called level closed f in (r.1.0, r.0, r.1.1)
