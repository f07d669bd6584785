-- A use of an alias as it is found is one as mixed_runs asks.
use Rattle.std.proofs.Common.{◌≡◌, ◌∙◌, ◌⊎◌, inl, inr, refl, sym, true, false, suc, List, ◌∷◌, Option, Some, arith}
use Rattle.std.specs.Prelude.{Contains, slice_get}
use Rattle.go_tree.specs.Tree.{NameAt, TypeExpr, named, pointer, slice_type, map_type, struct_type, Fields, no_fields, field, Expr}
use Rattle.go_tree.specs.File.{Decl}
use Rattle.run_rules.specs.Programs.{decl_seen}
use Rattle.run_rules.specs.Run.{Standing, Logged, Next, here_of}
use Rattle.run_rules.specs.Sites.{MarkRef, an_expr, a_type_part, named_in, named_in_fields}
use Rattle.run_rules.specs.Steps.{At}
use Rattle.splice_laws.proofs.RunLaws.FoundSpans.{Placed}
use Rattle.splice_laws.specs.ImportSplices.FormSplices.Laws.{MakesForm}
use Rattle.splice_laws.proofs.ImportSplices.FormSplices.FormsFound.{step-makes-form}
use Rattle.order_runs.proofs.CycleRuns.ImportCycles.ImportStep.{placed}
use Rattle.go_tree.specs.declared.spans.Span.{Span}
use Rattle.order_runs.proofs.RunSteps.SeatedUses.{Among, first, later, Seated, sites-seated}
use Rattle.put_nodes.specs.TypeNodes.Names.{type_names}
use Rattle.put_names.specs.PutTypes.Uses.{UsesTypeName}
use Rattle.put_names.specs.Uses.{IsUsedByName}
use Rattle.taken_aliases.specs.PutTexts.Uses.{UsesAliasText}
use Rattle.taken_aliases.specs.MixedRuns.Marked.{LaysOut, at_a_type, at_an_expression, IsOverAlias}
use Rattle.taken_aliases.specs.WrittenUses.Uses.{IsReceiverType, IsWrittenType, IsWritten, as_a_type, as_an_expression, IsOverWritten}
use Rattle.taken_aliases.proofs.WrittenUses.TypeSeats.{InType, type-uses-seated}
use Rattle.taken_aliases.proofs.WrittenUses.Listed.{apart, decl-lists}
use Rattle.taken_aliases.proofs.WrittenUses.Named.{alias-named}

contains-of : {A : Type 0} {a : A} (xs : List A) → Among a xs → Contains xs a
contains-of _ (first {xs = xs}) = (0, omega arith, refl)
contains-of (x ∷ xs) (later h) = let c = contains-of xs h in (suc c.0, omega (arith, c.1), c.2)

-- ---- a name in a type

pub data IsNamed {S : Type 0} : TypeExpr S → Type 0 where
  is_named : {s : S} {q : Option (NameAt S)} {n : NameAt S} → IsNamed (named s q n)

either : {A B C : Type 0} → (A → C) → (B → C) → A ⊎ B → C
either f g (inl a) = f a
either f g (inr b) = g b

module _ {S : Type 0} where
  mutual
    all-named : (t y : TypeExpr S) → Among y (named_in t) → IsNamed y
    all-named (named s q n) _ first = is_named
    all-named (named s q n) y (later a) = elim a [ ]
    all-named (pointer s t) y a = all-named t y a
    all-named (slice_type s t) y a = all-named t y a
    all-named (map_type s k t) y a = either (λ b. all-named k y b) (λ b. all-named t y b) (apart (named_in k) (named_in t) a)
    all-named (struct_type s fs) y a = fields-named fs y a

    fields-named : (fs : Fields S) (y : TypeExpr S) → Among y (named_in_fields fs) → IsNamed y
    fields-named no_fields y a = elim a [ ]
    fields-named (field s n t fs) y a = either (λ b. all-named t y b) (λ b. fields-named fs y b) (apart (named_in t) (named_in_fields fs) a)

module _ (marks : List MarkRef) (st : Standing) (l : Logged) (after : Standing) (n : Next marks st l after) where
  here : Placed here_of (λ (s : Span). Unit {0}) st.packages marks n.found.site
  here = placed marks st l after n

  makes : MakesForm marks st n.found
  makes = step-makes-form marks st l after n

  seated : Seated st.packages marks n.found.site
  seated = sites-seated st.packages marks n.found.site makes.is_use

  -- ---- written types

  module _ (old : TypeExpr At) (is : IsWrittenType n old) where
    in-type : (d : Decl At) → slice_get n.found.site.at.source.tree.decls n.found.site.decl ≡ Some d → InType n.found.site.place old (decl_seen st.packages n.found.site.at.number n.found.site.at.of n.found.site.at.source.tree d)
    in-type d e = type-uses-seated st.packages marks n.found.site makes.is_use old is.part d e

    listed : (d : Decl At) → slice_get n.found.site.at.source.tree.decls n.found.site.decl ≡ Some d → Contains (type_names d) (false, old)
    listed d e = by (decl-lists st.packages n.found.site.at.number n.found.site.at.of n.found.site.at.source.tree d old (is.no_literal d e) n.found.site.place (in-type d e).type (in-type d e).is_seen (in-type d e).inside)
      where
        by : IsReceiverType d old ⊎ Among (false, old) (type_names d) → Contains (type_names d) (false, old)
        by (inl r) = absurd (is.not_received d e r)
        by (inr a) = contains-of (type_names d) a

    listed-so : (u : UsesTypeName n) × (u.literal ≡ false)
    listed-so = by old is.part listed (all-named (in-type here.decl here.decl_is).type old (in-type here.decl here.decl_is).inside)
      where
        by : (y : TypeExpr At) → n.found.site.part ≡ a_type_part y → ((d : Decl At) → slice_get n.found.site.at.source.tree.decls n.found.site.decl ≡ Some d → Contains (type_names d) (false, y)) → IsNamed y → (u : UsesTypeName n) × (u.literal ≡ false)
        by _ p f (is_named {s = s} {q = q} {n = m}) = (record { span = s; before = q; name = m; part = p; literal = false; written = f }, refl)

    pub written-listed : UsesTypeName n
    written-listed = listed-so.0

    no-literal : {P : Type 0} → written-listed.literal ≡ true → P
    unfolding listed-so written-listed
    no-literal e = absurd (grind (arith, sym listed-so.1 ∙ e))

  -- ---- expressions

  pub uses-named : UsesAliasText n → (e : Expr At) → n.found.site.part ≡ an_expr e → IsUsedByName n
  uses-named uses e part = record {
    old = e;
    part = part;
    is_name = alias-named st.packages marks n.found.site.at uses.name uses.text n.found.site.place e n.found.site.mark uses.declared (seated.is_use e part);
  }

  -- ---- steps

  pub written-over : IsOverWritten n → IsOverAlias n
  written-over over = record { uses = over.uses; lays_out = by over.written; few = over.few; removes = over.removes }
    where
      by : IsWritten n over.uses → LaysOut n over.uses
      by (as_a_type old is) = at_a_type (written-listed old is) (λ e. no-literal old is e)
      by (as_an_expression old part laid) = at_an_expression (uses-named over.uses old part) laid
