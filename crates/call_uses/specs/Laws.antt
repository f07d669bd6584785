-- Which marked functions a marked declaration leads to, by the calls in it (Go specification, Calls; Method
-- declarations).
use Rattle.std.specs.Prelude.{◌≡◌, Bool, true, List, [], ◌∷◌, Option, Some, is_none, slice_get}
use Rattle.go_tree.specs.declared.spans.Span.{Span}
use Rattle.go_tree.specs.File.{Decl, File}
use Rattle.go_tree.specs.GoTypes.Answers.{meets, and_also}
use Rattle.pkg_graph.specs.Package.{Package}
use Rattle.run_rules.specs.Cycles.{leads_to}
use Rattle.run_rules.specs.Programs.{decl_seen}
use Rattle.run_rules.specs.Sites.{MarkRef, Where, Inlinable, a_function, is_free_function, where_is, inlinable}
use Rattle.run_rules.specs.Sites.{member_of, marked_as}
use Rattle.member_uses.specs.Laws.{Knows}
use Rattle.member_uses.specs.Parts.{AllScoped}
use Rattle.member_uses.specs.PossibleUses.Among.{Keyed}
use Rattle.member_uses.specs.PossibleUses.Parts.{parts_of}
use Rattle.member_uses.specs.Uses.{Used, Names}
use Rattle.call_uses.specs.Calls.{call_uses}

module _ {S : Type 0} where
  -- no method
  abbrev pub is_no_method : Inlinable S → Bool
  is_no_method (a_function f) = is_none f.receiver
  is_no_method d = true

  module _ (ps : List (Package S)) where
    -- no mark is that of a method
    abbrev pub NoMethods : List MarkRef → Type 0
    NoMethods [] = Unit {0}
    NoMethods (m ∷ ms) = (meets (inlinable ps m) is_no_method ≡ true) × NoMethods ms

    module _ (marks : List MarkRef) where
      -- the member that is used, where it is a marked function
      abbrev pub function_used : Used → Option MarkRef
      function_used u = marked_as ps marks is_free_function (member_of ps u.«package» u.name)

      -- the marked functions among members that are used
      abbrev pub functions_used : List Used → List MarkRef
      functions_used [] = []
      functions_used (u ∷ us) = and_also (function_used u) (functions_used us)

-- In a program none of whose marks is that of a method, the declaration of a mark leads to the marked functions among
-- the members that its calls name. `to` says where a node stands in the text.
abbrev pub CallsLeadToFunctions : (S : Type 0) → (S → Span) → (File S → File Span) → Type 0
CallsLeadToFunctions S to as_it_stands =
    (ps : List (Package S)) (marks : List MarkRef) (m : MarkRef) (w : Where S) (f : Names) (d : Decl S)
    → NoMethods ps marks → where_is ps m ≡ Some w → slice_get w.source.tree.decls m.decl ≡ Some d
    → Knows to as_it_stands ps w f → AllScoped (decl_seen ps w.number w.of w.source.tree d)
    → Keyed (decl_seen ps w.number w.of w.source.tree d)
    → leads_to ps marks m ≡ functions_used ps marks (call_uses to f (parts_of d))
