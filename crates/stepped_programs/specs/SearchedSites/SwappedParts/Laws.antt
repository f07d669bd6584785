-- The laws of parts that are swapped. Each is the contract of a function of this crate (Go specification, Constant
-- declarations; Operands; Qualified identifiers; Selectors).
use Rattle.std.specs.Prelude.{◌≡◌, ℕ, Bool, true, List, Option}
use Rattle.go_tree.specs.Tree.{NameAt, Expr, ident}
use Rattle.go_tree.specs.File.{Decl}
use Rattle.pkg_graph.specs.Package.{Package}
use Rattle.constant_forms.specs.Views.{name_expr}
use Rattle.printed_constants.specs.TypedParts.StandingUses.ImportUses.Parts.{IsName, StandsOnce}
use Rattle.member_uses.specs.PossibleUses.Among.{Keyed}
use Rattle.member_uses.specs.PossibleUses.Candidates.{Candidate}
use Rattle.member_uses.specs.PossibleUses.Parts.{parts_of}
use Rattle.run_rules.specs.FormTrees.{as_expr}
use Rattle.run_rules.specs.Forms.{is_at}
use Rattle.run_rules.specs.Programs.{decl_seen}
use Rattle.run_rules.specs.Sites.{Where}
use Rattle.run_rules.specs.Steps.{At, same_here, changes_for, new_decl}
use Rattle.run_rules.specs.Surroundings.{Place, is_old}
use Rattle.stepped_programs.specs.SearchedSites.SwappedParts.Swaps.{PartsSwap, EachSpan, spans_in}

-- it is no name on the left of `:=` that is there already
abbrev pub IsNoOld : Place At → Expr At → Type 0
IsNoOld p e = (n : NameAt At) → e ≡ ident n.span n.name → is_old p n ≡ true → ⊥

-- With a name that stands at one node, in the place of a use that stands once at its span, whatever stands behind it, the
-- parts of the declaration are swapped, where keys of struct literals are names.
abbrev pub StepsSwapParts : Type 0
StepsSwapParts =
    (ps : List (Package At)) (w : Where At) (d : Decl At) (p : Place At) (e : Expr At) (z at : At)
    (q : Option (List ℕ)) (n : List ℕ) → IsName p e → IsNoOld p e
    → StandsOnce (is_at same_here z) p e (decl_seen ps w.number w.of w.source.tree d)
    → Keyed (decl_seen ps w.number w.of w.source.tree d)
    → PartsSwap e (name_expr at q n) (parts_of d)
    (parts_of
    (new_decl same_here ps (changes_for same_here z (as_expr (name_expr at q n))) w.number w.of w.source.tree d))

-- What holds for the spans of all parts, and for that of the name, holds for those of the parts that are swapped.
abbrev pub SwapsKeep : Type 0
SwapsKeep =
    (p : At → Bool) (e : Expr At) (at : At) (q : Option (List ℕ)) (n : List ℕ) (old now : List (Candidate At))
    → PartsSwap e (name_expr at q n) old now → EachSpan p (spans_in old) → p at ≡ true → EachSpan p (spans_in now)
