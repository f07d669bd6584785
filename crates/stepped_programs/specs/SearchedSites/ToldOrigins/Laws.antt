-- The law of origins that are told. It is the contract of a function of this crate (Go specification, Constant
-- declarations; Operands; Qualified identifiers; golang.org/x/tools, internal/refactor/inline, for what a run reports).
use Rattle.std.specs.Prelude.{◌≡◌, ◌<◌, List, map, Some, Contains, slice_get}
use Rattle.go_tree.specs.declared.spans.Span.{Span}
use Rattle.go_tree.specs.Tree.{NameAt, Expr}
use Rattle.go_tree.specs.File.{Decl}
use Rattle.constant_steps.specs.PlaceMeanings.Parts.{AllScoped}
use Rattle.member_uses.specs.PossibleUses.Among.{Keyed}
use Rattle.member_uses.specs.PossibleUses.Parts.{parts_of}
use Rattle.run_rules.specs.Inlining.{ReadsAs}
use Rattle.run_rules.specs.Programs.{decl_seen}
use Rattle.run_rules.specs.Respanned.{decls_with, file_with}
use Rattle.run_rules.specs.Run.{Standing, here_of, origin_of}
use Rattle.run_rules.specs.Sites.{MarkRef, Site, an_expr, a_constant, inlinable, part_span, sites}
use Rattle.run_rules.specs.Steps.{At}
use Rattle.run_rules.specs.Texts.{FileText}
use Rattle.programs.specs.OriginsOfUses.Origins.{decls_origin}

-- where the parts of a declaration come from
abbrev pub part_origins : Decl At → List Span
part_origins d = map (λ c. origin_of (part_span c.part)) (parts_of d)

-- the same of declarations
abbrev pub decls_origins : List (Decl At) → List (List Span)
decls_origins ds = map part_origins ds

-- Of a use of a constant that is an expression and has a byte it is told where it comes from, by where it stands, in a
-- declaration as typing asks: literals of functions have types and no `for` declares a variable behind its test, and
-- keys of struct literals are names.
abbrev pub OriginsAreTold : Type 0
OriginsAreTold =
    (marks : List MarkRef) (st : Standing) (x : Site At) (old : FileText) (d : Decl At) (c : NameAt At) (v e : Expr At)
    → Contains (sites st.packages marks) x → ReadsAs old (file_with here_of x.at.source.tree)
    → slice_get x.at.source.tree.decls x.decl ≡ Some d → inlinable st.packages x.mark ≡ Some (a_constant c v)
    → x.part ≡ an_expr e → (here_of (part_span x.part)).start < (here_of (part_span x.part)).end
    → AllScoped (decl_seen st.packages x.at.number x.at.of x.at.source.tree d)
    → Keyed (decl_seen st.packages x.at.number x.at.of x.at.source.tree d)
    → decls_origin (here_of (part_span x.part)) (decls_with here_of x.at.source.tree.decls)
    (decls_origins x.at.source.tree.decls)
    ≡ Some (origin_of (part_span x.part))
