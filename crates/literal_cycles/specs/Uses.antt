-- A call in well-typed packages that becomes a literal of the function it names (Go specification, Calls; Function
-- literals; Declarations and scope).
use Rattle.std.specs.Prelude.{◌≡◌, ℕ, Bool, List, [], Some, None, slice_get}
use Rattle.go_tree.specs.File.{Func, func}
use Rattle.pkg_graph.specs.Package.{Package}
use Rattle.go_translation.specs.Here.{Here}
use Rattle.go_translation.specs.Packages as translated
use Rattle.go_translation.specs.Packages.{paths_in}
use Rattle.run_rules.specs.Places.{stmts_seen}
use Rattle.run_rules.specs.Programs.{body_place}
use Rattle.run_rules.specs.Sites.{MarkRef, Site, part_span}
use Rattle.run_rules.specs.Naming.{imports_added}
use Rattle.run_rules.specs.Steps.{At, same_here}
use Rattle.run_rules.specs.Run.{Standing, Logged, Next, is_commented}
use Rattle.literal_cycles.specs.FormCycles.Bodies.{changes_of}
use Rattle.literal_steps.specs.LiteralUse.{LiteralUse, PlainCall}
use Rattle.literal_steps.specs.CalledAt.{CalledAt, Linked, PackagesServe}
use Rattle.literal_cycles.specs.Around.{AllStayAround}

-- the place of a use, as the translation has it, before any variable is declared
abbrev pub place_of_use : {S : Type 0} → List (translated.Package S) → Site S → Here
place_of_use ms x = record { env = x.place.env; paths = paths_in ms; locals = []; results = []; types = [] }

-- The use is a plain call that becomes a literal, in well-typed packages; names around it that aren't local mean what
-- they do at the top of its file, and packages that the function names have names that serve there.
pub record TypedLiteral (commented : ℕ → ℕ → At → Bool) (rs : List (Package At)) (marks : List MarkRef)
    (x : Site At) :
    Type 0 where
  pub becomes : LiteralUse same_here commented rs marks x
  pub plain : PlainCall same_here commented rs marks x becomes
  pub packages : List (translated.Package At)
  pub linked : Linked rs packages x same_here commented marks becomes
  pub stands : CalledAt rs packages x (place_of_use packages x)
  pub served : PackagesServe rs packages x same_here commented marks becomes (place_of_use packages x)

-- ---- steps

module _ {marks : List MarkRef} {st : Standing} {l : Logged} {after : Standing} (n : Next marks st l after) where
  -- The step's use is such a call, in no group of constants, and adds no import; in the function around, what is around
  -- it stays.
  pub record PutsLiteral : Type 0 where
    pub becomes : LiteralUse same_here (is_commented st) st.packages marks n.found.site
    pub plain : PlainCall same_here (is_commented st) st.packages marks n.found.site becomes
    pub packages : List (translated.Package At)
    pub linked : Linked st.packages packages n.found.site same_here (is_commented st) marks becomes
    pub served :
        PackagesServe st.packages packages n.found.site same_here (is_commented st) marks becomes
        (place_of_use packages n.found.site)
    pub no_constant : n.found.site.place.env.iota ≡ None
    pub adds_nothing : imports_added n.found.named ≡ []
    pub around :
        (g : Func At) → slice_get n.found.site.at.source.tree.decls n.found.site.decl ≡ Some (func g)
        → AllStayAround (changes_of n.found) (part_span n.found.site.part) becomes.tree st.packages marks
        n.found.site.at n.found.site.decl n.found.site.mark
        (stmts_seen (body_place st.packages n.found.site.at.number n.found.site.at.of n.found.site.at.source.tree g)
        g.body)
