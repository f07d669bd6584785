-- The block of a package that is held from one step of a run to the next (Go specification, Blocks; Packages).
use Rattle.std.specs.Prelude.{◌≡◌, ◌⊎◌, ℕ, List, Option, Some, slice_get}
use Rattle.pkg_graph.specs.Views.{package_view}
use Rattle.pkg_graph.specs.declared.packages.Package.{Package}
use Rattle.file_names.specs.Members.{IsBlockOf}
use Rattle.file_tables.specs.Blocks.{HasOwnTable, block_in}
use Rattle.file_tables.specs.declared.blocks.Block.{Block}
use Rattle.stepped_programs.specs.declared.held_blocks.HeldBlock.{HeldBlock}
use Rattle.stepped_programs.specs.declared.package_search.search.FoundInPackage.{FoundInPackage}

-- It is the block of the package.
pub record IsBlock (home : Package) (b : Block) : Type 0 where
  pub names : IsBlockOf b.names (package_view home)
  pub table : HasOwnTable b

-- What is held, where it is of the package with this number, is its block.
abbrev pub IsHeldOf : ℕ → Package → Option HeldBlock → Type 0
IsHeldOf number home held = (h : HeldBlock) → held ≡ Some h → h.home ≡ number → IsBlock home h.block

-- What is held is the block of its package.
abbrev pub IsHeldIn : List Package → Option HeldBlock → Type 0
IsHeldIn packages held =
    (h : HeldBlock) (home : Package) → held ≡ Some h → slice_get packages h.home ≡ Some home → IsBlock home h.block

-- What is held after a package is searched: what was held before, or its block.
abbrev pub IsHeldNext : ℕ → Package → Option HeldBlock → Option HeldBlock → Type 0
IsHeldNext number home old new =
    (h : HeldBlock) → new ≡ Some h → (old ≡ Some h) ⊎ ((h.home ≡ number) × IsBlock home h.block)

-- The tables of the use that is found have the table of its package's block.
abbrev pub HoldsBlock : Option FoundInPackage → Type 0
HoldsBlock found = (f : FoundInPackage) → found ≡ Some f → HasOwnTable (block_in f.tables)
