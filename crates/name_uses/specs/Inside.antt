-- What the fields of a walk hold.
use Rattle.typed_names.specs.Known.{KnowsTypes}
use Rattle.declared_types.specs.Steps.{KnowsPlaces}
use Rattle.operand_modes.specs.CheckerTables.Ready.{AreReady}
use Rattle.name_uses.specs.declared.uses.NameUses.TheInside.{Inside}
use Rattle.name_uses.specs.State.{State}
use Rattle.name_uses.specs.Views.{AreTypesIfSome}

-- the fields as data
abbrev pub seen : Inside → State
seen a =
    record {
      env = a.tables.env;
      blocks = a.blocks.now;
      files = a.files.now;
      scope = a.scope.now;
      quiet = a.quiet;
      locals = a.locals;
      literals = a.literals;
      found = a.found;
    }

-- the tables are ready, the types of all names that are known are in them, and so are those of literals
pub record IsWalk (a : Inside) : Type 0 where
  pub ready : AreReady a.tables
  pub known : KnowsTypes a.tables.env a.blocks.now a.scope.now
  pub places : KnowsPlaces a.tables.env a.blocks.now a.files.now
  pub literals : AreTypesIfSome a.tables.env a.literals
