-- A step takes its name there where it puts it and keeps the names of imports that are looked up.
use Rattle.std.proofs.Common.{List}
use Rattle.run_rules.specs.Run.{Standing, Logged, Next}
use Rattle.run_rules.specs.Sites.{MarkRef}
use Rattle.constant_modules.specs.KeyedImports.Steps.{KeepsImportUses}
use Rattle.constant_modules.specs.NamedAnywhere.Puts.{AddsImports, PutsNameThere}
use Rattle.constant_modules.specs.NamedAnywhere.Taken.{TakesNameThere}

module _ (marks : List MarkRef) (st : Standing) (l : Logged) (after : Standing) (n : Next marks st l after) where
  abbrev pub adds_of : KeepsImportUses n → AddsImports n
  adds_of names = record { new_names = names.new_names; ordered = names.ordered; ordered_added = names.ordered_added }

  abbrev pub puts_of : TakesNameThere n → PutsNameThere n
  puts_of h = record {
    place = h.place;
    use_ = h.use_;
    stands = h.stands;
    parts = h.parts;
    form = h.form;
    names = adds_of h.names;
    file_sound = h.file_sound;
    home_sound = h.home_sound;
  }

  abbrev pub takes_of : PutsNameThere n → KeepsImportUses n → TakesNameThere n
  takes_of h names = record {
    place = h.place;
    use_ = h.use_;
    stands = h.stands;
    parts = h.parts;
    form = h.form;
    names = names;
    file_sound = h.file_sound;
    home_sound = h.home_sound;
  }
