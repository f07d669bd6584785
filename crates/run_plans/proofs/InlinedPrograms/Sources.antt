-- What searches look at of a program.
use Rattle.std.proofs.Common.{refl}
use Rattle.stepped_programs.specs.declared.package_search.looks.ProgramSources.{ProgramSources}
use Rattle.programs.specs.declared.state.Program.{Program}
use Rattle.stepped_programs.specs.SteppedValues.Held.{AreSourcesOf}

abbrev pub as_sources : Program → ProgramSources
as_sources p =
    record {
      packages = record { ref_ptr = (0, 0); now = p.packages.items };
      places = record { ref_ptr = (0, 0); now = p.places };
      marks = record { ref_ptr = (0, 0); now = p.marks };
      values = record { ref_ptr = (0, 0); now = p.values };
      types = record { ref_ptr = (0, 0); now = p.types };
    }

pub are_sources : (p : Program) → AreSourcesOf p (as_sources p)
are_sources p = record { packages_told = refl; places_told = refl; marks_told = refl; values_told = refl; types_told = refl }
