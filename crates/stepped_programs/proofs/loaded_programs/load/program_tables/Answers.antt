use Rattle.stepped_programs.proofs.loaded_programs.load.program_tables.Goals as goal

pub returns : goal.returns
returns c =
    record {
      places_are = c.in_ok-places.ensures;
      origins_are = c.in_ok-origins.ensures;
      marks_are = c.in_ok-marks.ensures;
      values_are = c.in_ok-values.ensures;
    }
