-- Declarations in the file of a step (Go specification, Constant declarations; Source file organization).
use Rattle.std.specs.Prelude.{Bool, ◌&&◌, nat_eq}
use Rattle.run_rules.specs.Steps.{At, Found}
use Rattle.repeated_parts.specs.UseSearch.MarkValues.Tables.{DeclKey}

-- the declaration is one of the file of the step
abbrev pub is_of_step : Found At → DeclKey → Bool
is_of_step f q = nat_eq f.site.at.number q.0 && nat_eq f.site.at.file_number q.1.0

-- the declaration of the use
abbrev pub decl_of_step : Found At → DeclKey
decl_of_step f = (f.site.at.number, (f.site.at.file_number, f.site.decl))
