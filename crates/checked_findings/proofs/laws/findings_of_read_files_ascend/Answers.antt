use Rattle.std.specs.Prelude.{[]}
use Rattle.expression_spans.proofs.TokensLie.{tokens_lie}
use Rattle.expression_spans.proofs.Files.{front_ascends, front_holds}
use Rattle.go_tree.specs.GoTypes.Programs.{file_block}
use Rattle.checked_findings.specs.Laws.{found_in}
use Rattle.checked_findings.specs.LookUp.{places_of}
use Rattle.checked_findings.proofs.LookUps.{each_found}
use Rattle.checked_findings.proofs.PlacesAscend.{file-ascends, ascend-distinct, each-counted}
use Rattle.checked_findings.proofs.laws.findings_of_read_files_ascend.Goals as goal

pub returns-clause-ascend : goal.returns-clause-ascend
returns-clause-ascend c =
    λ text tokens comments f of spells w home members imports.
    file-ascends w home (file_block members [] imports) f.decls (front_ascends spells (tokens_lie text tokens comments of))

pub returns-clause-distinct : goal.returns-clause-distinct
returns-clause-distinct c =
    λ text tokens comments f of spells w home members imports.
    ascend-distinct (places_of (found_in w home members imports f.decls))
    (returns-clause-ascend c text tokens comments f of spells w home members imports)

pub returns-clause-found : goal.returns-clause-found
returns-clause-found c =
    λ text tokens comments f of spells w home members imports g i.
    each_found g i (returns-clause-distinct c text tokens comments f of spells w home members imports)

pub returns-clause-counted : goal.returns-clause-counted
returns-clause-counted c =
    λ text tokens comments f of spells w home imports.
    each-counted w home imports f.decls (front_holds spells (tokens_lie text tokens comments of))
    (front_ascends spells (tokens_lie text tokens comments of))
