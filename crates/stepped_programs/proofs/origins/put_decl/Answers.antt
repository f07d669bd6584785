use Rattle.std.proofs.lemmas.List.{map-set}
use Rattle.stepped_programs.proofs.origins.put_decl.Goals as goal

pub returns : goal.returns
returns c = record { decls = map-set (λ d. d.items) c.args.own.now.decls.items c.args.decl c.args.spans }
