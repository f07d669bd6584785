use Rattle.std.proofs.Common.{[], map}
use Rattle.go_tree.specs.FileView.{decl_of}
use Rattle.typed_names.specs.Scopes.{env_at}
use Rattle.name_uses.specs.HeaderUses.Headers.{after_decls}
use Rattle.checked_modules.proofs.UseLemmas.{walked_found, walked_knows, walked_same}
use Rattle.checked_modules.proofs.uses.uses_there.Goals as goal

pub returns-in-Ok-clause-known : goal.returns-in-Ok-clause-known
returns-in-Ok-clause-known c =
    walked_knows c.new-uses.result c.decls_uses-walked.new.uses (after_decls (map decl_of c.args.decls.now))
    c.finish-grown.result.0.env c.args.blocks.now c.args.places.now c.in-Ok.ensures c.new-uses.ensures.blocks
    c.new-uses.ensures.files c.finish-grown.ensures.known

pub returns-in-Ok-clause-same : goal.returns-in-Ok-clause-same
returns-in-Ok-clause-same c =
    walked_same c.new-uses.result c.decls_uses-walked.new.uses (after_decls (map decl_of c.args.decls.now))
    c.finish-grown.result.0.env c.args.blocks.now c.args.places.now c.in-Ok.ensures c.new-uses.ensures.blocks
    c.new-uses.ensures.files c.args.tables.env c.new-uses.ensures.places c.finish-grown.ensures.places

pub returns-in-Ok-clause-found : goal.returns-in-Ok-clause-found
returns-in-Ok-clause-found c =
    walked_found c.new-uses.result c.decls_uses-walked.new.uses (after_decls (map decl_of c.args.decls.now))
    c.finish-grown.result.0.env c.args.blocks.now c.args.places.now c.in-Ok.ensures c.new-uses.ensures.blocks
    c.new-uses.ensures.files (env_at c.args.tables.env [] c.args.blocks.now c.args.place.now) c.finish-grown.result.1
    c.new-uses.ensures.uses c.finish-grown.ensures.found
