use Rattle.std.proofs.Common.{[], ◌∷◌}
use Rattle.package_blocks.proofs.HeaderLemmas.{adds_one, follows_alone}
use Rattle.package_blocks.proofs.decls.add_named.Goals as goal

pub returns : goal.returns
returns c =
    adds_one c.args.file.home c.args.file.file c.args.at c.args.kind (c.args.name.now ∷ []) c.requires.names
    c.args.blocks.now c.declare.new.blocks c.args.headers.now.items c.in_ok-sound.sound c.push.new.self.items
    c.in_ok-sound.ensures.declared
    (follows_alone c.args.file.home c.args.file.file c.args.name.now c.args.blocks.now c.in_ok-sound.sound
    c.in_ok-sound.ensures.sound)
    c.in_ok-push.ensures.items
