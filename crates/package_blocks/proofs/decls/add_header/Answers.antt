use Rattle.package_blocks.specs.Names.{plain_names}
use Rattle.package_blocks.proofs.HeaderLemmas.{adds_one}
use Rattle.package_blocks.proofs.decls.add_header.Goals as goal

pub returns : goal.returns
returns c =
    adds_one c.args.file.home c.args.file.file c.args.at c.args.kind (plain_names c.args.names.now) c.requires.names
    c.args.blocks.now c.declare_all.new.blocks c.args.headers.now.items c.in_ok-sound.sound c.push.new.self.items
    c.in_ok-sound.ensures.declared c.in_ok-sound.ensures.sound c.in_ok-push.ensures.items
