use Rattle.std.proofs.Common.{[], refl, true}
use Rattle.package_blocks.specs.declared.headers.HeaderKind.TheVariants as kind
use Rattle.package_blocks.proofs.DeclLemmas.{method_names}
use Rattle.package_blocks.proofs.HeaderLemmas.{adds_one}
use Rattle.package_blocks.proofs.NameLemmas.{declares_none}
use Rattle.package_blocks.proofs.decls.add_function.Goals as goal

pub returns-in_ok-push-in-Some : goal.returns-in_ok-push-in-Some
returns-in_ok-push-in-Some c =
    adds_one c.args.file.home c.args.file.file c.args.function.now.span (kind.Function c.args.function) []
    (method_names c.args.function.now c.in-Some.field-0 c.in-Some.is) c.args.blocks.now c.args.blocks.now
    c.args.headers.now.items true c.push.new.self.items (declares_none c.args.file.home c.args.blocks.now)
    (λ before h. refl) c.in_ok-push-in-Some.ensures.items
