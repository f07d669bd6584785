use Rattle.std.proofs.Common.{◌∙◌, sym}
use Rattle.module_refusals.proofs.NameLemmas.{named_by_second, scanned_second}
use Rattle.module_refusals.proofs.names.package_name.Goals as goal

pub second_word-requires : goal.second_word-requires
second_word-requires c = (scanned_second c.args.text.now c.requires.source.0 c.in-Ok.tokens.items c.in-Ok.tokens.comments c.requires.source.1 c.in-Ok.ensures.found).within

pub returns : goal.returns
returns c =
    named_by_second c.args.text.now c.requires.source.0 c.in-Ok.tokens.items c.in-Ok.tokens.comments c.in_ok-name.name c.requires.source.1 c.in-Ok.ensures.found
    (λ d. c.second_word.ensures d ∙ sym c.in_ok-name.ensures)
