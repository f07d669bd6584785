use Rattle.std.proofs.Common.{◌∙◌, ap, map}
use Rattle.pkg_graph.specs.Views.{package_view}
use Rattle.file_names.specs.declared.members.Member.{Member}
use Rattle.file_names.proofs.MemberLaws.{block_named}
use Rattle.stepped_programs.proofs.held_blocks.block_of.Goals as goal

pub returns : goal.returns
returns c =
    record {
      names =
          c.in_ok-block.ensures.names ∙ c.in_ok-names.ensures ∙ ap (map (λ (m : Member). m.name)) c.deref.ensures.value
          ∙ block_named c.args.number (package_view c.args.home.now) c.in_ok-members.members.items c.in_ok-members.ensures;
      table = c.in_ok-block.ensures.table;
    }
