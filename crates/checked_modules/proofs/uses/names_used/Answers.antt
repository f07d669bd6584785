use Rattle.std.proofs.Common.{◌∙◌, refl}
use Rattle.checked_modules.proofs.UseLemmas.{uses_end, uses_more, uses_start}
use Rattle.checked_modules.proofs.uses.names_used.Goals as goal

pub uses_of_file-requires-clause-ready : goal.uses_of_file-requires-clause-ready
uses_of_file-requires-clause-ready c = c.loop-file.invariant.ready

pub uses_of_file-requires-clause-places : goal.uses_of_file-requires-clause-places
uses_of_file-requires-clause-places c = c.loop-file.invariant.passed.known

pub loop-file-init : goal.loop-file-init
loop-file-init c =
    record {
      ready = c.requires.ready;
      passed = record {
        known = c.requires.places;
        same = λ cs. refl;
        so_far =
            uses_start c.args.tables.env c.args.blocks.now c.args.places.now c.args.files.now c.new-used.result.items
            c.new-used.ensures.items;
      };
    }

pub loop-file-preserved : goal.loop-file-preserved
loop-file-preserved c =
    let uses = c.in_ok-more.field-0 in
    let g = c.loop-file.grown.env in
    record {
      ready = c.in_ok-more.ensures.ready;
      passed = record {
        known = c.in_ok-more.ensures.known;
        same = λ cs. c.in_ok-more.ensures.same cs ∙ c.loop-file.invariant.passed.same cs;
        so_far =
            uses_more c.args.tables.env c.args.blocks.now c.args.places.now c.args.files.now c.loop-file.file-index
            c.file-item.result c.loop-file-test.true c.file-item.is g c.loop-file.invariant.passed.same
            c.loop-file.used.items c.push.new.self.items uses.found c.in_ok-more.ensures.found
            c.in_ok-push.ensures.items c.loop-file.invariant.passed.so_far;
      };
    }

pub returns : goal.returns
returns c =
    λ ps packages xs same files.
    uses_end c.args.tables.env c.args.blocks.now c.args.places.now c.args.files.now c.loop-file.file-index
    c.loop-file-test.false c.loop-file.used.items c.loop-file.invariant.passed.so_far ps packages xs same files
