use Rattle.std.proofs.Common.{◌∙◌, ap}
use Rattle.std.specs.Prelude.{if◌then◌else◌, []}
use Rattle.fix_io.specs.Files.{with_bytes}
use Rattle.fix_io.specs.MemTree.{mem_listed}
use Rattle.fix_io.proofs.Replacing.{replaces}
use Rattle.fix_io.proofs.mem_tree.MemTreeTree.replace.Goals as goal

pub invariant_of-self-2 : goal.invariant_of-self-2
invariant_of-self-2 c =
    let put = replaces c.self.inside.files.items c.args.self.now c.args.i c.self.inside.room c.index_mut.result.now c.put.new.file c.args.bytes.now (ap (λ t. t.files) c.self.view_is) c.requires
    c.index_mut.ensures.value c.put.ensures.path c.put.ensures.bytes c.put.ensures.room in
    (put.ascending c.self.invariant.0, put.roomy c.self.invariant.1, put.few c.self.invariant.2)

pub returns-clause-ok : goal.returns-clause-ok
returns-clause-ok c =
    let put = replaces c.self.inside.files.items c.args.self.now c.args.i 0 c.index_mut.result.now c.put.new.file c.args.bytes.now (ap (λ t. t.files) c.self.view_is) c.requires
    c.index_mut.ensures.value c.put.ensures.path c.put.ensures.bytes c.put.ensures.room in
    put.held ∙ ap (λ t. with_bytes t.files c.args.i c.args.bytes.now) c.self.view_is

pub returns-clause-paths : goal.returns-clause-paths
returns-clause-paths c =
    let put = replaces c.self.inside.files.items c.args.self.now c.args.i 0 c.index_mut.result.now c.put.new.file c.args.bytes.now (ap (λ t. t.files) c.self.view_is) c.requires
    c.index_mut.ensures.value c.put.ensures.path c.put.ensures.bytes c.put.ensures.room in
    ap (λ on. if c.self.inside.listed then on else []) put.names ∙ ap mem_listed c.self.view_is
