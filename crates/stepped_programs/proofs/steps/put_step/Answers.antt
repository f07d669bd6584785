use Rattle.std.proofs.Common.{◌≡◌, ◌∙◌, refl, sym, ap, subst, List, map, length, arith}
use Rattle.std.specs.Prelude.{slice_get}
use Rattle.std.specs.Vec.{with_items}
use Rattle.std.proofs.lemmas.List.{length-set}
use Rattle.pkg_graph.specs.Views.{package_view}
use Rattle.pkg_graph.specs.declared.packages.Package as code
use Rattle.run_rules.specs.Programs.{dependency_order}
use Rattle.programs.specs.declared.part_origins.origins.PackageOrigins.{PackageOrigins}
use Rattle.programs.specs.declared.state.PackageFiles.{PackageFiles}
use Rattle.stepped_programs.specs.Texts.{ArePut}
use Rattle.stepped_programs.specs.Flags.{AreUnsettled}
use Rattle.stepped_programs.specs.SwappedOrigins.{IsOriginPut}
use Rattle.stepped_programs.specs.Steps.{AreFileValues, key_at}
use Rattle.stepped_programs.proofs.Whole.{items_put, packages_are, distinct, named, found, holds, room}
use Rattle.stepped_programs.proofs.steps.put_step.Goals as goal

pub bytes_after-program-requires-clause-fits : goal.bytes_after-program-requires-clause-fits
bytes_after-program-requires-clause-fits c =
    room c.args.program.now c.args.at c.args.file c.requires.may c.deref.result.now c.text_size-old.result c.deref.ensures.value c.text_size-old.ensures

pub package_order-requires-clause-distinct : goal.package_order-requires-clause-distinct
package_order-requires-clause-distinct c =
    distinct c.args.program.now c.args.at c.args.file c.requires.may c.deref_mut.result.now c.replace_file.new.packages c.deref_mut.ensures.value c.replace_file.ensures
    c.deref-2.result.now c.deref-2.ensures.value

pub package_order-requires-clause-named : goal.package_order-requires-clause-named
package_order-requires-clause-named c =
    named c.args.program.now c.args.at c.args.file c.requires.may c.deref_mut.result.now c.replace_file.new.packages c.deref_mut.ensures.value c.replace_file.ensures
    c.deref-2.result.now c.deref-2.ensures.value

pub put_values-requires-clause-places : goal.put_values-requires-clause-places
put_values-requires-clause-places c =
    found c.args.program.now c.args.at c.args.file c.requires.may c.deref_mut.result.now c.replace_file.new.packages c.deref_mut.ensures.value c.replace_file.ensures
    c.deref-3.result.now c.deref-3.ensures.value

pub put_values-requires-clause-here : goal.put_values-requires-clause-here
put_values-requires-clause-here c =
    holds c.args.program.now c.args.at c.args.file c.requires.may c.deref_mut.result.now c.replace_file.new.packages c.deref_mut.ensures.value c.replace_file.ensures
    c.deref-3.result.now c.deref-3.ensures.value

pub returns-clause-put : goal.returns-clause-put
returns-clause-put c =
    let old = c.args.program.now in
    let at = c.args.at in
    let f = c.args.file in
    let texts : ArePut at.home at.file f.text f.tokens old.files.items c.put_text.new.files =
    subst (λ (fs : List PackageFiles). ArePut at.home at.file f.text f.tokens fs c.put_text.new.files) c.deref_mut-2.ensures.value c.put_text.ensures in
    let many : length c.put_text.new.files ≡ length old.files.items = ap length texts.put ∙ length-set old.files.items at.home texts.now in
    let between = items_put old.files c.put_text.new.files many in
    let flags : AreUnsettled old.users (key_at at) c.put_text.new.files c.unsettle.new.files =
    subst (λ (fs : List PackageFiles). AreUnsettled old.users (key_at at) fs c.unsettle.new.files) (c.deref_mut-3.ensures.value ∙ between) c.unsettle.ensures in
    let files = items_put (with_items old.files c.put_text.new.files) c.unsettle.new.files (flags.size ∙ ap length (sym between)) in
    let came : IsOriginPut at.home at.file at.decl c.args.origins.items old.origins.items c.put_origins.new.origins =
    subst (λ (hs : List PackageOrigins). IsOriginPut at.home at.file at.decl c.args.origins.items hs c.put_origins.new.origins) c.deref_mut-4.ensures.value c.put_origins.ensures in
    let origins = items_put old.origins c.put_origins.new.origins (ap length came.put ∙ length-set old.origins.items at.home came.now) in
    record {
      packages_are = packages_are old at f c.requires.may c.deref_mut.result.now c.replace_file.new.packages c.deref_mut.ensures.value c.replace_file.ensures;
      between = c.put_text.new.files;
      texts_are = texts;
      flags_are = subst (λ (fs : List PackageFiles). AreUnsettled old.users (key_at at) c.put_text.new.files fs) (sym files) flags;
      origins_are = subst (λ (hs : List PackageOrigins). IsOriginPut at.home at.file at.decl c.args.origins.items old.origins.items hs) (sym origins) came;
      order_is = c.in_ok-program.ensures ∙ ap (λ (ps : List code.Package). dependency_order (map package_view ps)) c.deref-2.ensures.value;
      values_are = subst (λ (ps : List code.Package). AreFileValues at c.args.block.names ps c.put_values.new.values) c.deref-3.ensures.value c.in_ok-block.ensures.here;
      other_values = c.in_ok-block.ensures.others;
      bytes_are = λ kept body h e.
          let was = c.text_size-old.ensures kept body (ap (λ (fs : List PackageFiles). slice_get fs at.home) c.deref.ensures.value ∙ h) e in
          omega (arith, was, c.bytes_after-program.ensures, ap length c.items.ensures);
      places_stay = refl;
      types_stay = refl;
      marks_stay = refl;
      bad_stay = refl;
      users_stay = refl;
    }
