use Rattle.std.proofs.Common.{◌≡◌, ◌∙◌, ◌<◌, ◌++◌, [], ◌∷◌, ap, arith, get_or, length, subst, sym, take, All}
use Rattle.std.proofs.lemmas.List.{take_all, take_more}
use Rattle.std.proofs.lemmas.List.Elements.{All-more}
use Rattle.folder_reading.specs.Sources.{AreOctets}
use Rattle.folder_reading.proofs.folder.listed_paths.Goals as goal

pub loop-i-preserved : goal.loop-i-preserved
loop-i-preserved g c =
    let kept = c.loop-i.invariant in
    let listed = g.T.Tree.listed c.args.tree.now in
    let i = c.loop-i.i in
    let within : i < length listed = omega (arith, c.loop-i-test.true, kept.end) in
    let path : c.as_bytes-path.result.now ≡ get_or listed i [] = c.as_bytes-path.ensures.value ∙ c.path.ensures in
    record {
      paths = c.in_ok-push.ensures.items ∙ ap (λ ps. ps ++ c.in_ok-text.text ∷ []) kept.paths
          ∙ ap (λ p. take i listed ++ p ∷ []) (c.in_ok-text.ensures ∙ path) ∙ sym (take_more listed i [] within);
      octets = All-more AreOctets listed i [] within kept.octets (subst AreOctets path c.bytes_are_octets.ensures);
      end = kept.end;
    }

pub returns-clause-octets : goal.returns-clause-octets
returns-clause-octets g c =
    let kept = c.loop-i.invariant in
    let listed = g.T.Tree.listed c.args.tree.now in
    subst (All AreOctets) (take_all c.loop-i.i listed (omega (arith, c.loop-i-test.false, kept.end))) kept.octets
