use Rattle.std.proofs.Common.{refl, get_or}
use Rattle.std.proofs.lemmas.Option.{slice_get_within}
use Rattle.stepped_programs.proofs.SearchedSites.KeptPrograms.Kept.{got}
use Rattle.stepped_programs.proofs.origins.put_origins.Goals as goal

pub returns : goal.returns
returns c =
    let os = c.args.origins.now in
    let k = c.args.at.home in
    record {
      was = get_or os k c.index-origins-at.result;
      was_is = got os k c.index-origins-at.result (slice_get_within os k c.requires.home c.requires.home_is);
      now = c.put_file.new.home;
      put = refl;
      file = c.put_file.ensures;
    }
