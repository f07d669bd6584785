use Rattle.exported_names.proofs.exported.+character.Given as goal

abbrev pub decreases-character : goal.decreases-character
decreases-character l = l.count
