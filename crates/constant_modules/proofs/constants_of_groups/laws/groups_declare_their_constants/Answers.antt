use Rattle.constant_modules.proofs.ConstantsOfGroups.DeclaredThere.{first_declares}
use Rattle.constant_modules.proofs.ConstantsOfGroups.FirstSingles.{first_single}
use Rattle.constant_modules.proofs.constants_of_groups.laws.groups_declare_their_constants.Goals as goal

pub returns-clause-first : goal.returns-clause-first
returns-clause-first c = λ n p k ps f d i file x e at block nf y nd holds. first_declares n p k ps f d i file x e at block nf y nd holds

pub returns-clause-single : goal.returns-clause-single
returns-clause-single c = λ n h x t e d each hs first. first_single n h x t e d each hs first
