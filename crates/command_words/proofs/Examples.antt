-- Words that are accepted with what they ask for, and words that are refused.
use Rattle.std.proofs.Common.{◌≡◌, refl, codes, true, false, List, Bool, [], ◌∷◌}
use Rattle.clap.specs.Walk.{Text}
use Rattle.clap.specs.Faults.{is_simple_and_free}
use Rattle.clap.specs.Simple.{is_simple}
use Rattle.clap.proofs.OnLiterals.{clap_on_literals}
use Rattle.command_words.specs.Words.{are_accepted, gofix, has_fix, only_of}

pub gofix_is_simple : is_simple gofix ≡ true
unfolding clap_on_literals
gofix_is_simple = refl

pub gofix_is_free : is_simple_and_free gofix ≡ true
unfolding clap_on_literals
gofix_is_free = refl

-- the words are accepted, and ask for this
abbrev Asks : List Text → Bool → Text → Type 0
Asks words fix only = (are_accepted words ≡ true) × (has_fix words ≡ fix) × (only_of words ≡ only)

nothing : Asks [] false []
unfolding clap_on_literals
nothing = (refl, refl, refl)

fix : Asks (codes "--fix" ∷ []) true []
unfolding clap_on_literals
fix = (refl, refl, refl)

only : Asks (codes "--only" ∷ codes "example.com/m" ∷ []) false (codes "example.com/m")
unfolding clap_on_literals
only = (refl, refl, refl)

only_then_fix : Asks (codes "--only=p" ∷ codes "--fix" ∷ []) true (codes "p")
unfolding clap_on_literals
only_then_fix = (refl, refl, refl)

fix_then_only : Asks (codes "--fix" ∷ codes "--only" ∷ codes "p" ∷ []) true (codes "p")
unfolding clap_on_literals
fix_then_only = (refl, refl, refl)

twice : are_accepted (codes "--fix" ∷ codes "--fix" ∷ []) ≡ false
unfolding clap_on_literals
twice = refl

two_prefixes : are_accepted (codes "--only=a" ∷ codes "--only=b" ∷ []) ≡ false
unfolding clap_on_literals
two_prefixes = refl

no_prefix : are_accepted (codes "--only" ∷ []) ≡ false
unfolding clap_on_literals
no_prefix = refl

a_value_for_fix : are_accepted (codes "--fix=x" ∷ []) ≡ false
unfolding clap_on_literals
a_value_for_fix = refl

load : are_accepted (codes "--load" ∷ codes "3" ∷ []) ≡ false
unfolding clap_on_literals
load = refl

a_file : are_accepted (codes "main.go" ∷ []) ≡ false
unfolding clap_on_literals
a_file = refl

help : are_accepted (codes "--help" ∷ []) ≡ false
unfolding clap_on_literals
help = refl
