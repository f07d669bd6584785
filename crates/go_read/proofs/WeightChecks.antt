-- The nesting weights of the tokens of texts, by evaluation.
use Rattle.std.proofs.Common.{◌≡◌, [], ◌∷◌, refl}
use Rattle.std.specs.Prelude.{codes}
use Rattle.go_read.specs.SpellsWeight.{weights_of}
use Rattle.go_read.proofs.Texts.{tokens_from, words}

-- a comma and a semicolon begin anew within their brackets, and a bracket counts on outside
call : weights_of (tokens_from 0 (words [] (codes "f ( x , y + 1 ) ; g"))) ≡ 1 ∷ 2 ∷ 3 ∷ 2 ∷ 3 ∷ 4 ∷ 5 ∷ 2 ∷ 0 ∷ 1 ∷ []
call = refl

-- a bracket that closes nothing leaves the one count
extra : weights_of (tokens_from 0 (words [] (codes "a ) b } [ [ c"))) ≡ 1 ∷ 1 ∷ 2 ∷ 2 ∷ 3 ∷ 4 ∷ 5 ∷ []
extra = refl
