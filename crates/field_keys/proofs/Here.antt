-- Places below the top of a file at which variables have locations, and what new names do to that.
use Rattle.std.specs.Prelude.{◌≡◌, ℕ, List, [], ◌++◌, Some}
use Rattle.go_tree.specs.Tree.{Sig}
use Rattle.go_tree.specs.ScopeNames.Means.{Environment}
use Rattle.go_tree.specs.ScopeNames.FreeNames.{unless_declared, sig_names}
use Rattle.go_tree.specs.GoTypes.Types.{GoType, FuncType}
use Rattle.go_tree.specs.GoTypes.Entities.{Entity, Env, Binds, in_block}
use Rattle.go_tree.specs.GoTypes.Statements.{body_binds}
use Rattle.go_tree.specs.GoTypes.Agreement.{with_names}
use Rattle.go_tree.proofs.GoTypes.Agreeing.{Covers}
use Rattle.go_kernel.specs.Kernel.{Term}
use Rattle.go_translation.specs.Mentions.{Mention}
use Rattle.go_translation.specs.Here.{Location, Here, in_inner, declaring, located, at_body}
use Rattle.go_translation.specs.Facts.{literal_names}
use Rattle.go_translation.specs.Statements.{old_stored, defined_types}
use Rattle.go_translation.specs.Agreement.{at_names, SameVariable, OnHere, AgreesHere}
use Rattle.go_translation.proofs.AgreeingHere.{variable_alike, agrees_inner, agrees_declaring, own_locals, agrees_body}
use Rattle.go_translation.proofs.SmallAlike.{defined_types-alike, old_stored-alike}
use Rattle.field_keys.specs.Below.{AgreesBelow, AgreesHereBelow}
use Rattle.field_keys.proofs.Below.{below_in_block, below_after}
use Rattle.field_keys.proofs.Only.{Only}

module _ {top : Env} where
  pub here_alone : {around : List (List ℕ)} {h : Here} {m : Environment Entity} {l : Environment Location} → AgreesHereBelow top around h m l → AgreesHere around h m l
  here_alone g = record { names = g.names.agrees; bound = g.bound; here = g.here; blank = g.blank }

  pub variable_below : (n : List ℕ) (around : List (List ℕ)) (h : Here) (m : Environment Entity) (l : Environment Location) → AgreesHereBelow top around h m l → OnHere (unless_declared around n) h m l → SameVariable h l n
  variable_below n around h m l g o = variable_alike n around h m l (here_alone g) o

  pub below_inner : {around : List (List ℕ)} {h : Here} {m : Environment Entity} {l : Environment Location} → AgreesHereBelow top around h m l → AgreesHereBelow top around (in_inner h) m l
  below_inner g = let k = agrees_inner (here_alone g) in record { names = below_in_block g.names; bound = k.bound; here = k.here; blank = k.blank }

  pub below_declaring : (names around : List (List ℕ)) (bs : Binds) (us : List Mention) (h : Here) (m : Environment Entity) (l : Environment Location) → Covers names bs h.env → Only names bs → AgreesHereBelow top around h m l → AgreesHereBelow top (names ++ around) (declaring bs us h) (bs ++ m) (located us bs ++ l)
  below_declaring names around bs us h m l c o g = let k = agrees_declaring names around bs us h m l c (here_alone g) in record { names = below_after names around bs h.env m c o g.names; bound = k.bound; here = k.here; blank = k.blank }

  module _ {S : Type 0} where
    pub below_body : (s : Sig S) (f : FuncType) (around : List (List ℕ)) (bs : Binds) (us : List Mention) (h : Here) (m : Environment Entity) (l : Environment Location) → body_binds [] s f ≡ Some bs → Covers (sig_names s) bs (in_block h.env) → Only (sig_names s) bs → AgreesHereBelow top around h m l
        → AgreesHereBelow top (sig_names s ++ around) (at_body h bs (literal_names s f) us) (bs ++ m) (own_locals s f us ++ l)
    below_body s f around bs us h m l e c o g =
        let k = agrees_body s f around bs us h m l e c (here_alone g) in record { names = below_after (sig_names s) around bs (in_block h.env) m c o (below_in_block g.names); bound = k.bound; here = k.here; blank = k.blank }

  -- ---- names that the innermost block declares

  pub defined_types-below : (a : Env) (ns : List (List ℕ)) (ts : List GoType) (m : Environment Entity) (around : List (List ℕ)) → AgreesBelow top around a m → defined_types a ns ts ≡ defined_types (with_names a m) ns ts
  defined_types-below a ns ts m around g = defined_types-alike a ns ts m around g.agrees

  pub old_stored-below : (h : Here) (i : ℕ) (ns : List (List ℕ)) (rest : Term) (m : Environment Entity) (l : Environment Location) (around : List (List ℕ)) → AgreesHereBelow top around h m l → old_stored h i ns rest ≡ old_stored (at_names h m l) i ns rest
  old_stored-below h i ns rest m l around g = old_stored-alike h i ns rest m l around (here_alone g)
