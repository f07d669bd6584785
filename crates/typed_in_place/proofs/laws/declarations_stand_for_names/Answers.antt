use Rattle.typed_in_place.proofs.DeclaredConstants.{declared_constant_stands}
use Rattle.typed_in_place.proofs.DeclaredAliasStands.{declared_alias_stands, declared_alias_called}
use Rattle.typed_in_place.proofs.CalledLiteral.{same_function, literal_in_place}
use Rattle.typed_in_place.proofs.laws.declarations_stand_for_names.Goals as goal

pub returns-clause-constant : goal.returns-clause-constant
returns-clause-constant c = λ ps hs h x f r w end d around a e g n m p q i j k l u v y z. declared_constant_stands ps hs h x f r w end d around a e g n m p q i j k l u v y z

pub returns-clause-alias : goal.returns-clause-alias
returns-clause-alias c = λ ps hs h t d w end around a p q n u k m s f g. declared_alias_stands ps hs h t d w end around a p q n u k m s f g

pub returns-clause-called_alias : goal.returns-clause-called_alias
returns-clause-called_alias c = λ ps hs h t d w end around a e r x u f v k n m b s y z i j. declared_alias_called ps hs h t d w end around a e r x u f v k n m b s y z i j

pub returns-clause-literal : goal.returns-clause-literal
returns-clause-literal c = λ around a e r n f p q g d m k t u v. same_function around a e r n p q f.sig f.body g d m k t u v

pub returns-clause-function : goal.returns-clause-function
returns-clause-function c = λ w h f names here p q g nobody typed bs bound ok blank free. literal_in_place w h f names here p q g nobody typed bs bound ok blank free
