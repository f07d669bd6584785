-- The laws of what a body in place does, as the contracts state them.
use Rattle.form_meaning.specs.Laws.{OperandsDoTheSame, BodiesDoTheSame, CallMeansItsLiteral, DeferredMeansItsLiteral, MethodMeansItsLiteral, DeferredMethodMeansItsLiteral}
use Rattle.form_meaning.proofs.Terms.{expr_there, stmts_there}
use Rattle.form_meaning.proofs.CallTerms.{call_means_literal, deferred_means_literal, method_means_literal, deferred_method_means_literal}

pub operands_law : OperandsDoTheSame
operands_law = λ site bound declared h m k al t x e w. expr_there site bound declared h m k al t w

pub bodies_law : BodiesDoTheSame
bodies_law = λ site bound ts declared h m k al b d w. stmts_there site bound ts declared h m k al w

pub operand_law : CallMeansItsLiteral
operand_law = λ P c around e f ts s t g b o free A rank ranked scoped q u p xs z. call_means_literal o free A rank ranked scoped q u p xs z

pub deferred_law : DeferredMeansItsLiteral
deferred_law = λ P c around e f ts s t g b o free A scoped u xs z. deferred_means_literal o free A scoped u xs z

pub method_law : MethodMeansItsLiteral
method_law = λ P c around e x f q ts s t g b o free A rank ranked scoped w u p xs z. method_means_literal o free A rank ranked scoped w u p xs z

pub deferred_method_law : DeferredMethodMeansItsLiteral
deferred_method_law = λ P c around e x f q ts s t g b o free A scoped u xs z. deferred_method_means_literal o free A scoped u xs z
