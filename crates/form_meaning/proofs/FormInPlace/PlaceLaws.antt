-- The laws of bodies in place, as the contracts state them.
use Rattle.std.specs.Prelude.{refl}
use Rattle.form_meaning.specs.FormInPlace.Laws.{OperandsAlike, PlacesAlike, UsesAlike, BodiesAlike, CallIsItsLiteral, CallUsesAlike}
use Rattle.form_meaning.proofs.FormInPlace.InPlace.{parts_there, place_there, used_stmts_there, stmts_there}
use Rattle.form_meaning.proofs.FormInPlace.Call.{operand, uses}

pub operands_law : OperandsAlike
operands_law = λ site declared a m x e w. parts_there site declared a m w

pub places_law : PlacesAlike
places_law = λ site declared a m x e w. place_there site declared a m w

pub uses_law : UsesAlike
uses_law = λ site c declared a m b d w. used_stmts_there site c.results declared a m w

pub bodies_law : BodiesAlike
bodies_law = λ site c declared a m b d w before. stmts_there site c.results declared a m w c refl before

pub call_operand_law : CallIsItsLiteral
call_operand_law = λ c around names home e f s t g h b d k u xs z. operand c around names home e f s t g h b d k.called k.typed k.written u xs z

pub call_uses_law : CallUsesAlike
call_uses_law = λ c around names home e f s t g h b d k o u xs z. uses c around names home e f s t g h b d k.called k.typed k.written o u xs z
