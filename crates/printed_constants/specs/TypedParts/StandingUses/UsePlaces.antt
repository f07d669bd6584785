-- Where the uses of marked declarations stand: no place asks for parentheses around a name, and what a step replaces
-- stands behind the imports of its file. Laws alone, without code.
pub mod Laws
