-- Names of a program: identifiers, import paths and what is declared under them (Go specification, "Identifiers",
-- "Declarations and scope", "Import declarations").
use Rattle.std.specs.Prelude.{ℕ, Bool, true, false, List, [], ◌∷◌, ◌++◌, Option, Some, None, bytes_eq}
use Rattle.std.specs.Prelude.{◌&&◌, codes}

-- a text as its bytes
abbrev pub Text : Type 0
Text = List ℕ

-- the name of a local, a package variable or a function
abbrev pub Name : Type 0
Name = Text

-- the path of a package
abbrev pub ImportPath : Type 0
ImportPath = Text

-- two texts are equal
abbrev pub same_text : Text → Text → Bool
same_text = bytes_eq

-- names that no source can spell, since neither '.' nor '#' nor the byte 0 is a letter: of a translation's temporaries;
-- of a function's results, with or without a name, so that no other variable hides one; and spare ones for renaming
abbrev pub temporary : ℕ → Name
temporary k = 46 ∷ k ∷ []

-- the slot of a named result that is a variable of its own too
abbrev pub named_result : Name → Name
named_result x = 35 ∷ x

-- the slot of the result with this number, which has no name
abbrev pub result_name : ℕ → Name
result_name k = 35 ∷ 46 ∷ k ∷ []

-- the name with this number that the laws rename to
abbrev pub spare : ℕ → Name
spare k = 0 ∷ k ∷ []

-- a function, or a method with the name of its receiver's type
pub record FuncName : Type 0 where
  pub home : ImportPath
  pub receiver : Option Name
  pub name : Name

-- both are functions, or both are methods of types with one name
abbrev pub same_receiver : Option Name → Option Name → Bool
same_receiver None None = true
same_receiver (Some a) (Some b) = same_text a b
same_receiver None (Some b) = false
same_receiver (Some a) None = false

-- the same function of the same package
abbrev pub same_func : FuncName → FuncName → Bool
same_func f g = same_text f.home g.home && (same_receiver f.receiver g.receiver && same_text f.name g.name)

-- what a statement that leaves leads to. No source spells a label as the three words or with a blank
abbrev pub Label : Type 0
Label = Text

-- where 'return' leads to
abbrev pub return_label : Label
return_label = codes "return"

-- 'break' and 'continue' of the statement around, or of the statement with this label
abbrev pub break_label : Option Name → Label
break_label None = codes "break"
break_label (Some l) = codes "break " ++ l

-- 'continue' of the statement around, or of the statement with this label
abbrev pub continue_label : Option Name → Label
continue_label None = codes "continue"
continue_label (Some l) = codes "continue " ++ l
