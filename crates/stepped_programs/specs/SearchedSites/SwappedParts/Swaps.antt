-- Parts of declarations that may be uses, with those of one name in the place of those of another (Go specification,
-- Operands; Qualified identifiers; Selectors).
use Rattle.std.specs.Prelude.{◌≡◌, Bool, true, List, [], ◌∷◌, ◌++◌, map}
use Rattle.go_tree.specs.Tree.{Expr}
use Rattle.member_uses.specs.PossibleUses.Candidates.{Candidate}
use Rattle.member_uses.specs.PossibleUses.Parts.{after_expr}
use Rattle.run_rules.specs.Sites.{Part, part_span}

module _ {S : Type 0} where
  -- parts without whether they are keys
  abbrev pub parts_in : List (Candidate S) → List (Part S)
  parts_in cs = map (λ c. c.part) cs

  -- their spans
  abbrev pub spans_in : List (Candidate S) → List S
  spans_in cs = map part_span (parts_in cs)

  -- The parts of the second list are those of the first, with those of `new` in the place of those of `use_`; the spans
  -- of the others stay.
  pub record PartsSwap (use_ new : Expr S) (old now : List (Candidate S)) : Type 0 where
    pub front : List (Part S)
    pub back : List (Part S)
    pub old_is : parts_in old ≡ front ++ (parts_in (after_expr use_ []) ++ back)
    pub now_is : spans_in now ≡ map part_span front ++ (spans_in (after_expr new []) ++ map part_span back)

  -- the test holds of each span
  abbrev pub EachSpan : (S → Bool) → List S → Type 0
  EachSpan p [] = Unit {0}
  EachSpan p (s ∷ ss) = (p s ≡ true) × EachSpan p ss
