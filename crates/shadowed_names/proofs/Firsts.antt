-- The first answer to the parts of a declaration that have flags is the first answer to all its parts, where both answer
-- alike.
use Rattle.std.proofs.Common.{◌≡◌, ◌∙◌, ℕ, ◌+◌, length, arith, Bool, true, false, List, [], ◌∷◌, ◌++◌, map, Option, Some, None, refl, sym, ap}
use Rattle.std.proofs.lemmas.List.{length-append, length-map}
use Rattle.go_tree.specs.Tree.{NameAt, TypeExpr, Expr, ident}
use Rattle.go_tree.specs.GoTypes.Answers.{given, one_of}
use Rattle.run_rules.specs.Obstacles.{first_answer}
use Rattle.run_rules.specs.Surroundings.{Use, stored, Place, Seen, seen, seen_type, seen_stmt, is_old}
use Rattle.run_rules.specs.Sites.{Part, an_expr, a_type_part, named_in}
use Rattle.member_uses.specs.PossibleUses.Candidates.{Candidate, plain_part}
use Rattle.member_uses.specs.PossibleUses.Parts.{put}
use Rattle.member_uses.specs.PossibleUses.Among.{may_be_use}
use Rattle.repeated_parts.specs.Flags.{Flags, put_flag, put_field}
use Rattle.repeated_parts.specs.Along.{is_again, key_as, FlagsAlong, past_a_use, past_no_use, past_a_key, past_a_field, past_an_old_name, past_a_type, past_a_statement}
use Rattle.repeated_parts.specs.Along as along
use Rattle.shadowed_names.specs.Told.{first_told}

module _ {A : Type 0} where
  pub one_of_none : (a : Option A) → one_of a None ≡ a
  one_of_none None = refl
  one_of_none (Some x) = refl

  pub one_of_assoc : (a b c : Option A) → one_of (one_of a b) c ≡ one_of a (one_of b c)
  one_of_assoc None b c = refl
  one_of_assoc (Some x) b c = refl

pub first_append : {A B : Type 0} (f : A → Option B) (xs ys : List A) → first_answer f (xs ++ ys) ≡ one_of (first_answer f xs) (first_answer f ys)
first_append f [] ys = refl
first_append f (x ∷ xs) ys = ap (one_of (f x)) (first_append f xs ys) ∙ sym (one_of_assoc (f x) (first_answer f xs) (first_answer f ys))

module _ {S A : Type 0} (f : Part S → Option A) (rule : Seen S → Option A) where
  abbrev C : Type 0
  C = Candidate S

  -- ---- both answer alike

  -- to an expression: as to the part where it may be a use, and else there is no answer
  pub record ExprAlike (p : Place S) (u : Use) (e : Expr S) : Type 0 where
    pub a_use : may_be_use e ≡ true → f (an_expr e) ≡ rule (seen p u e)
    pub no_use : may_be_use e ≡ false → rule (seen p u e) ≡ None

  -- there is no answer to a name on the left of `:=` that is there already
  abbrev pub OldAlike : Place S → Expr S → Type 0
  OldAlike p (ident s n) = is_old p (record { span = s; name = n }) ≡ true → rule (seen p stored (ident s n)) ≡ None
  OldAlike p e = Unit {0}

  abbrev pub PartAlike : Seen S → Type 0
  PartAlike (seen p u e) = ExprAlike p u e × OldAlike p e
  PartAlike (seen_type p t) = first_answer (λ x. f (a_type_part x)) (named_in t) ≡ rule (seen_type p t)
  PartAlike (seen_stmt p s) = rule (seen_stmt p s) ≡ None

  abbrev pub AllAlike : List (Seen S) → Type 0
  AllAlike [] = Unit {0}
  AllAlike (x ∷ xs) = PartAlike x × AllAlike xs

  -- ---- more parts

  more : (xs : List C) (ms : Flags) (ys : List C) (ns : Flags) → length xs ≡ length ms → first_told f (xs ++ ys) (ms ++ ns) ≡ one_of (first_told f xs ms) (first_told f ys ns)
  more [] [] ys ns e = refl
  more [] (m ∷ ms) ys ns e = absurd (omega (arith, e))
  more (x ∷ xs) [] ys ns e = absurd (omega (arith, e))
  more (x ∷ xs) (m ∷ ms) ys ns e =
      ap (one_of (given m (λ b. f x.part))) (more xs ms ys ns (omega (arith, e)))
      ∙ sym (one_of_assoc (given m (λ b. f x.part)) (first_told f xs ms) (first_told f ys ns))

  one_more : (xs : List C) (ms : Flags) (c : C) (m : Option Bool) → length xs ≡ length ms → first_told f (xs ++ c ∷ []) (ms ++ m ∷ []) ≡ one_of (first_told f xs ms) (given m (λ b. f c.part))
  one_more xs ms c m e = more xs ms (c ∷ []) (m ∷ []) e ∙ ap (one_of (first_told f xs ms)) (one_of_none (given m (λ b. f c.part)))

  types_told : (m : Bool) (ts : List (TypeExpr S)) → first_told f (map (λ x. plain_part (a_type_part x)) ts) (map (λ x. Some m) ts) ≡ first_answer (λ x. f (a_type_part x)) ts
  types_told m [] = refl
  types_told m (t ∷ ts) = ap (one_of (f (a_type_part t))) (types_told m ts)

  one_length : (c : C) (m : Option Bool) (xs : List C) (ms : Flags) → length xs ≡ length ms → length (xs ++ c ∷ []) ≡ length (ms ++ m ∷ [])
  one_length c m xs ms e = length-append xs (c ∷ []) ∙ ap (λ (k : ℕ). k + 1) e ∙ sym (length-append ms (m ∷ []))

  types_length : (m : Bool) (ts : List (TypeExpr S)) (xs : List C) (ms : Flags) → length xs ≡ length ms → length (xs ++ map (λ x. plain_part (a_type_part x)) ts) ≡ length (ms ++ map (λ x. Some m) ts)
  types_length m ts xs ms e =
      length-append xs (map (λ x. plain_part (a_type_part x)) ts)
      ∙ (λ v. e v + length-map ts (λ x. plain_part (a_type_part x)) v)
      ∙ sym (length-append ms (map (λ x. Some m) ts) ∙ ap (λ (k : ℕ). length ms + k) (length-map ts (λ x. Some m)))

  -- ---- along all parts

  in_front : (x : Seen S) (ys : List (Seen S)) (was now all : Option A) → now ≡ one_of was (rule x) → one_of now (first_answer rule ys) ≡ all → one_of was (first_answer rule (x ∷ ys)) ≡ all
  in_front x ys was now all e h = sym (one_of_assoc was (rule x) (first_answer rule ys)) ∙ ap (λ (o : Option A). one_of o (first_answer rule ys)) (sym e) ∙ h

  nothing : (x : Seen S) (was : Option A) → rule x ≡ None → was ≡ one_of was (rule x)
  nothing x was e = sym (ap (one_of was) e ∙ one_of_none was)

  pub firsts_are : {xs zs : List C} {ms ns : Flags} {ys : List (Seen S)} → FlagsAlong xs ms ys zs ns → length xs ≡ length ms → AllAlike ys → one_of (first_told f xs ms) (first_answer rule ys) ≡ first_told f zs ns
  firsts_are {xs = xs} {ms = ms} along.at_the_end q a = one_of_none (first_told f xs ms)
  firsts_are {xs = xs} {zs = zs} {ms = ms} {ns = ns} (past_a_use {ys = ys} {p = p} {u = u} {e = e} h d) q a =
      in_front (seen p u e) ys (first_told f xs ms) (first_told f (put (plain_part (an_expr e)) xs) (put_flag (is_again p) ms)) (first_told f zs ns)
      (one_more xs ms (plain_part (an_expr e)) (Some (is_again p)) q ∙ ap (one_of (first_told f xs ms)) (a.0.0.a_use h))
      (firsts_are d (one_length (plain_part (an_expr e)) (Some (is_again p)) xs ms q) a.1)
  firsts_are {xs = xs} {zs = zs} {ms = ms} {ns = ns} (past_no_use {ys = ys} {p = p} {u = u} {e = e} h d) q a =
      in_front (seen p u e) ys (first_told f xs ms) (first_told f xs ms) (first_told f zs ns) (nothing (seen p u e) (first_told f xs ms) (a.0.0.no_use h)) (firsts_are d q a.1)
  firsts_are {xs = xs} {zs = zs} {ms = ms} {ns = ns} (past_a_key {ys = ys} {p = p} {u = u} {s = s} {n = n} v d) q a =
      in_front (seen p u (ident s n)) ys (first_told f xs ms) (first_told f (put (key_as v s n) xs) (put_flag (is_again p) ms)) (first_told f zs ns)
      (one_more xs ms (key_as v s n) (Some (is_again p)) q ∙ ap (one_of (first_told f xs ms)) (a.0.0.a_use refl))
      (firsts_are d (one_length (key_as v s n) (Some (is_again p)) xs ms q) a.1)
  firsts_are {xs = xs} {zs = zs} {ms = ms} {ns = ns} (past_a_field {ys = ys} v s n d) q a =
      ap (λ (o : Option A). one_of o (first_answer rule ys)) (sym (one_more xs ms (key_as v s n) None q ∙ one_of_none (first_told f xs ms)))
      ∙ firsts_are d (one_length (key_as v s n) None xs ms q) a
  firsts_are {xs = xs} {zs = zs} {ms = ms} {ns = ns} (past_an_old_name {ys = ys} {p = p} {n = n} h d) q a =
      in_front (seen p stored (ident n.span n.name)) ys (first_told f xs ms) (first_told f xs ms) (first_told f zs ns)
      (nothing (seen p stored (ident n.span n.name)) (first_told f xs ms) (a.0.1 h)) (firsts_are d q a.1)
  firsts_are {xs = xs} {zs = zs} {ms = ms} {ns = ns} (past_a_type {ys = ys} {p = p} {t = t} d) q a =
      in_front (seen_type p t) ys (first_told f xs ms) (first_told f (xs ++ map (λ x. plain_part (a_type_part x)) (named_in t)) (ms ++ map (λ x. Some (is_again p)) (named_in t))) (first_told f zs ns)
      (more xs ms (map (λ x. plain_part (a_type_part x)) (named_in t)) (map (λ x. Some (is_again p)) (named_in t)) q
      ∙ ap (one_of (first_told f xs ms)) (types_told (is_again p) (named_in t) ∙ a.0))
      (firsts_are d (types_length (is_again p) (named_in t) xs ms q) a.1)
  firsts_are {xs = xs} {zs = zs} {ms = ms} {ns = ns} (past_a_statement {ys = ys} {p = p} {s = s} d) q a =
      in_front (seen_stmt p s) ys (first_told f xs ms) (first_told f xs ms) (first_told f zs ns) (nothing (seen_stmt p s) (first_told f xs ms) a.0) (firsts_are d q a.1)
