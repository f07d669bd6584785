-- A declaration of the package block before a step and after it.
use Rattle.std.proofs.Common.{refl, ℕ, suc, Bool, List, [], ◌∷◌, ◌++◌, map, Option, Some, None}
use Rattle.go_tree.specs.Tree.{named, const_decl, var_decl, Expr, ident, int_lit, rune_lit, str_lit, composite, selector, index, slice, call, func_lit, type_operand, unary, binary, star, ValueSpecs, no_specs, spec}
use Rattle.go_tree.specs.File.{TypeSpec, Receiver, Func, Decl, values, types, func, File}
use Rattle.pkg_graph.specs.Package.{Package}
use Rattle.constant_forms.specs.Views.{name_expr}
use Rattle.printed_constants.specs.TypedParts.StandingUses.ImportUses.Parts as parts
use Rattle.printed_constants.specs.TypedParts.StandingUses.ImportUses.Parts.{EachSeen, IsKeyed, IsName}
use Rattle.printed_constants.proofs.TypedParts.StandingUses.ImportUses.Stays.{change}
use Rattle.printed_constants.proofs.TypedParts.StandingUses.ImportUses.Walk.{IsForm, a_form, a_qualified}
use Rattle.printed_constants.proofs.TypedParts.StandingUses.ImportUses.Once.{is_form}
use Rattle.member_uses.specs.PossibleUses.Among.{Keyed}
use Rattle.member_uses.specs.PossibleUses.Candidates.{Candidate, plain_part, receiver_part}
use Rattle.member_uses.specs.PossibleUses.Parts.{after_specs, after_types, after_receiver, after_func, after_decl}
use Rattle.run_rules.specs.Forms.{is_at}
use Rattle.run_rules.specs.Programs.{top_place, body_place, constants_at_top, variables_at_top, types_at_top, receiver_seen, func_seen, decl_seen}
use Rattle.run_rules.specs.Rewriting.{Changes, new_sig, new_stmts}
use Rattle.run_rules.specs.Steps.{At, same_here, new_constants, new_variables, new_receiver_option, new_type_spec, new_decl}
use Rattle.run_rules.specs.Surroundings.{Place, Seen, seen, seen_type, seen_stmt, in_constant, alike, value_use}
use Rattle.stepped_programs.specs.SearchedSites.SwappedParts.Laws.{StepsSwapParts}
use Rattle.stepped_programs.proofs.SearchedSites.SwappedParts.Lists as lists
use Rattle.stepped_programs.proofs.SearchedSites.SwappedParts.Walk as walk
use Rattle.stepped_programs.proofs.SearchedSites.SwappedParts.Walk.{Go}

module _ {S : Type 0} (hits : Expr S → Bool) (use_ new : Expr S) (use_form : IsForm use_) (new_form : IsForm new) (same : S → S → Bool) (ps : List (Package S)) where
  abbrev c : Changes S
  c = change hits new

  abbrev Cs : Type 0
  Cs = List (Candidate S)

  abbrev Goes : List (Seen S) → Cs → Cs → Cs → Cs → Type 0
  Goes all xs ys us vs = Go hits use_ new use_form new_form all xs ys us vs

  stay : {xs ys : Cs} → Goes [] xs ys xs ys
  stay = lists.nothing hits use_ new use_form new_form

  both : {all more : List (Seen S)} {xs ys us vs ws zs : Cs} → Goes all xs ys us vs → Goes more us vs ws zs → Goes (all ++ more) xs ys ws zs
  both g k = lists.both hits use_ new use_form new_form g k

  constants_top : (p : Place S) (i : ℕ) (ss : ValueSpecs S) (xs ys : Cs) → Goes (constants_at_top ps p i ss) xs ys (after_specs ss xs) (after_specs (new_constants same ps c p i ss) ys)
  constants_top p i no_specs xs ys = stay
  constants_top p i (spec s ns t es ss) xs ys =
      both (both (walk.written_goes hits use_ new use_form new_form (in_constant i p) t xs ys) (walk.all_go hits use_ new use_form new_form (in_constant i p) (alike (value_use p.env t) ns) es _ _)) (constants_top p (suc i) ss _ _)

  variables_top : (p : Place S) (ss : ValueSpecs S) (xs ys : Cs) → Goes (variables_at_top ps p ss) xs ys (after_specs ss xs) (after_specs (new_variables same ps c p ss) ys)
  variables_top p no_specs xs ys = stay
  variables_top p (spec s ns t es ss) xs ys =
      both (both (walk.written_goes hits use_ new use_form new_form p t xs ys) (walk.all_go hits use_ new use_form new_form p (alike (value_use p.env t) ns) es _ _)) (variables_top p ss _ _)

  types_top : (p : Place S) (ts : List (TypeSpec S)) (xs ys : Cs) → Goes (types_at_top ps p ts) xs ys (after_types ts xs) (after_types (map (new_type_spec same ps c p) ts) ys)
  types_top p [] xs ys = stay
  types_top p (t ∷ ts) xs ys = both {all = seen_type p t.of ∷ []} (lists.type_goes hits use_ new use_form new_form p t.of xs ys) (types_top p ts _ _)

  receiver_goes : (p : Place S) (r : Option (Receiver S)) (xs ys : Cs) → Goes (receiver_seen ps p r) xs ys (after_receiver r xs) (after_receiver (new_receiver_option same ps c p r) ys)
  receiver_goes p None xs ys = stay
  receiver_goes p (Some r) xs ys =
      lists.past_type hits use_ new use_form new_form p (named r.of.span None r.of)
      (lists.put_goes hits use_ new use_form new_form (plain_part (receiver_part r.of)) (plain_part (receiver_part r.of)) refl)

  module _ (k : ℕ) (pk : Package S) (file : File S) where
    abbrev there : Place S
    there = top_place ps k pk file

    func_goes : (x : Func S) (xs ys : Cs)
        → Goes (func_seen ps k pk file x) xs ys (after_func x xs)
        (after_func (record x { receiver = new_receiver_option same ps c there x.receiver; sig = new_sig c there x.sig; body = new_stmts c (body_place ps k pk file x) x.body }) ys)
    func_goes x xs ys =
        both (both (receiver_goes there x.receiver xs ys) (walk.sig_goes hits use_ new use_form new_form there there x.sig _ _))
        (walk.stmts_go hits use_ new use_form new_form (body_place ps k pk file x) x.body _ _)

    pub decl_goes : (d : Decl S) (xs ys : Cs) → Goes (decl_seen ps k pk file d) xs ys (after_decl d xs) (after_decl (new_decl same ps c k pk file d) ys)
    decl_goes (values (const_decl s a ss)) xs ys = constants_top there 0 ss xs ys
    decl_goes (values (var_decl s a ss)) xs ys = variables_top there ss xs ys
    decl_goes (values s) xs ys = stay
    decl_goes (types s a ts) xs ys = types_top there ts xs ys
    decl_goes (func x) xs ys = func_goes x xs ys

-- ---- what is asked

module _ {S : Type 0} where
  -- what is said of all literals is said of each
  each_asked : (xs : List (Seen S)) → Keyed xs → EachSeen IsKeyed xs
  each_asked [] h = tt
  each_asked (seen p u (ident s n) ∷ xs) h = (tt, each_asked xs h)
  each_asked (seen p u (int_lit s n) ∷ xs) h = (tt, each_asked xs h)
  each_asked (seen p u (rune_lit s n) ∷ xs) h = (tt, each_asked xs h)
  each_asked (seen p u (str_lit s n) ∷ xs) h = (tt, each_asked xs h)
  each_asked (seen p u (composite s y es) ∷ xs) h = (h.0, each_asked xs h.1)
  each_asked (seen p u (selector s b n) ∷ xs) h = (tt, each_asked xs h)
  each_asked (seen p u (index s b i) ∷ xs) h = (tt, each_asked xs h)
  each_asked (seen p u (slice s b i j) ∷ xs) h = (tt, each_asked xs h)
  each_asked (seen p u (call s f ys r) ∷ xs) h = (tt, each_asked xs h)
  each_asked (seen p u (func_lit s g z b) ∷ xs) h = (tt, each_asked xs h)
  each_asked (seen p u (type_operand s y) ∷ xs) h = (tt, each_asked xs h)
  each_asked (seen p u (unary s o e) ∷ xs) h = (tt, each_asked xs h)
  each_asked (seen p u (binary s o a b) ∷ xs) h = (tt, each_asked xs h)
  each_asked (seen p u (star s e) ∷ xs) h = (tt, each_asked xs h)
  each_asked (seen_type p y ∷ xs) h = (tt, each_asked xs h)
  each_asked (seen_stmt p s ∷ xs) h = (tt, each_asked xs h)

  -- a use is such a name
  use_is : {p : Place S} {e : Expr S} → IsName p e → IsForm e
  use_is (parts.alone s n h) = a_form s n
  use_is (parts.behind s z q n) = a_qualified s z q n

pub swap_parts : StepsSwapParts
swap_parts ps w d p e z at q n is_name no_old once keyed =
    let hits : Expr At → Bool = is_at same_here z in
    let g = decl_goes hits e (name_expr at q n) (use_is is_name) (is_form at q n) same_here ps w.number w.of w.source.tree d [] [] in
    g.hit p no_old (each_asked (decl_seen ps w.number w.of w.source.tree d) keyed) once refl
